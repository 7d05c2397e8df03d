-- A string in so many places, with its length. Assumes nothing: these are definitions.
use Rattle.std.specs.Prelude.{ℕ, min, List, length, take, replicate}
use Rattle.strings.specs.Bytes.{padded}
use Rattle.strings.specs.declared.Kept.{Kept}

-- nothing is kept: zeros alone
abbrev pub kept_none : (places : ℕ) → Kept places
kept_none places = record { bytes = replicate places 0; len = 0 }

-- a string, cut to the places; zeros follow it
abbrev pub kept_of : (places : ℕ) → List ℕ → Kept places
kept_of places c = record { bytes = padded places c; len = min (length c) places }

-- the bytes that are kept: those after the length are never judged
abbrev pub kept_bytes : {places : ℕ} → Kept places → List ℕ
kept_bytes k = take k.len k.bytes
