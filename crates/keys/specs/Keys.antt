-- The compressed key of an announcement, 1 to 66 bytes. Assumes nothing: these are definitions.
use Rattle.std.specs.Prelude.{ℕ, List, Bool, length, leb}
use Rattle.strings.specs.Bytes.{eqbs, among}
use Rattle.strings.specs.Kept.{kept_none, kept_of, kept_bytes}
use Rattle.keys.specs.declared.Key.{Key}

-- the places of a stored key
abbrev pub places : ℕ
places = 66

-- a string that is a key
unfoldable pub is_key : List ℕ → Bool
is_key c = among 1 places (length c)

-- a key taken from a string: zeros follow it
unfoldable pub key_of : List ℕ → Key
key_of c = record { 0 = kept_of places c }

unfoldable pub no_key : Key
no_key = record { 0 = kept_none places }

-- a stored key's own bytes
abbrev pub key_bytes : Key → List ℕ
key_bytes k = kept_bytes k.0

-- "compared whole"
unfoldable pub key_is : Key → List ℕ → Bool
key_is k s = eqbs (key_bytes k) s

-- the stored length is within its limit, and there is a key
unfoldable pub key_fits : Key → Bool
key_fits k = leb k.0.len places

unfoldable pub key_stands : Key → Bool
key_stands k = leb 1 k.0.len
