-- "Names: two letters A-Z, 1 to 9 bytes 20..7E or A0..FF, five of 0-9 or A-Z." Assumes nothing: these are definitions.
use Rattle.std.specs.Prelude.{ℕ, ◌+◌, ◌-◌, List, Bool, ◌&&◌, length, take, drop, leb}
use Rattle.strings.specs.Bytes.{eqbs, among, all_of}
use Rattle.strings.specs.Kept.{kept_none, kept_of, kept_bytes}
use Rattle.strings.specs.declared.Class.TheVariants.{Letter, Latin, Serial}
use Rattle.names.specs.declared.Name.{Name}

-- the places of a stored name: as many bytes as a name has at most
abbrev pub places : ℕ
places = 2 + 9 + 5

-- two letters, then all but the last five, then those
unfoldable pub is_name : List ℕ → Bool
is_name c =
    among (2 + 1 + 5) places (length c)
    && (all_of Letter (take 2 c) && all_of Latin (take (length c - 5 - 2) (drop 2 c)) && all_of Serial (drop (length c - 5) c))

-- a name taken from a string: zeros follow it
unfoldable pub name_of : List ℕ → Name
name_of c = record { 0 = kept_of places c }

unfoldable pub no_name : Name
no_name = record { 0 = kept_none places }

-- a stored name's own bytes: those after its length are never judged
abbrev pub name_bytes : Name → List ℕ
name_bytes n = kept_bytes n.0

-- a stored name is one
unfoldable pub name_fits : Name → Bool
name_fits n = leb n.0.len places && is_name (name_bytes n)

-- two names are the same
unfoldable pub same_name : Name → Name → Bool
same_name a b = eqbs (name_bytes a) (name_bytes b)
