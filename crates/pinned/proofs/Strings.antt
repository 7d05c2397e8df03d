-- Two permitted outcomes of each public function are equal. Assumes nothing.
use Prim.Native.Nat.{ℕ, min, ◌%◌, ◌^◌}
use mathlib.Core.Bool.{Bool}
use mathlib.Core.List.{List}
use lib.ListN.{length}
use Rattle.laws.proofs.Pinned.{Pinned, pinned}
use Rattle.strings.specs.Bytes.{eqbs, all_of, number, copied_into}
use Rattle.strings.specs.Kept.{kept_none, kept_of, kept_bytes}
use Rattle.strings.specs.declared.Kept.{Kept}
use Rattle.keys.specs.Keys.{no_key, key_of, key_bytes, key_is, key_fits, key_stands}
use Rattle.names.specs.Names.{is_name, no_name, name_of, name_bytes, same_name, name_fits}
use Rattle.strings.specs.declared.Class.{Class}
use Rattle.keys.specs.declared.Key.{Key}
use Rattle.names.specs.declared.Name.{Name}

-- ---- bytes

pub same-pinned : (a b : List ℕ) → Pinned Bool (eqbs a b)
same-pinned a b = pinned _

pub all-pinned : (class : Class) (s : List ℕ) → Pinned Bool (all_of class s)
all-pinned class s = pinned _

pub clip-pinned : (n most : ℕ) → Pinned ℕ (min n most)
clip-pinned n most = pinned _

pub copy-pinned : (out s : List ℕ) → Pinned (ℕ × List ℕ) (min (length s) (length out), copied_into out s)
copy-pinned out s = pinned _

-- ---- key

pub key-none-pinned : Pinned Key no_key
key-none-pinned = pinned _

pub key-of-pinned : (s : List ℕ) → Pinned Key (key_of s)
key-of-pinned s = pinned _

pub key-is-pinned : (k : Key) (s : List ℕ) → Pinned Bool (key_is k s)
key-is-pinned k s = pinned _

pub key-fits-pinned : (k : Key) → Pinned Bool (key_fits k)
key-fits-pinned k = pinned _

pub key-stands-pinned : (k : Key) → Pinned Bool (key_stands k)
key-stands-pinned k = pinned _

-- ---- name

pub is-name-pinned : (s : List ℕ) → Pinned Bool (is_name s)
is-name-pinned s = pinned _

pub name-none-pinned : Pinned Name no_name
name-none-pinned = pinned _

pub name-of-pinned : (s : List ℕ) → Pinned Name (name_of s)
name-of-pinned s = pinned _

pub name-same-pinned : (n other : Name) → Pinned Bool (same_name n other)
name-same-pinned n other = pinned _

pub name-fits-pinned : (n : Name) → Pinned Bool (name_fits n)
name-fits-pinned n = pinned _

pub kept-none-pinned : (places : ℕ) → Pinned (Kept places) (kept_none places)
kept-none-pinned places = pinned _

pub kept-of-pinned : (places : ℕ) (s : List ℕ) → Pinned (Kept places) (kept_of places s)
kept-of-pinned places s = pinned _

pub kept-bytes-pinned : {places : ℕ} (k : Kept places) → Pinned (List ℕ) (kept_bytes k)
kept-bytes-pinned k = pinned _

pub number-pinned : (base first : ℕ) (s : List ℕ) → Pinned ℕ (number base first s % 2 ^ 64)
number-pinned base first s = pinned _

pub key-bytes-pinned : (k : Key) → Pinned (List ℕ) (key_bytes k)
key-bytes-pinned k = pinned _

pub name-bytes-pinned : (n : Name) → Pinned (List ℕ) (name_bytes n)
name-bytes-pinned n = pinned _
