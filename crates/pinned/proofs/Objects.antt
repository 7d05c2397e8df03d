-- Two permitted outcomes of each public function are equal. Assumes nothing.
use Rattle.std.specs.Prelude.{Option}
use Prim.Native.Nat.{ℕ}
use mathlib.Core.Bool.{Bool}
use mathlib.Core.List.{List}
use Rattle.laws.proofs.Pinned.{Pinned, pinned}
use Rattle.objects.specs.Objects.{objects, within, objects_in, found_in}
use Rattle.objects.specs.declared.Content.{Content}

pub read-list-pinned : (s : List ℕ) (below left : ℕ) → Pinned (Option ℕ) (within left (objects below s))
read-list-pinned s below left = pinned _

pub read-objects-pinned : (s : List ℕ) → Pinned (Option ℕ) (objects_in s)
read-objects-pinned s = pinned _

pub find-pinned : (s : List ℕ) (tag : ℕ) (nests : Bool) → Pinned (Option Content) (found_in tag nests s)
find-pinned s tag nests = pinned _
