-- Two permitted outcomes of each public function are equal. Assumes nothing.
use Rattle.std.specs.Prelude.{Option}
use Prim.Native.Nat.{ℕ}
use mathlib.Core.Bool.{Bool, false}
use mathlib.Core.List.{List}
use Rattle.laws.proofs.Pinned.{Pinned, pinned}
use Rattle.objects.specs.declared.Content.{Content}
use Rattle.names.specs.Names.{is_name}
use Rattle.taking.specs.Taking.{fitted, last_of, is_all, sized, holds}

pub identified-pinned : (s id : List ℕ) → Pinned (Option Content) (fitted 0x80 false (is_all id) s)
identified-pinned s id = pinned _

pub named-pinned : (s : List ℕ) → Pinned (Option Content) (fitted 0x83 false is_name s)
named-pinned s = pinned _

pub sized-pinned : (s : List ℕ) (tag least most : ℕ) → Pinned (Option Content) (fitted tag false (sized least most) s)
sized-pinned s tag least most = pinned _

pub last-pinned : (f : Option Content) (stop : ℕ) → Pinned (Option Content) (last_of stop f)
last-pinned f stop = pinned _

pub holds-pinned : (s : List ℕ) (tag least most : ℕ) → Pinned Bool (holds tag least most s)
holds-pinned s tag least most = pinned _
