-- Two permitted outcomes of each public function are equal. Assumes nothing.
use Rattle.std.specs.Prelude.{Result}
use Prim.Native.Nat.{ℕ}
use mathlib.Core.List.{List}
use Rattle.laws.proofs.Pinned.{Pinned, pinned}
use Rattle.bodies.specs.Body.{unread, body_of, signed_of}
use Rattle.bodies.specs.declared.Body.{Body}
use Rattle.status.specs.declared.Unfit.{Unfit}

pub none-pinned : Pinned (Result Body Unfit) unread
none-pinned = pinned _

pub read-body-pinned : (s : List ℕ) → Pinned (Result Body Unfit) (body_of s)
read-body-pinned s = pinned _

pub read-signed-pinned : (s : List ℕ) → Pinned (Result Body Unfit) (signed_of s)
read-signed-pinned s = pinned _
