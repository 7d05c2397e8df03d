-- Two permitted outcomes are equal. Assumes nothing.
use Rattle.std.specs.Prelude.{Result}
use Prim.Native.Nat.{ℕ}
use mathlib.Core.List.{List}
use Rattle.laws.proofs.Pinned.{Pinned, pinned}
use Rattle.fields.specs.Asked.{asked_of}
use Rattle.fields.specs.declared.asked.Asked.{Asked}
use Rattle.event.specs.declared.Refusal.{Refusal}

pub asked-pinned : (s : List ℕ) → Pinned (Result Asked Refusal) (asked_of s)
asked-pinned s = pinned _
