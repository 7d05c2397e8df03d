-- Any two outcomes of `buffers` that its contracts permit are equal. Assumes nothing.
use Prim.Native.Nat.{ℕ, ◌+◌}
use mathlib.Core.Bool.{Bool}
use mathlib.Core.Path.{◌≡◌}
use mathlib.Core.List.{List}
use lib.Dec.{leb}
use Rattle.laws.proofs.Pinned.{Pinned, pinned}
use Rattle.buffers.specs.Lay.{Put}
use Rattle.buffers.specs.Room.{fitting}
use Rattle.buffers.specs.Laid.{Laid}
use Rattle.buffers.specs.declared.Sheet.{Sheet}
use Rattle.std.proofs.Common.{MutBor}

pub has-room-pinned : (size at n : ℕ) → Pinned Bool (leb (at + n) size)
has-room-pinned size at n = pinned _

-- a buffer and the place after a piece
pub put-pinned : (at : ℕ) (s out : List ℕ) (r q : ℕ) (o p : List ℕ) → Put at (fitting at s out) out o r → Put at (fitting at s out) out p q → (r ≡ q) × (o ≡ p)
put-pinned at s out r q o p a b = (pinned _ r q a.0 b.0, pinned _ o p a.1 b.1)

-- a sheet: its place and what its buffer holds
pub laid-pinned : (s : List ℕ) (x a b : Sheet) → Laid s x a → Laid s x b → (a.at ≡ b.at) × (a.out.now ≡ b.out.now)
laid-pinned s x a b l m = put-pinned x.at s x.out.now a.at b.at a.out.now b.out.now l.written m.written

pub sheet-new-pinned : (out : MutBor (List ℕ)) → Pinned Sheet (record { out = out; at = 0 })
sheet-new-pinned out = pinned _
