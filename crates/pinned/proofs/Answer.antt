-- Two permitted outcomes of the public function are equal. Assumes nothing.
use Prim.Native.Nat.{ℕ}
use mathlib.Core.Path.{◌≡◌}
use mathlib.Core.List.{List}
use lib.ListN.{length}
use Rattle.laws.proofs.Pinned.{pinned}
use Rattle.event.specs.declared.Event.{Event}
use Rattle.trust.specs.declared.Points.{Points}
use Rattle.buffers.specs.Lay.{Written}
use Rattle.answer.specs.Answer.{reply_to}

-- the length and the buffer at exit
pub answer-pinned : (h : Points) (e : Event) (first out o p : List ℕ) (m n : ℕ) → Written (reply_to h e first (length out)) out o m → Written (reply_to h e first (length out)) out p n
    → (m ≡ n) × (o ≡ p)
answer-pinned h e first out o p m n v w = (pinned _ m n v.0 w.0, pinned _ o p v.1 w.1)
