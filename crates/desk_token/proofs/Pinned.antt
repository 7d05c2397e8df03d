-- Two permitted outcomes of each public function are equal. Assumes nothing.
use Rattle.std.specs.Prelude.{Result}
use Prim.Native.Nat.{ℕ}
use mathlib.Core.Path.{◌≡◌}
use mathlib.Core.List.{List}
use Rattle.laws.proofs.Pinned.{Pinned, pinned}
use Rattle.buffers.specs.Lay.{Written}
use Rattle.token.specs.Step.{Exchange}
use Rattle.status.specs.declared.Unfit.{Unfit}
use Rattle.token.specs.declared.state.Token.{Token}
use Rattle.desk_token.specs.Moves.{empty_desk, personalised_of, reset_desk, stepped_desk, reply_from}
use Rattle.desk_token.specs.declared.Desk.{Desk}
use Rattle.desk_token.specs.declared.Turn.{Turn}

pub none-pinned : Pinned Desk empty_desk
none-pinned = pinned _

pub personalised-pinned : (d : Desk) (p : Result Token Unfit) → Pinned Desk (personalised_of d p)
personalised-pinned d p = pinned _

pub reset-pinned : (d : Desk) → Pinned Desk (reset_desk d)
reset-pinned d = pinned _

-- the desk, the length, and the buffer at exit
pub step-pinned : (d : Desk) (x : Exchange) (out : List ℕ) (a b : Turn) (o p : List ℕ)
    → a.desk ≡ stepped_desk d x
    → Written (reply_from d x) out o a.len
    → b.desk ≡ stepped_desk d x
    → Written (reply_from d x) out p b.len
    → (a.desk ≡ b.desk) × (a.len ≡ b.len) × (o ≡ p)
step-pinned d x out a b o p e v f w =
    (pinned _ a.desk b.desk e f, pinned _ a.len b.len v.0 w.0, pinned _ o p v.1 w.1)
