-- Two permitted outcomes of each public function are equal. Assumes nothing.
use Prim.Native.Nat.{ℕ}
use mathlib.Core.Path.{◌≡◌}
use mathlib.Core.List.{List}
use Rattle.laws.proofs.Pinned.{Pinned, pinned}
use Rattle.days.specs.declared.Day.{Day}
use Rattle.certificate.specs.declared.Certificate.{Certificate}
use Rattle.plans.specs.Plans.{ending_job}
use Rattle.plans.specs.declared.Note.{Note}
use Rattle.plans.specs.declared.Job.{Job}
use Rattle.trust.specs.Trust.{one_point, two_points}
use Rattle.token.specs.State.{no_token, made_of, reset_of}
use Rattle.token.specs.Plan.{plan_of}
use Rattle.token.specs.Step.{Exchange, Steps}
use Rattle.token.specs.declared.state.Token.{Token}
use Rattle.status.specs.declared.Unfit.{Unfit}
use Rattle.std.specs.Prelude.{Result}
use Rattle.token.specs.declared.step.Outcome.{Outcome}

-- ---- state

pub none-pinned : Pinned Token no_token
none-pinned = pinned _

pub with-one-pinned : (newest : Certificate) (today : Day) → Pinned (Result Token Unfit) (made_of (one_point newest) today)
with-one-pinned newest today = pinned _

pub with-two-pinned : (newest previous : Certificate) (today : Day) → Pinned (Result Token Unfit) (made_of (two_points newest previous) today)
with-two-pinned newest previous today = pinned _

pub reset-pinned : (t : Token) → Pinned Token (reset_of t)
reset-pinned t = pinned _

-- ---- job

pub job-pinned : (t : Token) (s : List ℕ) (note : Note) → Pinned Job (ending_job (plan_of t s note).ending)
job-pinned t s note = pinned _

-- ---- step: the token, the length, and the buffer at exit

pub step-pinned : (t : Token) (x : Exchange) (out : List ℕ) (a b : Outcome) (o p : List ℕ) → Steps t x out o a.token a.len → Steps t x out p b.token b.len
    → (a.token ≡ b.token) × (a.len ≡ b.len) × (o ≡ p)
step-pinned t x out a b o p v w =
    (pinned _ a.token b.token v.token w.token, pinned _ a.len b.len v.reply.0 w.reply.0, pinned _ o p v.reply.1 w.reply.1)
