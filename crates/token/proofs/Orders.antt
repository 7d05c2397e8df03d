-- The order of the checks, as the documents name it: a way out of each. Assumes nothing.
use Rattle.std.specs.Prelude.{Result, Err, ⊤}
use Prim.Native.Nat.{ℕ}
use mathlib.Core.Bool.{Bool, true, false, not}
use mathlib.Core.Path.{◌≡◌, sym, ap, ◌∙◌}
use mathlib.Core.List.{List}
use Rattle.event.specs.declared.Refusal.TheVariants.{Outside}
use Rattle.event.specs.declared.Loss.{Loss}
use Rattle.event.specs.declared.Event.TheVariants.{Refused, Lost}
use Rattle.plans.specs.declared.Note.{Note}
use Rattle.event.specs.declared.Loss.{Loss}
use Rattle.brought.specs.declared.Brought.{Brought}
use Rattle.plans.specs.declared.Job.{Job}
use Rattle.plans.specs.declared.Plan.{Plan}
use Rattle.plans.specs.Plans.{settled_by, guard_of, ending_job}
use Rattle.fields.specs.declared.asked.Ask.{Ask}
use Rattle.standing.specs.Standing.{is_open}
use Rattle.token.specs.declared.state.Token.{Token}
use Rattle.token.specs.Limits.{in_limits}
use Rattle.token.specs.Plan.{command_of, guarded, plan_of}

module _ (t : Token) where
  pub command-arm : (b : Brought) (x d : Ask) (r : Plan) → x ≡ d → r ≡ command_of t b d → r ≡ command_of t b x
  command-arm b x d r e z = z ∙ ap (λ (y : Ask). command_of t b y) (sym e)

  module _ (s : List ℕ) (note : Note) (r : Plan) (b : Bool) (h : b ≡ in_limits t) where
    pub outside : not b ≡ true → r ≡ settled_by (Refused Outside) → r ≡ plan_of t s note
    unfolding plan_of
    outside y z = rw (← h, y) z

    module _ (y : not b ≡ false) (o : Bool) (f : o ≡ is_open t.session.context.opened) (g : Result ⊤ Loss) (q : g ≡ guard_of note o) where
      pub dropped : (l : Loss) → g ≡ Err l → r ≡ settled_by (Lost l) → r ≡ plan_of t s note
      unfolding plan_of guarded
      dropped l e z = rw (← h, y, ← f, sym q ∙ e) z

pub job_is : (p q : Plan) (j : Job) → p ≡ q → j ≡ ending_job p.ending → j ≡ ending_job q.ending
job_is p q j e f = f ∙ ap (λ (x : Plan). ending_job x.ending) e
