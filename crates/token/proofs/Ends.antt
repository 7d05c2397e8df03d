-- The whole step, over plain values. Assumes nothing.
use Prim.Native.Nat.{ℕ, ◌≤◌, ◌<◌}
use mathlib.Core.Path.{◌≡◌, refl, sym, subst⁻¹}
use mathlib.Core.List.{List}
use borrow.Author.Tests.{lt-ltb, le-ltb}
use lib.ListN.{length, take}
use lib.Seq.{length-take-le}
use Rattle.plans.specs.declared.Note.{Note}
use Rattle.plans.specs.declared.Plan.{Plan}
use Rattle.verdicts.specs.declared.Answered.{Answered}
use Rattle.verdicts.specs.declared.Happened.{Happened}
use Rattle.verdicts.specs.Verdicts.{decided_of}
use Rattle.verdicts.proofs.Decisions.{answer-in}
use Rattle.buffers.specs.Lay.{Written}
use Rattle.reply.specs.Reply.{room}
use Rattle.answer.specs.Answer.{reply_to}
use Rattle.token.specs.declared.state.Token.{Token}
use Rattle.token.specs.Plan.{plan_of}
use Rattle.token.specs.After.{after_of}
use Rattle.token.specs.Step.{Exchange, Steps, step_of}

module _ (t : Token) (s : List ℕ) (note : Note) (r : Answered) (first second : List ℕ) (p : Plan) (e : p ≡ plan_of t s note) (h : Happened) (f : h ≡ decided_of p r (length first) second) where
  pub answer-part : h.answer ≤ length first
  answer-part = subst⁻¹ (λ (x : Happened). x.answer ≤ length first) f (answer-in p r (length first) second).1

  pub answer-size : h.answer ≡ length (take h.answer first)
  answer-size = sym (length-take-le h.answer first answer-part)

module _ (t : Token) (x : Exchange) where
  pub short-step : (o : List ℕ) → x.size < room → Steps t x o o t 0
  unfolding step_of
  short-step o q = record { token = rw (lt-ltb _ _ q); reply = rw (lt-ltb _ _ q) (refl, refl) }

  pub long-step : (p : Plan) → p ≡ plan_of t x.command x.note → (h : Happened) → h ≡ decided_of p x.result (length x.first) x.second
      → room ≤ x.size → (n : Token) → n ≡ after_of t h.event h.brought
      → (o₀ o₁ : List ℕ) (k : ℕ) → Written (reply_to n.points h.event (take h.answer x.first) x.size) o₀ o₁ k → Steps t x o₀ o₁ n k
  unfolding step_of
  long-step p e h f q n g o₀ o₁ k z = record { token = rw (le-ltb _ _ q, ← e, ← f) g; reply = rw (le-ltb _ _ q, ← e, ← f, ← g) z }
