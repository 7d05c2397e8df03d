-- The verdict's ways, and what is answered. Assumes nothing.
use Prim.Native.Nat.{ℕ, ◌≤◌}
use mathlib.Core.Bool.{Bool, true, false, cond, ◌&&◌}
use mathlib.Core.Path.{◌≡◌, refl, sym, ◌∙◌}
use mathlib.Core.List.{List}
use native.Mathlib.Omega.{arith}
use borrow.Author.Tests.{leb-true, eqb-true}
use lib.Dec.{eqb, leb}
use lib.ListN.{length}
use Rattle.laws.proofs.Bools.{true-false, and_l, and_r}
use Rattle.strings.specs.Bytes.{among, longest}
use Rattle.event.specs.declared.Event.{Event}
use Rattle.plans.specs.declared.Job.{Job}
use Rattle.plans.specs.declared.Job.TheVariants.{Nothing, Step as StepJob, Certificate as CertificateJob, Challenge, Proof, ChipKey, PinChange}
use Rattle.plans.specs.declared.Ending.{Ending}
use Rattle.plans.specs.declared.Ending.TheVariants.{Settled, Awaits}
use Rattle.plans.specs.declared.Plan.{Plan}
use Rattle.verdicts.specs.declared.Verdict.{Verdict}
use Rattle.verdicts.specs.declared.Verdict.TheVariants.{Passed, Failed, Missing}
use Rattle.verdicts.specs.declared.Answered.{Answered}
use Rattle.verdicts.specs.declared.Happened.{Happened}
use Rattle.run.specs.Run.{is_last}
use Rattle.verdicts.specs.Verdicts.{job_fits, matches, ends_by, passes_by, judged_of, awaited_of, ending_of, decided_of}
use Rattle.plans.specs.Plans.{ending_job, job_number}

-- ---- what holds of every outcome: the other event, or the passed one with the job's string

-- what is to hold of whatever happens, given it of both ways
module _ (P : Happened → Type 0) (p : Plan) where
  judged-all : (v : Verdict) (j : Job) (x y : Event) (a : ℕ) (s : List ℕ) → P (ends_by p y) → (matches j p.brought.key s ≡ true → (n : ℕ) → P (passes_by p j n x a)) → P (judged_of p v j x y a s)
  unfolding judged_of
  judged-all (Passed n) j x y a s e f = go (matches j p.brought.key s) refl
    where
      go : (b : Bool) → matches j p.brought.key s ≡ b → P (cond b (passes_by p j n x a) (ends_by p y))
      go true m = f m n
      go false m = e
  judged-all Failed j x y a s e f = e
  judged-all Missing j x y a s e f = e

  awaited-all : (r : Answered) (j : Job) (x y : Event) (a : ℕ) (s : List ℕ) → P (ends_by p y) → (job_fits j a (length s) ≡ true → matches j p.brought.key s ≡ true → (n : ℕ) → P (passes_by p j n x a))
      → P (awaited_of p r j x y a s)
  unfolding awaited_of
  awaited-all r j x y a s e f = go (eqb (job_number j) (job_number r.job)) (job_fits j a (length s)) refl
    where
      go : (c b : Bool) → job_fits j a (length s) ≡ b → P (cond (c && b) (judged_of p r.verdict j x y a s) (ends_by p y))
      go true true h = judged-all r.verdict j x y a s e (f h)
      go true false h = e
      go false b h = e

  pub decided-all : (r : Answered) (a : ℕ) (s : List ℕ) → ((e : Event) → p.ending ≡ Settled e → P (ends_by p e))
      → ((j : Job) (x y : Event) → p.ending ≡ Awaits j x y → P (ends_by p y))
      → ((j : Job) (x y : Event) → p.ending ≡ Awaits j x y → job_fits j a (length s) ≡ true → matches j p.brought.key s ≡ true → (n : ℕ) → P (passes_by p j n x a)) → P (decided_of p r a s)
  unfolding ending_of
  decided-all r a s once other passed = go p.ending refl
    where
      go : (c : Ending) → p.ending ≡ c → P (ending_of c p r a s)
      go (Settled e) h = once e h
      go (Awaits j x y) h = awaited-all r j x y a s (other j x y h) (passed j x y h)

-- ---- what is answered fits the reply, and the string has it

first_small : (j : Job) (a b : ℕ) → job_fits j a b ≡ true → a ≤ longest
first_small Nothing a b e = true-false (sym e)
first_small (StepJob p) a b e = go (is_last p) e
  where
    go : (l : Bool) → cond l (eqb a 8 && eqb b 0) (among 1 longest a && eqb b 0) ≡ true → a ≤ longest
    go true f = let h : a ≡ 8 = eqb-true a 8 (and_l (eqb a 8) (eqb b 0) f) in omega arith
    go false f = leb-true a longest (and_r (leb 1 a) (leb a longest) (and_l (among 1 longest a) (eqb b 0) f))
first_small CertificateJob a b e = let h : a ≡ 0 = eqb-true a 0 (and_l (eqb a 0) (eqb b 0) e) in omega arith
first_small Challenge a b e = let h : a ≡ 8 = eqb-true a 8 (and_l (eqb a 8) (eqb b 0) e) in omega arith
first_small Proof a b e = let h : a ≡ 0 = eqb-true a 0 (and_l (eqb a 0) (eqb b 0) e) in omega arith
first_small ChipKey a b e = let h : a ≡ 16 = eqb-true a 16 (and_l (eqb a 16) _ e) in omega arith
first_small PinChange a b e = let h : a ≡ 0 = eqb-true a 0 (and_l (eqb a 0) (eqb b 0) e) in omega arith

abbrev Small : ℕ → Happened → Type 0
Small a h = (h.answer ≤ longest) × (h.answer ≤ a)

pub answer-in : (p : Plan) (r : Answered) (a : ℕ) (s : List ℕ) → Small a (decided_of p r a s)
unfolding ends_by passes_by
answer-in p r a s =
    decided-all (Small a) p r a s (λ e h. (omega arith, omega arith)) (λ j x y h. (omega arith, omega arith)) (λ j x y h f m n. (first_small j a (length s) f, omega arith))

-- ---- "where none, the result has no influence"

unanswered : (p : Plan) (r : Answered) (x y : Event) (a : ℕ) (s : List ℕ) → awaited_of p r Nothing x y a s ≡ ends_by p y
unanswered p r x y a s = awaited-all (λ (h : Happened). h ≡ ends_by p y) p r Nothing x y a s refl (λ f m n. true-false (sym f))

pub no-influence : (p : Plan) (r q : Answered) (a b : ℕ) (s t : List ℕ) → ending_job p.ending ≡ Nothing → decided_of p r a s ≡ decided_of p q b t
unfolding ending_of
no-influence p r q a b s t h = go p.ending h
  where
    go : (c : Ending) → ending_job c ≡ Nothing → ending_of c p r a s ≡ ending_of c p q b t
    go (Settled e) h = refl
    go (Awaits j x y) h = rw h (unanswered p r x y a s ∙ sym (unanswered p q x y b t))
