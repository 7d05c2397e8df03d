-- Laws of one step that a reader looks for. Assumes nothing.
use Prim.Native.Nat.{ℕ, ◌-◌}
use mathlib.Core.Bool.{Bool, true, false, cond, ◌&&◌}
use mathlib.Core.Path.{◌≡◌, refl, sym, ap, ◌∙◌}
use mathlib.Core.List.{List, []}
use lib.Dec.{eqb, ltb}
use lib.ListN.{length, take}
use Rattle.laws.proofs.Bools.{true-false}
use Rattle.keys.specs.declared.Key.{Key}
use Rattle.brought.specs.declared.Brought.{Brought}
use Rattle.run.specs.declared.Choice.{Choice}
use Rattle.run.specs.declared.Step.TheVariants.{Confirm}
use Rattle.run.specs.Run.{password_of, is_pin}
use Rattle.status.specs.declared.Word.TheVariants.{Outside}
use Rattle.event.specs.Event.{word_of}
use Rattle.event.specs.declared.Refusal.{Refusal}
use Rattle.event.specs.declared.Event.{Event}
use Rattle.event.specs.declared.Event.TheVariants.{Refused}
use Rattle.plans.specs.declared.Note.{Note}
use Rattle.plans.specs.declared.Job.{Job}
use Rattle.plans.specs.declared.Job.TheVariants.{Nothing}
use Rattle.plans.specs.declared.Ending.{Ending}
use Rattle.plans.specs.declared.Ending.TheVariants.{Settled, Awaits}
use Rattle.plans.specs.declared.Plan.{Plan}
use Rattle.verdicts.specs.declared.Verdict.{Verdict}
use Rattle.verdicts.specs.declared.Verdict.TheVariants.{Passed, Failed, Missing}
use Rattle.verdicts.specs.declared.Answered.{Answered}
use Rattle.verdicts.specs.declared.Happened.{Happened}
use Rattle.plans.specs.Plans.{ending_job}
use Rattle.verdicts.specs.Verdicts.{job_fits, matches, ends_by, judged_of, awaited_of, ending_of, decided_of}
use Rattle.plans.specs.Plans.{job_number}
use Rattle.verdicts.proofs.Decisions.{no-influence, decided-all}
use Rattle.outcome.specs.Outcome.{other_event}
use Rattle.reply.specs.Reply.{room}
use Rattle.token.specs.declared.state.Token.{Token}
use Rattle.reached.proofs.Fits.{wants_verdict, without, plan-modest}
use Rattle.token.specs.Plan.{plan_of}
use Rattle.token.specs.After.{trial_lost, after_of}
use Rattle.answer.specs.Answer.{reply_to}
use Rattle.token.specs.Step.{Exchange, exchange, Stepped, happened_of, next_of, ended_by, step_of}

-- ---- a refusal leaves the token as it was

pub refused-same : (t : Token) (w : Refusal) (b : Brought) → after_of t (Refused w) b ≡ t
unfolding after_of
refused-same t w b = refl

pub step-refused : (t : Token) (x : Exchange) (w : Refusal) → (happened_of t x).event ≡ Refused w → (step_of t x).token ≡ t
unfolding step_of after_of
step-refused t x w e = go (ltb x.size room)
  where
    h : Happened
    h = happened_of t x

    go : (b : Bool) → (cond {A = Stepped} b (record { token = t; word = Outside; bytes = [] }) (ended_by t h x)).token ≡ t
    go true = refl
    go false = ap (λ (y : Event). after_of t y h.brought) e

-- ---- "where none, the result has no influence": on token, length and every byte

unasked : (p : Plan) (r : Answered) (a : ℕ) (s : List ℕ) → ending_job p.ending ≡ Nothing → (decided_of p r a s).answer ≡ 0
unfolding ends_by
unasked p r a s e =
    decided-all (λ (h : Happened). h.answer ≡ 0) p r a s (λ x i. refl) (λ j x y i. refl)
    (λ j x y i f m n. true-false (sym f ∙ ap (λ (k : Job). job_fits k a (length s)) (sym (ap ending_job i) ∙ e)))

module _ (t : Token) (s : List ℕ) (note : Note) (size : ℕ) (e : ending_job (plan_of t s note).ending ≡ Nothing) where
  -- with no job nothing of the first string is answered
  unanswered : (r : Answered) (a b : List ℕ) → let h = happened_of t (exchange s note r a b size) in ended_by t h (exchange s note r a b size) ≡ ended_by t h (exchange s note r [] b size)
  unanswered r a b =
      let h : Happened = happened_of t (exchange s note r a b size) in
      let reply : ℕ → List ℕ → Stepped = λ n f. record { token = next_of t h; word = word_of h.event; bytes = reply_to (next_of t h).points h.event (take n f) size } in
      let z = unasked (plan_of t s note) r (length a) b e in
      ap (λ (n : ℕ). reply n a) z ∙ sym (ap (λ (n : ℕ). reply n []) z)

  pub no-job-no-influence : (r q : Answered) (first second f g : List ℕ) → step_of t (exchange s note r first second size) ≡ step_of t (exchange s note q f g size)
  unfolding step_of
  no-job-no-influence r q first second f g =
      ap (λ (x : Stepped). cond (ltb size room) (record { token = t; word = Outside; bytes = [] }) x)
      (unanswered r first second
      ∙ ap (λ (h : Happened). ended_by t h (exchange s note r [] [] size)) (no-influence (plan_of t s note) r q (length first) (length f) second g e)
      ∙ sym (unanswered q f g))

-- ---- what needs a verdict needs a good one

-- a result is good for a job: it names the job, has the job's lengths, is passed, and matches
abbrev pub is_passed : Verdict → Bool
is_passed (Passed n) = true
is_passed Failed = false
is_passed Missing = false

abbrev pub is_good : Job → Answered → Key → ℕ → List ℕ → Bool
is_good j r k a s = (eqb (job_number j) (job_number r.job) && job_fits j a (length s)) && (is_passed r.verdict && matches j k s)

module _ (p : Plan) (r : Answered) (j : Job) (x y : Event) (a : ℕ) (s : List ℕ) (e : p.ending ≡ Awaits j x y) where
  judged : (v : Verdict) → is_passed v && matches j p.brought.key s ≡ false → judged_of p v j x y a s ≡ ends_by p y
  unfolding judged_of
  judged (Passed n) f = rw f
  judged Failed f = refl
  judged Missing f = refl

  -- a result that is not good takes the other event
  pub decided-bad : is_good j r p.brought.key a s ≡ false → decided_of p r a s ≡ ends_by p y
  unfolding ending_of awaited_of
  decided-bad f = ap (λ (c : Ending). ending_of c p r a s) e ∙ go (eqb (job_number j) (job_number r.job) && job_fits j a (length s)) f
    where
      go : (b : Bool) → b && (is_passed r.verdict && matches j p.brought.key s) ≡ false → cond b (judged_of p r.verdict j x y a s) (ends_by p y) ≡ ends_by p y
      go true g = judged r.verdict g
      go false g = refl

-- "A missing verdict is never a good one": no session opens, no step passes, no certificate is accepted, no terminal proven, no
-- chip authenticated and no PIN changed but by a result that is good for the job that was wanted
pub earned : (t : Token) (x : Exchange) → wants_verdict (happened_of t x).event ≡ true
    → let p = plan_of t x.command x.note in is_good (ending_job p.ending) x.result p.brought.key (length x.first) x.second ≡ true
unfolding ends_by ending_of
earned t x e = go p.ending refl (plan-modest t x.command x.note)
  where
    p : Plan
    p = plan_of t x.command x.note

    good : Job → Bool
    good j = is_good j x.result p.brought.key (length x.first) x.second

    go : (c : Ending) → p.ending ≡ c → wants_verdict (without c) ≡ false → good (ending_job c) ≡ true
    go (Settled y) q m = true-false (sym (sym (ap (λ (c : Ending). wants_verdict (ending_of c p x.result (length x.first) x.second).event) q ∙ m) ∙ e))
    go (Awaits j y z) q m = test (good j) refl
      where
        test : (b : Bool) → good j ≡ b → good j ≡ true
        test true f = f
        test false f = true-false (sym (sym (ap (λ (h : Happened). wants_verdict h.event) (decided-bad p x.result j y z (length x.first) x.second q f) ∙ m) ∙ e))

-- and the event that the fourth step of a PIN's run comes to otherwise leaves the counter one lower
pub trial-paid : (t : Token) (c : Choice) (b : Brought) → is_pin (password_of c) ≡ true → (after_of t (other_event c Confirm t.pin) b).pin ≡ t.pin - 1
unfolding after_of trial_lost
trial-paid t c b e = rw e
