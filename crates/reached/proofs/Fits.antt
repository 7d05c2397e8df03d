-- What an event tells of the token and the command that it comes from: and the one walk down the plan that shows it. Assumes nothing.
use Rattle.std.specs.Prelude.{Option, Some, None, Result, Ok, Err, is_some, unwrap_or, ⊤}
use Prim.Native.Nat.{ℕ, ◌-◌}
use mathlib.Core.Bool.{Bool, true, false, cond, not, ◌&&◌, ◌||◌}
use mathlib.Core.Path.{◌≡◌, refl, sym, ap, subst, subst⁻¹, ◌∙◌}
use mathlib.Core.List.{List, []}
use lib.Dec.{eqb, leb}
use lib.ListN.{length}
use borrow.Author.Tests.{not-false}
use Rattle.laws.proofs.Bools.{true-false, and_l, and-7, or_l, of-both}
use Rattle.names.specs.Names.{same_name}
use Rattle.brought.specs.Brought.{brought_none}
use Rattle.days.specs.Days.{day_fits}
use Rattle.rights.specs.Rights.{role_of, reads_group}
use Rattle.roles.specs.Roles.{is_dv}
use Rattle.names.specs.declared.Name.{Name}
use Rattle.certificate.specs.declared.Certificate.{Certificate}
use Rattle.brought.specs.declared.Brought.{Brought}
use Rattle.roles.specs.declared.Role.{Role}
use Rattle.roles.specs.declared.Role.TheVariants.{Cvca, OfficialDv, OtherDv, Terminal}
use Rattle.command.specs.declared.kind.Kind.{Kind}
use Rattle.run.specs.declared.Choice.{Choice}
use Rattle.run.specs.declared.Step.{Step}
use Rattle.run.specs.declared.Step.TheVariants.{Nonce, Map, Agree, Confirm}
use Rattle.run.specs.Run.{password_of, is_pin, is_puk, step_number, is_last, tries}
use Rattle.event.specs.declared.Refusal.{Refusal}
use Rattle.event.specs.declared.Refusal.TheVariants.{Lacking, Moment, Data, NotFound, Outside}
use Rattle.event.specs.declared.Loss.{Loss}
use Rattle.event.specs.declared.Issuer.{Issuer}
use Rattle.event.specs.declared.Issuer.TheVariants.{Newest, Previous, Dv}
use Rattle.event.specs.declared.Event.{Event}
use Rattle.event.specs.declared.Event.TheVariants.{Refused, Lost, Chosen, StepPassed, Opened as IsOpened, RunClosed, TrialLost, Selected as IsSelected, LinkTaken, DvTaken, TerminalTaken, Announced as IsAnnounced, Challenged as IsChallenged, Proven as IsProven, ProofLost, ChipKeyChosen as IsChosen, Authenticated as IsAuthenticated, ChipLost, ReadAllowed, PinChanged, UnblockedByPuk, UnblockedByRight, Activated, Deactivated, NotPassed}
use Rattle.plans.specs.declared.Note.{Note}
use Rattle.plans.specs.declared.Job.{Job}
use Rattle.plans.specs.declared.Job.TheVariants.{Step as StepJob, Certificate as CertificateJob, Challenge as ChallengeJob, Proof, PinChange}
use Rattle.plans.specs.declared.Ending.{Ending}
use Rattle.plans.specs.declared.Ending.TheVariants.{Settled, Awaits}
use Rattle.plans.specs.declared.Plan.{Plan}
use Rattle.verdicts.specs.declared.Happened.{Happened}
use Rattle.plans.specs.Plans.{settled_by, awaits_by, guard_of}
use Rattle.keys.specs.Keys.{key_is}
use Rattle.verdicts.specs.Verdicts.{matches, taken_in, ends_by, passes_by}
use Rattle.verdicts.proofs.Decisions.{decided-all}
use Rattle.outcome.specs.Outcome.{passed_event, other_event}
use Rattle.trust.specs.Trust.{points_fit, knows, found, issuer_of, holds}
use Rattle.trust.specs.declared.Points.{Points}
use Rattle.certificate.specs.Certificate.{no_certificate}
use Rattle.trust.proofs.Laws.{Holds, as-newest, as-previous, found-holds}
use Rattle.fields.specs.declared.asked.Content.{Content}
use Rattle.fields.specs.declared.asked.Content.TheVariants.{Step as StepData, Chip}
use Rattle.fields.specs.declared.asked.Ask.{Ask}
use Rattle.fields.specs.declared.asked.Ask.TheVariants.{Choose, General, Select, Verify, Announce, Challenge, Prove, ChooseChipKey, Read, ChangePin, Unblock, Activate, Deactivate}
use Rattle.fields.specs.declared.given.Given.{Given}
use Rattle.fields.specs.declared.asked.Asked.{Asked}
use Rattle.fields.specs.Asked.{asked_of}
use Rattle.fields.proofs.Facts.{Of, of-choose, of-general, of-select, of-verify, of-announce, of-challenge, of-prove, of-chip-key, of-read, of-change-pin, of-unblock, of-activate, of-deactivate, ask_in, brought_in, kind-in}
use Rattle.standing.specs.declared.Stage.{Stage}
use Rattle.standing.specs.declared.Stage.TheVariants.{Idle, Run, Announced, Challenged, Proven, ChipKeyChosen, Authenticated}
use Rattle.standing.specs.Standing.{is_open, opened_by_pin, opened_by_can, opened_by_puk, has_rights, has_dv, has_terminal, is_selected, unproven, is_announced, is_challenged, is_proven, is_chosen}
use Rattle.moment.specs.Moment.{moment_of}
use Rattle.authorization.specs.Authorization.{authorization}
use Rattle.session_limits.specs.SessionLimits.{context_fits}
use Rattle.token.specs.declared.state.Token.{Token}
use Rattle.token.specs.State.{uses, context_of, chain_of}
use Rattle.token.specs.Limits.{selectable, in_limits}
use Rattle.checks.specs.Checks.{manages_pin, is_for, choose_plan, run_plan, chip_plan, general_plan, announce_plan, read_plan, change_plan, unblock_plan, active_plan}
use Rattle.certify.specs.Certify.{select_by, select_plan, issues, repeats, late, taken_event, issued_ending, under_plan, verify_plan}
use Rattle.token.specs.Plan.{command_of, timed_of, given_of, requested_of, guarded, plan_of}
use Rattle.token.specs.Step.{Exchange, happened_of}

-- ---- what a token grants to each event

-- "need confirmed rights and terminal not yet proven"
abbrev pub certifying : Token → Bool
certifying t = has_rights (context_of t).confirmed && unproven (context_of t).stage

-- a command whose verdict may fail with no change
pub data Quiet : Ask → Type 0 where
  verifying : Quiet Verify
  challenging : Quiet Challenge
  changing : Quiet ChangePin

-- what the data of a command ask and bring, where they are what it wants
abbrev pub given_in : Result Asked Refusal → Option Given
given_in (Err w) = None
given_in (Ok a) = a.given

-- the second string is what the chip key is compared with
pub data Fits (t : Token) (a : Option Given) (z : List ℕ) : Event → Brought → Type 0 where
  is-refused : {w : Refusal} {b : Brought} → Fits t a z (Refused w) b
  is_lost_lem : {l : Loss} {b : Brought} → Fits t a z (Lost l) b
  is-chosen : {c : Choice} {b : Brought} → ask_in a ≡ Some (Choose c) → is_pin (password_of c) && eqb t.pin 0 ≡ false → Fits t a z (Chosen c t.pin) b
  is-stepped : {c : Choice} {s : Step} {b : Brought} → ask_in a ≡ Some (General (StepData s)) → (context_of t).stage ≡ Run c s → is_last s ≡ false → Fits t a z (StepPassed c s) b
  is-opened : {c : Choice} {s : Step} {b : Brought} → ask_in a ≡ Some (General (StepData s)) → (context_of t).stage ≡ Run c s → is_last s ≡ true → Fits t a z (IsOpened c) b
  is-run-closed : {x : Step} {c : Choice} {s : Step} {b : Brought} → ask_in a ≡ Some (General (StepData x)) → (context_of t).stage ≡ Run c s → Fits t a z RunClosed b
  is-trial-lost : {x : Step} {c : Choice} {s : Step} {b : Brought} → ask_in a ≡ Some (General (StepData x)) → (context_of t).stage ≡ Run c s → Fits t a z (TrialLost (t.pin - 1)) b
  is-selected : {i : Issuer} {b : Brought} → ask_in a ≡ Some Select → holds t.points i (has_dv (chain_of t)) ≡ true → Fits t a z (IsSelected i) b
  is-link-taken : (n : ℕ) → ask_in a ≡ Some Verify → certifying t ≡ true → role_of (brought_in a).certificate.rights ≡ Cvca → knows t.points (brought_in a).certificate.name ≡ false
      → Fits t a z LinkTaken (taken_in CertificateJob (brought_in a) n)
  is-dv-taken : (n : ℕ) {h : Certificate} → ask_in a ≡ Some Verify → certifying t ≡ true → is_dv (role_of (brought_in a).certificate.rights) ≡ true → knows t.points (brought_in a).certificate.name ≡ false
      → Holds t.points h → same_name (brought_in a).name h.name ≡ true → Fits t a z (DvTaken h.rights) (taken_in CertificateJob (brought_in a) n)
  is-terminal-taken : (n : ℕ) → ask_in a ≡ Some Verify → certifying t ≡ true → role_of (brought_in a).certificate.rights ≡ Terminal → has_dv (chain_of t) ≡ true
      → same_name (brought_in a).name (chain_of t).dv.name ≡ true → Fits t a z TerminalTaken (taken_in CertificateJob (brought_in a) n)
  is-announced : ask_in a ≡ Some Announce → has_terminal (chain_of t) && unproven (context_of t).stage ≡ true → Fits t a z IsAnnounced (brought_in a)
  is-challenged : {b : Brought} → ask_in a ≡ Some Challenge → is_announced (context_of t).stage || is_challenged (context_of t).stage ≡ true → Fits t a z IsChallenged b
  is-proven : {b : Brought} → ask_in a ≡ Some Prove → is_challenged (context_of t).stage ≡ true → Fits t a z IsProven b
  is-proof-lost : {b : Brought} → ask_in a ≡ Some Prove → is_challenged (context_of t).stage ≡ true → Fits t a z ProofLost b
  is-chip-key-chosen : {b : Brought} → ask_in a ≡ Some ChooseChipKey → is_proven (context_of t).stage || is_chosen (context_of t).stage ≡ true → Fits t a z IsChosen b
  is-authenticated : {b : Brought} → ask_in a ≡ Some (General Chip) → (context_of t).stage ≡ ChipKeyChosen → key_is (context_of t).key z ≡ true → Fits t a z IsAuthenticated b
  is-chip-lost : {b : Brought} → ask_in a ≡ Some (General Chip) → (context_of t).stage ≡ ChipKeyChosen → Fits t a z ChipLost b
  not-passed : {x : Ask} {b : Brought} → ask_in a ≡ Some x → Quiet x → Fits t a z NotPassed b
  is_read : {n : ℕ} {b : Brought} → ask_in a ≡ Some (Read n) → Fits t a z ReadAllowed b
  is-changed : {b : Brought} → ask_in a ≡ Some ChangePin → Fits t a z PinChanged b
  is-unblocked-puk : {b : Brought} → ask_in a ≡ Some Unblock → Fits t a z UnblockedByPuk b
  is-unblocked : {b : Brought} → ask_in a ≡ Some Unblock → Fits t a z UnblockedByRight b
  is-activated : {b : Brought} → ask_in a ≡ Some Activate → Fits t a z Activated b
  is-deactivated : {b : Brought} → ask_in a ≡ Some Deactivate → Fits t a z Deactivated b

-- ---- a state within its limits, rung by rung

pub record InLimits (t : Token) : Type 0 where
  pub pin : leb t.pin tries ≡ true
  pub puk : leb t.puk uses ≡ true
  pub today : day_fits t.today ≡ true
  pub points : points_fit t.points ≡ true
  pub context : context_fits (context_of t) t.pin ≡ true
  pub dv : not (has_dv (chain_of t) && knows t.points (chain_of t).dv.name) ≡ true
  pub chosen : selectable t.session.selected t.points (has_dv (chain_of t)) ≡ true

pub limits_of : (t : Token) → in_limits t ≡ true → InLimits t
unfolding in_limits
limits_of t h =
    let k =
    and-7 (leb t.pin tries) (leb t.puk uses) (day_fits t.today) (points_fit t.points) (context_fits (context_of t) t.pin)
    (not (has_dv (chain_of t) && knows t.points (chain_of t).dv.name)) (selectable t.session.selected t.points (has_dv (chain_of t))) h in
    record { pin = k.0; puk = k.1; today = k.2; points = k.3; context = k.4; dv = k.5; chosen = k.6 }

pub in-limits : {t : Token} → InLimits t → in_limits t ≡ true
unfolding in_limits
in-limits l = cc

-- ---- the walk down the plan

-- the events that need a verdict
abbrev pub wants_verdict : Event → Bool
wants_verdict (Refused w) = false
wants_verdict (Lost l) = false
wants_verdict (Chosen c n) = false
wants_verdict (StepPassed c p) = true
wants_verdict (IsOpened c) = true
wants_verdict RunClosed = false
wants_verdict (TrialLost n) = false
wants_verdict (IsSelected i) = false
wants_verdict LinkTaken = true
wants_verdict (DvTaken r) = true
wants_verdict TerminalTaken = true
wants_verdict IsAnnounced = false
wants_verdict IsChallenged = true
wants_verdict IsProven = true
wants_verdict ProofLost = false
wants_verdict IsChosen = false
wants_verdict IsAuthenticated = true
wants_verdict ChipLost = false
wants_verdict ReadAllowed = false
wants_verdict PinChanged = true
wants_verdict UnblockedByPuk = false
wants_verdict UnblockedByRight = false
wants_verdict Activated = false
wants_verdict Deactivated = false
wants_verdict NotPassed = false

-- what comes without a verdict needs none
data Ending·Fits (t : Token) (a : Option Given) (z : List ℕ) (b : Brought) : Ending → Type 0 where
  at_once : {e : Event} → Fits t a z e b → wants_verdict e ≡ false → Ending·Fits t a z b (Settled e)
  in-time : {j : Job} {x y : Event} → (matches j b.key z ≡ true → (n : ℕ) → Fits t a z x (taken_in j b n)) → Fits t a z y b → wants_verdict y ≡ false → Ending·Fits t a z b (Awaits j x y)

-- what an ending gives without a good result
abbrev pub without : Ending → Event
without (Settled e) = e
without (Awaits j x y) = y

modest : {t : Token} {a : Option Given} {z : List ℕ} {b : Brought} {c : Ending} → Ending·Fits t a z b c → wants_verdict (without c) ≡ false
modest (at_once f w) = w
modest (in-time f g w) = w

abbrev Plan·Fits : Token → Option Given → List ℕ → Plan → Type 0
Plan·Fits t a z q = Ending·Fits t a z q.brought q.ending

-- steps of one number are one step
same_step : (p q : Step) → eqb (step_number p) (step_number q) ≡ true → p ≡ q
same_step Nonce Nonce e = refl
same_step Nonce Map e = true-false (sym e)
same_step Nonce Agree e = true-false (sym e)
same_step Nonce Confirm e = true-false (sym e)
same_step Map Nonce e = true-false (sym e)
same_step Map Map e = refl
same_step Map Agree e = true-false (sym e)
same_step Map Confirm e = true-false (sym e)
same_step Agree Nonce e = true-false (sym e)
same_step Agree Map e = true-false (sym e)
same_step Agree Agree e = refl
same_step Agree Confirm e = true-false (sym e)
same_step Confirm Nonce e = true-false (sym e)
same_step Confirm Map e = true-false (sym e)
same_step Confirm Agree e = true-false (sym e)
same_step Confirm Confirm e = refl

-- one check of a ladder, with what it tells
rung : {A : Type 0} (P : A → Type 0) (b : Bool) {x y : A} → (b ≡ true → P x) → (b ≡ false → P y) → P (cond b x y)
rung P true f g = f refl
rung P false f g = g refl

-- a previous trust point that may be selected is held
previous-held : (h : Points) → is_some h.previous ≡ true → Holds h (unwrap_or h.previous no_certificate)
previous-held h = go h.previous refl
  where
    go : (o : Option Certificate) → h.previous ≡ o → is_some o ≡ true → Holds h (unwrap_or o no_certificate)
    go None e s = true-false (sym s)
    go (Some p) e s = as-previous e

module _ (t : Token) (a : Option Given) (z : List ℕ) where
  abbrev Bare : Event → Type 0
  Bare e = Fits t a z e brought_none

  abbrev On : Event → Type 0
  On e = Bare e × (wants_verdict e ≡ false)

  refused : {w : Refusal} → On (Refused w)
  refused = (is-refused, refl)

  once : (e : Event) → On e → Plan·Fits t a z (settled_by e)
  unfolding settled_by
  once e f = at_once f.0 f.1

  refuses : (w : Refusal) → Plan·Fits t a z (settled_by (Refused w))
  refuses w = once (Refused w) refused

  waits : (j : Job) (x y : Event) → (matches j brought_none.key z ≡ true → (n : ℕ) → Fits t a z x (taken_in j brought_none n)) → On y → Plan·Fits t a z (awaits_by j x y)
  unfolding awaits_by
  waits j x y f g = in-time f g.0 g.1

  run-chip : (c : Choice) (s : Step) → Plan·Fits t a z (run_plan t.pin c s Chip)
  unfolding run_plan
  run-chip c s = refuses Data

  active-fits : (e : Event) → On e → Plan·Fits t a z (active_plan (context_of t) e)
  unfolding active_plan
  active-fits e f = once _ (of-both On (manages_pin (context_of t)) f refused)

  module _ where
    choose-fits : (c : Choice) → ask_in a ≡ Some (Choose c) → Plan·Fits t a z (choose_plan t.pin t.active t.puk (context_of t).opened c)
    unfolding choose_plan
    choose-fits c q =
        once _
        (rung On (is_pin (password_of c) && eqb t.pin 0) (λ e. refused)
        (λ e. of-both On (is_pin (password_of c) && not t.active) refused
        (of-both On (is_pin (password_of c) && eqb t.pin 1 && not (opened_by_can (context_of t).opened)) refused
        (of-both On (is_puk (password_of c) && eqb t.puk 0) refused (is-chosen q e, refl)))))

    run_fits_lem : (x : Step) (c : Choice) (s : Step) → ask_in a ≡ Some (General (StepData x)) → (context_of t).stage ≡ Run c s → Plan·Fits t a z (run_plan t.pin c s (StepData x))
    unfolding run_plan
    run_fits_lem x c s q r =
        rung (Plan·Fits t a z) (not (is_for (StepData x) s)) (λ e. refuses Data)
        (λ e. let d = q ∙ ap (λ (y : Step). Some (General (StepData y))) (same_step x s (not-false (is_for (StepData x) s) e)) in
        waits (StepJob s) (passed_event c s) (other_event c s t.pin) (λ k n. rung Bare (is_last s) (λ l. is-opened d r l) (λ l. is-stepped d r l))
        (of-both On (is_last s) (of-both On (is_pin (password_of c)) (is-trial-lost q r, refl) (is-run-closed q r, refl)) (is-run-closed q r, refl)))

    chip-fits : (x : Content) → ask_in a ≡ Some (General x) → (context_of t).stage ≡ ChipKeyChosen → Plan·Fits t a z (chip_plan (context_of t).key x)
    unfolding chip_plan
    chip-fits (StepData s) q r = refuses Data
    chip-fits Chip q r = in-time (λ k n. is-authenticated q r k) (is-chip-lost q r) refl

    general-fits : (x : Content) (s : Stage) → ask_in a ≡ Some (General x) → (context_of t).stage ≡ s → Plan·Fits t a z (general_plan (context_of t).key t.pin s x)
    unfolding general_plan
    general-fits (StepData x) (Run c s) q r = run_fits_lem x c s q r
    general-fits Chip (Run c s) q r = run-chip c s
    general-fits x ChipKeyChosen q r = chip-fits x q r
    general-fits x Idle q r = refuses Moment
    general-fits x Announced q r = refuses Moment
    general-fits x Challenged q r = refuses Moment
    general-fits x Proven q r = refuses Moment
    general-fits x Authenticated q r = refuses Moment

    select-fits : (n : Name) → ask_in a ≡ Some Select → Plan·Fits t a z (select_plan t.points (chain_of t) n)
    unfolding select_plan
    select-fits n q = go (found t.points n) refl
      where
        go : (x : Option Issuer) → found t.points n ≡ x → Plan·Fits t a z (select_by (chain_of t) n x)
        go (Some i) e = once _ (is-selected q (found-holds t.points n i (has_dv (chain_of t)) e), refl)
        go None e =
            rung (Plan·Fits t a z) (has_dv (chain_of t) && same_name n (chain_of t).dv.name) (λ f. once _ (is-selected q (and_l (has_dv (chain_of t)) (same_name n (chain_of t).dv.name) f), refl)) (λ f. refuses NotFound)

    -- under each issuer, each role
    module _ (q : ask_in a ≡ Some Verify) (c : certifying t ≡ true) where
      taken-fits : (i : Issuer) (o : Role) → role_of (brought_in a).certificate.rights ≡ o → selectable (Some i) t.points (has_dv (chain_of t)) ≡ true → not (issues i o) ≡ false
          → repeats t.points (chain_of t).dv (brought_in a).certificate.name o ≡ false → not (same_name (brought_in a).name (issuer_of t.points i (chain_of t).dv).name) ≡ false
          → (n : ℕ) → Fits t a z (taken_event o (issuer_of t.points i (chain_of t).dv).rights) (taken_in CertificateJob (brought_in a) n)
      unfolding repeats
      taken-fits Newest Cvca r s e f g n = is-link-taken n q c r (or_l (knows t.points (brought_in a).certificate.name) _ f)
      taken-fits Newest OfficialDv r s e f g n = is-dv-taken n q c (rw r) (or_l (knows t.points (brought_in a).certificate.name) _ f) as-newest (not-false _ g)
      taken-fits Newest OtherDv r s e f g n = is-dv-taken n q c (rw r) (or_l (knows t.points (brought_in a).certificate.name) _ f) as-newest (not-false _ g)
      taken-fits Newest Terminal r s e f g n = true-false e
      taken-fits Previous Cvca r s e f g n = is-link-taken n q c r (or_l (knows t.points (brought_in a).certificate.name) _ f)
      taken-fits Previous OfficialDv r s e f g n = is-dv-taken n q c (rw r) (or_l (knows t.points (brought_in a).certificate.name) _ f) (previous-held t.points s) (not-false _ g)
      taken-fits Previous OtherDv r s e f g n = is-dv-taken n q c (rw r) (or_l (knows t.points (brought_in a).certificate.name) _ f) (previous-held t.points s) (not-false _ g)
      taken-fits Previous Terminal r s e f g n = true-false e
      taken-fits Dv Cvca r s e f g n = true-false e
      taken-fits Dv OfficialDv r s e f g n = true-false e
      taken-fits Dv OtherDv r s e f g n = true-false e
      taken-fits Dv Terminal r s e f g n = is-terminal-taken n q c r s (not-false _ g)

      under-fits : (i : Issuer) → selectable (Some i) t.points (has_dv (chain_of t)) ≡ true → Plan·Fits t a z (under_plan t.points (chain_of t).dv t.today i (brought_in a))
      unfolding under_plan issued_ending
      under-fits i s =
          rung Ends (not (issues i o)) (λ e. no)
          (λ e. rung Ends (repeats t.points (chain_of t).dv (brought_in a).certificate.name o) (λ f. no)
          (λ f. rung Ends (not (same_name (brought_in a).name h.name)) (λ g. no)
          (λ g. of-both Ends (late t.today (brought_in a).certificate h o) no (in-time (λ k. taken-fits i o refl s e f g) (not-passed q verifying) refl))))
        where
          o : Role
          o = role_of (brought_in a).certificate.rights

          h : Certificate
          h = issuer_of t.points i (chain_of t).dv

          Ends : Ending → Type 0
          Ends = Ending·Fits t a z (brought_in a)

          no : {w : Refusal} → Ends (Settled (Refused w))
          no = at_once is-refused refl

      verify-fits : (s : Option Issuer) → selectable s t.points (has_dv (chain_of t)) ≡ true → Plan·Fits t a z (verify_plan t.points (chain_of t).dv t.today s (brought_in a))
      unfolding verify_plan
      verify-fits None e = refuses Moment
      verify-fits (Some i) e = under-fits i e

    announce-fits : ask_in a ≡ Some Announce → has_terminal (chain_of t) && unproven (context_of t).stage ≡ true → Plan·Fits t a z (announce_plan (chain_of t).terminal.name (brought_in a))
    unfolding announce_plan
    announce-fits q e = of-both (Plan·Fits t a z) (same_name (brought_in a).name (chain_of t).terminal.name) (at_once (is-announced q e) refl) (refuses NotFound)

    read_fits : (n : ℕ) → ask_in a ≡ Some (Read n) → Plan·Fits t a z (read_plan (context_of t) n)
    unfolding read_plan
    read_fits n q = once _ (of-both On (reads_group (authorization (context_of t)) n) (is_read q, refl) refused)

    change-fits : ask_in a ≡ Some ChangePin → Plan·Fits t a z (change_plan (context_of t) t.active)
    unfolding change_plan
    change-fits q =
        of-both (Plan·Fits t a z) ((opened_by_pin (context_of t).opened && t.active) || manages_pin (context_of t)) (waits PinChange PinChanged NotPassed (λ k n. is-changed q) (not-passed q changing, refl)) (refuses Lacking)

    unblock-fits : ask_in a ≡ Some Unblock → Plan·Fits t a z (unblock_plan (context_of t) t.pin t.puk)
    unfolding unblock_plan
    unblock-fits q =
        once _
        (of-both On (not (opened_by_puk (context_of t).opened || manages_pin (context_of t))) refused
        (of-both On (opened_by_puk (context_of t).opened && eqb t.puk 0) refused
        (of-both On (eqb t.pin tries) refused (of-both On (opened_by_puk (context_of t).opened) (is-unblocked-puk q, refl) (is-unblocked q, refl)))))

  -- every ask, at its moment
  command-fits : {m : Kind} (ch : Bool) {x : Ask} → in_limits t ≡ true → Of m x → ask_in a ≡ Some x → moment_of t.session m ch ≡ true → Plan·Fits t a z (command_of t (brought_in a) x)
  unfolding command_of moment_of
  command-fits ch l (of-choose {c = c}) q e = choose-fits c q
  command-fits ch l (of-general {c = x}) q e = general-fits x (context_of t).stage q refl
  command-fits ch l of-select q e = select-fits (brought_in a).name q
  command-fits ch l of-verify q e = verify-fits q (and_l (certifying t) (is_selected t.session.selected) e) t.session.selected (limits_of t l).chosen
  command-fits ch l of-announce q e = announce-fits q e
  command-fits ch l of-challenge q e = waits ChallengeJob IsChallenged NotPassed (λ k n. is-challenged q e) (not-passed q challenging, refl)
  command-fits ch l of-prove q e = waits Proof IsProven ProofLost (λ k n. is-proven q e) (is-proof-lost q e, refl)
  command-fits ch l of-chip-key q e = once _ (is-chip-key-chosen q e, refl)
  command-fits ch l (of-read {n = n}) q e = read_fits n q
  command-fits ch l of-change-pin q e = change-fits q
  command-fits ch l of-unblock q e = unblock-fits q
  command-fits ch l of-activate q e = active-fits Activated (is-activated q, refl)
  command-fits ch l of-deactivate q e = active-fits Deactivated (is-deactivated q, refl)

module _ (t : Token) (z : List ℕ) where
  given-fits : {m : Kind} (ch : Bool) (a : Option Given) → in_limits t ≡ true → ((x : Ask) → ask_in a ≡ Some x → Of m x) → moment_of t.session m ch ≡ true → Plan·Fits t a z (given_of t a)
  unfolding given_of
  given-fits ch None l o e = refuses t None z Data
  given-fits ch (Some g) l o e = command-fits t (Some g) z ch l (o g.ask refl) refl e

  timed-fits : (a : Asked) → in_limits t ≡ true → ((x : Ask) → ask_in a.given ≡ Some x → Of a.kind x) → Plan·Fits t a.given z (timed_of t a)
  unfolding timed_of
  timed-fits a l o =
      rung (Plan·Fits t a.given z) (not (moment_of t.session a.kind a.chained)) (λ e. refuses t a.given z Moment)
      (λ e. given-fits a.chained a.given l o (not-false (moment_of t.session a.kind a.chained) e))

  guard-fits : (a : Option Given) (g : Result ⊤ Loss) (p : Plan) → Plan·Fits t a z p → Plan·Fits t a z (guarded g p)
  unfolding guarded
  guard-fits a (Err l) p f = once t a z (Lost l) (is_lost_lem, refl)
  guard-fits a (Ok passes) p f = f

module _ (t : Token) (s z : List ℕ) where
  request-fits : in_limits t ≡ true → (r : Result Asked Refusal) → asked_of s ≡ r → Plan·Fits t (given_in r) z (requested_of t r)
  unfolding requested_of
  request-fits l (Err w) q = refuses t None z w
  request-fits l (Ok a) q = timed-fits t z a l (kind-in s a q)

  plan-fits : (note : Note) → Plan·Fits t (given_in (asked_of s)) z (plan_of t s note)
  unfolding plan_of
  plan-fits note =
      rung (Plan·Fits t (given_in (asked_of s)) z) (not (in_limits t)) (λ e. refuses t (given_in (asked_of s)) z Outside)
      (λ e. guard-fits t z (given_in (asked_of s)) (guard_of note (is_open (context_of t).opened)) _ (request-fits (not-false (in_limits t) e) (asked_of s) refl))

-- no event that wants a verdict comes without a good one
pub plan-modest : (t : Token) (s : List ℕ) (note : Note) → wants_verdict (without (plan_of t s note).ending) ≡ false
plan-modest t s note = modest (plan-fits t s [] note)

-- what happens fits
pub fits : (t : Token) (x : Exchange) → let h = happened_of t x in Fits t (given_in (asked_of x.command)) x.second h.event h.brought
unfolding ends_by passes_by
fits t x =
    decided-all (λ (h : Happened). Fits t a z h.event h.brought) q x.result (length x.first) z (λ e i. settled i f) (λ j u v i. otherwise i f)
    (λ j u v i g m n. passed n i m f)
  where
    a : Option Given
    a = given_in (asked_of x.command)

    z : List ℕ
    z = x.second

    q : Plan
    q = plan_of t x.command x.note

    f : Plan·Fits t a z q
    f = plan-fits t x.command z x.note

    settled : {c : Ending} {e : Event} → c ≡ Settled e → Ending·Fits t a z q.brought c → Fits t a z e q.brought
    settled i (at_once g w) = subst (λ (y : Event). Fits t a z y q.brought) (cc) g
    settled i (in-time g h w) = true-false (cc)

    otherwise : {c : Ending} {j : Job} {u v : Event} → c ≡ Awaits j u v → Ending·Fits t a z q.brought c → Fits t a z v q.brought
    otherwise i (at_once g w) = true-false (cc)
    otherwise i (in-time g h w) = subst (λ (y : Event). Fits t a z y q.brought) (cc) h

    passed : {c : Ending} {j : Job} {u v : Event} (n : ℕ) → c ≡ Awaits j u v → matches j q.brought.key z ≡ true → Ending·Fits t a z q.brought c → Fits t a z u (taken_in j q.brought n)
    passed n i m (at_once g w) = true-false (cc)
    passed {j = j} {u = u} n i m (in-time {j = k} {x = y} g h w) =
        let e : k ≡ j = cc in
        let d : y ≡ u = cc in
        subst (λ (l : Job). Fits t a z u (taken_in l q.brought n)) e
        (subst (λ (v : Event). Fits t a z v (taken_in k q.brought n)) d (g (subst⁻¹ (λ (l : Job). matches l q.brought.key z ≡ true) e m) n))
