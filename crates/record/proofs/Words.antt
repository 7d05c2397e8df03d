-- What the rule reads at the word of each event. Assumes nothing.
use Rattle.std.specs.Prelude.{Option, Some, None}
use Prim.Native.Nat.{ℕ, ◌-◌}
use mathlib.Core.Bool.{Bool, true, false, cond, ◌&&◌}
use mathlib.Core.Path.{◌≡◌, refl, sym, ap, ◌∙◌}
use mathlib.Core.List.{List}
use lib.Dec.{ltb}
use Rattle.laws.proofs.Bools.{true-false}
use Rattle.brought.specs.declared.Brought.{Brought}
use Rattle.status.specs.declared.Word.{Word}
use Rattle.status.specs.declared.Word.TheVariants.{Done, Tries, NotPassed as W6300}
use Rattle.run.specs.declared.Choice.{Choice}
use Rattle.run.specs.declared.Step.{Step}
use Rattle.run.specs.declared.Step.TheVariants.{Nonce, Map, Agree, Confirm}
use Rattle.run.specs.Run.{password_of, is_pin, is_last}
use Rattle.event.specs.declared.Refusal.{Refusal}
use Rattle.event.specs.declared.Refusal.TheVariants.{Length, Lacking, Blocked, Unusable, Moment, Data, Parameters, NotFound, Instruction, Class, Outside}
use Rattle.event.specs.declared.Loss.{Loss}
use Rattle.event.specs.declared.Loss.TheVariants.{Unprotected, Broken}
use Rattle.event.specs.declared.Event.{Event}
use Rattle.event.specs.declared.Event.TheVariants.{Refused, Lost as IsLost, Chosen, StepPassed as IsStep, Opened as IsOpened, RunClosed, TrialLost, Selected as IsSelected, LinkTaken, DvTaken, TerminalTaken, Announced as IsAnnounced, Challenged as IsChallenged, Proven as IsProven, ProofLost, ChipKeyChosen as IsChosen, Authenticated as IsAuthenticated, ChipLost, ReadAllowed, PinChanged, UnblockedByPuk, UnblockedByRight, Activated, Deactivated, NotPassed}
use Rattle.event.specs.Event.{refusal_word, loss_word, word_of}
use Rattle.fields.specs.declared.asked.Ask.{Ask}
use Rattle.fields.specs.declared.given.Given.{Given}
use Rattle.token.specs.declared.state.Token.{Token}
use Rattle.fields.proofs.Facts.{ask_in, brought_in}
use Rattle.reached.proofs.Fits.{verifying, challenging, changing, Fits, is-refused, is_lost_lem, is-chosen, is-stepped, is-opened, is-run-closed, is-trial-lost, is-selected, is-link-taken, is-dv-taken, is-terminal-taken, is-announced, is-challenged, is-proven, is-proof-lost, is-chip-key-chosen, is-authenticated, is-chip-lost, not-passed, is_read, is-changed, is-unblocked-puk, is-unblocked, is-activated, is-deactivated}
use Rattle.rule.specs.Facts.{Fact, Taken, StepPassed, Accepted, Announced, Challenged, Proved, ProofFailed, ChipPassed, Lost, Nothing, ask_fact, given_fact, fact_by}

-- the fact of an event, by what was asked and the second string
abbrev pub fact_at : Option Given → List ℕ → Event → Fact
fact_at a z (Refused w) = Nothing
fact_at a z (IsLost l) = Lost
fact_at a z (Chosen c n) = Taken c
fact_at a z (IsStep c s) = StepPassed s
fact_at a z (IsOpened c) = StepPassed Confirm
fact_at a z RunClosed = Nothing
fact_at a z (TrialLost n) = Nothing
fact_at a z (IsSelected i) = Nothing
fact_at a z LinkTaken = Accepted (brought_in a).name (brought_in a).certificate
fact_at a z (DvTaken r) = Accepted (brought_in a).name (brought_in a).certificate
fact_at a z TerminalTaken = Accepted (brought_in a).name (brought_in a).certificate
fact_at a z IsAnnounced = Announced (brought_in a).key
fact_at a z IsChallenged = Challenged
fact_at a z IsProven = Proved
fact_at a z ProofLost = ProofFailed
fact_at a z IsChosen = Nothing
fact_at a z IsAuthenticated = ChipPassed z
fact_at a z ChipLost = Nothing
fact_at a z ReadAllowed = Nothing
fact_at a z PinChanged = Nothing
fact_at a z UnblockedByPuk = Nothing
fact_at a z UnblockedByRight = Nothing
fact_at a z Activated = Nothing
fact_at a z Deactivated = Nothing
fact_at a z NotPassed = Nothing

refused-fact : (w : Refusal) (f : Fact) → fact_by (refusal_word w) f ≡ Nothing
refused-fact Length f = refl
refused-fact Lacking f = refl
refused-fact Blocked f = refl
refused-fact Unusable f = refl
refused-fact Moment f = refl
refused-fact Data f = refl
refused-fact Parameters f = refl
refused-fact NotFound f = refl
refused-fact Instruction f = refl
refused-fact Class f = refl
refused-fact Outside f = refl

lost-fact : (l : Loss) (f : Fact) → fact_by (loss_word l) f ≡ Lost
lost-fact Unprotected f = refl
lost-fact Broken f = refl

chosen-fact : (b : Bool) (n : ℕ) (c : Choice) → fact_by (cond b (Tries n) Done) (Taken c) ≡ Taken c
chosen-fact true n c = refl
chosen-fact false n c = refl

-- the fourth step is the last
last-is : (s : Step) → is_last s ≡ true → s ≡ Confirm
last-is Nonce e = true-false (sym e)
last-is Map e = true-false (sym e)
last-is Agree e = true-false (sym e)
last-is Confirm e = refl

given-fact : (z : List ℕ) (a : Option Given) {q : Ask} → ask_in a ≡ Some q → given_fact z a ≡ ask_fact (brought_in a) z q
given-fact z None e = cc
given-fact z (Some g) e = cc

module _ (t : Token) (a : Option Given) (z : List ℕ) where
  -- the fact is that of the ask as it was read
  read : (w : Word) {q : Ask} (f : Fact) → ask_in a ≡ Some q → fact_by w (ask_fact (brought_in a) z q) ≡ f → fact_by w (given_fact z a) ≡ f
  read w f e y = ap (λ (x : Fact). fact_by w x) (given-fact z a e) ∙ y

  pub fact-of : {e : Event} {b : Brought} → Fits t a z e b → fact_by (word_of e) (given_fact z a) ≡ fact_at a z e
  unfolding word_of
  fact-of (is-refused {w = w}) = refused-fact w _
  fact-of (is_lost_lem {l = l}) = lost-fact l _
  fact-of (is-chosen {c = c} q e) = read (cond (is_pin (password_of c) && ltb t.pin 3) (Tries t.pin) Done) _ q (chosen-fact (is_pin (password_of c) && ltb t.pin 3) t.pin c)
  fact-of (is-stepped q e f) = read Done _ q refl
  fact-of (is-opened {s = s} q e f) = read Done _ q (ap StepPassed (last-is s f))
  fact-of (is-run-closed q e) = read W6300 _ q refl
  fact-of (is-trial-lost q e) = read (Tries (t.pin - 1)) _ q refl
  fact-of (is-selected q e) = read Done _ q refl
  fact-of (is-link-taken n q c r e) = read Done _ q refl
  fact-of (is-dv-taken n q c r e h f) = read Done _ q refl
  fact-of (is-terminal-taken n q c r h e) = read Done _ q refl
  fact-of (is-announced q e) = read Done _ q refl
  fact-of (is-challenged q e) = read Done _ q refl
  fact-of (is-proven q e) = read Done _ q refl
  fact-of (is-proof-lost q e) = read W6300 _ q refl
  fact-of (is-chip-key-chosen q e) = read Done _ q refl
  fact-of (is-authenticated q e f) = read Done _ q refl
  fact-of (is-chip-lost q e) = read W6300 _ q refl
  fact-of (not-passed q verifying) = read W6300 _ q refl
  fact-of (not-passed q challenging) = read W6300 _ q refl
  fact-of (not-passed q changing) = read W6300 _ q refl
  fact-of (is_read q) = read Done _ q refl
  fact-of (is-changed q) = read Done _ q refl
  fact-of (is-unblocked-puk q) = read Done _ q refl
  fact-of (is-unblocked q) = read Done _ q refl
  fact-of (is-activated q) = read Done _ q refl
  fact-of (is-deactivated q) = read Done _ q refl
