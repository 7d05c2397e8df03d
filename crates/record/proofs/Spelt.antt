-- The prescribed word is what the reply's last two bytes spell. Assumes nothing.
use Prim.Native.Nat.{ℕ, ◌≤◌}
use mathlib.Core.Bool.{Bool, true, false, cond, ◌&&◌}
use mathlib.Core.Path.{◌≡◌, refl, sym}
use mathlib.Core.List.{List, [], ◌++◌}
use native.Mathlib.Omega.{arith}
use borrow.Author.Tests.{le-ltb}
use lib.Dec.{ltb}
use lib.ListN.{length, take, length-take}
use Rattle.laws.proofs.Bools.{true-false}
use Rattle.strings.specs.Bytes.{longest}
use Rattle.status.specs.Words.{word_number}
use Rattle.status.specs.declared.Word.TheVariants.{Done, Tries, Outside as W6F00}
use Rattle.run.specs.Run.{password_of, is_pin, tries}
use Rattle.event.specs.declared.Loss.{Loss}
use Rattle.event.specs.declared.Loss.TheVariants.{Unprotected, Broken}
use Rattle.event.specs.declared.Refusal.{Refusal}
use Rattle.event.specs.declared.Refusal.TheVariants.{Length, Lacking, Blocked, Unusable, Moment, Data, Parameters, NotFound, Instruction, Class, Outside}
use Rattle.event.specs.declared.Event.{Event}
use Rattle.event.specs.declared.Event.TheVariants.{Refused, Lost, Chosen, StepPassed, Opened, RunClosed, TrialLost, Selected, LinkTaken, DvTaken, TerminalTaken, Announced, Challenged, Proven, ProofLost, ChipKeyChosen, Authenticated, ChipLost, ReadAllowed, PinChanged, UnblockedByPuk, UnblockedByRight, Activated, Deactivated, NotPassed}
use Rattle.event.specs.Event.{word_of}
use Rattle.verdicts.specs.declared.Happened.{Happened}
use Rattle.verdicts.proofs.Decisions.{answer-in}
use Rattle.reply.specs.Bytes.{word_bytes}
use Rattle.reply.specs.Reply.{room, silent as is_silent, data_of, reply_of}
use Rattle.trust.specs.Trust.{names_of}
use Rattle.trust.specs.declared.Points.{Points}
use Rattle.answer.specs.Answer.{layout_of, reply_to}
use Rattle.token.specs.Plan.{plan_of}
use Rattle.token.specs.Step.{Stepped, happened_of, next_of, ended_by, step_of}
use Rattle.record.specs.Claim.{Spells, silent, spelt, ClaimSpelt}

-- 6F00 alone is silent
silent-refusal : (w : Refusal) → is_silent (layout_of (Refused w)) ≡ true → word_of (Refused w) ≡ W6F00
unfolding layout_of word_of
silent-refusal Length h = true-false (sym h)
silent-refusal Lacking h = true-false (sym h)
silent-refusal Blocked h = true-false (sym h)
silent-refusal Unusable h = true-false (sym h)
silent-refusal Moment h = true-false (sym h)
silent-refusal Data h = true-false (sym h)
silent-refusal Parameters h = true-false (sym h)
silent-refusal NotFound h = true-false (sym h)
silent-refusal Instruction h = true-false (sym h)
silent-refusal Class h = true-false (sym h)
silent-refusal Outside h = refl

silent-word : (e : Event) → is_silent (layout_of e) ≡ true → word_of e ≡ W6F00
unfolding layout_of
silent-word (Refused w) h = silent-refusal w h
silent-word (Lost l) h = true-false (sym h)
silent-word (Chosen c n) h = true-false (sym h)
silent-word (StepPassed c s) h = true-false (sym h)
silent-word (Opened c) h = true-false (sym h)
silent-word RunClosed h = true-false (sym h)
silent-word (TrialLost n) h = true-false (sym h)
silent-word (Selected i) h = true-false (sym h)
silent-word LinkTaken h = true-false (sym h)
silent-word (DvTaken r) h = true-false (sym h)
silent-word TerminalTaken h = true-false (sym h)
silent-word Announced h = true-false (sym h)
silent-word Challenged h = true-false (sym h)
silent-word Proven h = true-false (sym h)
silent-word ProofLost h = true-false (sym h)
silent-word ChipKeyChosen h = true-false (sym h)
silent-word Authenticated h = true-false (sym h)
silent-word ChipLost h = true-false (sym h)
silent-word ReadAllowed h = true-false (sym h)
silent-word PinChanged h = true-false (sym h)
silent-word UnblockedByPuk h = true-false (sym h)
silent-word UnblockedByRight h = true-false (sym h)
silent-word Activated h = true-false (sym h)
silent-word Deactivated h = true-false (sym h)
silent-word NotPassed h = true-false (sym h)

-- and all others are spoken
spoken-refusal : (w : Refusal) → is_silent (layout_of (Refused w)) ≡ false → word_of (Refused w) ≡ W6F00 → ⊥
unfolding layout_of word_of
spoken-refusal Length s h = let z : ◌≡◌ {A = ℕ} 0 1 = cc in omega arith
spoken-refusal Lacking s h = let z : ◌≡◌ {A = ℕ} 0 1 = cc in omega arith
spoken-refusal Blocked s h = let z : ◌≡◌ {A = ℕ} 0 1 = cc in omega arith
spoken-refusal Unusable s h = let z : ◌≡◌ {A = ℕ} 0 1 = cc in omega arith
spoken-refusal Moment s h = let z : ◌≡◌ {A = ℕ} 0 1 = cc in omega arith
spoken-refusal Data s h = let z : ◌≡◌ {A = ℕ} 0 1 = cc in omega arith
spoken-refusal Parameters s h = let z : ◌≡◌ {A = ℕ} 0 1 = cc in omega arith
spoken-refusal NotFound s h = let z : ◌≡◌ {A = ℕ} 0 1 = cc in omega arith
spoken-refusal Instruction s h = let z : ◌≡◌ {A = ℕ} 0 1 = cc in omega arith
spoken-refusal Class s h = let z : ◌≡◌ {A = ℕ} 0 1 = cc in omega arith
spoken-refusal Outside s h = true-false s

spoken-loss : (l : Loss) → word_of (Lost l) ≡ W6F00 → ⊥
unfolding word_of
spoken-loss Unprotected h = let z : ◌≡◌ {A = ℕ} 0 1 = cc in omega arith
spoken-loss Broken h = let z : ◌≡◌ {A = ℕ} 0 1 = cc in omega arith

spoken-choice : (b : Bool) (n : ℕ) → cond b (Tries n) Done ≡ W6F00 → ⊥
spoken-choice true n h = let z : ◌≡◌ {A = ℕ} 0 1 = cc in omega arith
spoken-choice false n h = let z : ◌≡◌ {A = ℕ} 0 1 = cc in omega arith

spoken : (e : Event) → is_silent (layout_of e) ≡ false → word_of e ≡ W6F00 → ⊥
unfolding word_of
spoken (Refused w) s h = spoken-refusal w s h
spoken (Lost l) s h = spoken-loss l h
spoken (Chosen c n) s h = spoken-choice (is_pin (password_of c) && ltb n tries) n h
spoken (StepPassed c p) s h = let z : ◌≡◌ {A = ℕ} 0 1 = cc in omega arith
spoken (Opened c) s h = let z : ◌≡◌ {A = ℕ} 0 1 = cc in omega arith
spoken RunClosed s h = let z : ◌≡◌ {A = ℕ} 0 1 = cc in omega arith
spoken (TrialLost n) s h = let z : ◌≡◌ {A = ℕ} 0 1 = cc in omega arith
spoken (Selected i) s h = let z : ◌≡◌ {A = ℕ} 0 1 = cc in omega arith
spoken LinkTaken s h = let z : ◌≡◌ {A = ℕ} 0 1 = cc in omega arith
spoken (DvTaken r) s h = let z : ◌≡◌ {A = ℕ} 0 1 = cc in omega arith
spoken TerminalTaken s h = let z : ◌≡◌ {A = ℕ} 0 1 = cc in omega arith
spoken Announced s h = let z : ◌≡◌ {A = ℕ} 0 1 = cc in omega arith
spoken Challenged s h = let z : ◌≡◌ {A = ℕ} 0 1 = cc in omega arith
spoken Proven s h = let z : ◌≡◌ {A = ℕ} 0 1 = cc in omega arith
spoken ProofLost s h = let z : ◌≡◌ {A = ℕ} 0 1 = cc in omega arith
spoken ChipKeyChosen s h = let z : ◌≡◌ {A = ℕ} 0 1 = cc in omega arith
spoken Authenticated s h = let z : ◌≡◌ {A = ℕ} 0 1 = cc in omega arith
spoken ChipLost s h = let z : ◌≡◌ {A = ℕ} 0 1 = cc in omega arith
spoken ReadAllowed s h = let z : ◌≡◌ {A = ℕ} 0 1 = cc in omega arith
spoken PinChanged s h = let z : ◌≡◌ {A = ℕ} 0 1 = cc in omega arith
spoken UnblockedByPuk s h = let z : ◌≡◌ {A = ℕ} 0 1 = cc in omega arith
spoken UnblockedByRight s h = let z : ◌≡◌ {A = ℕ} 0 1 = cc in omega arith
spoken Activated s h = let z : ◌≡◌ {A = ℕ} 0 1 = cc in omega arith
spoken Deactivated s h = let z : ◌≡◌ {A = ℕ} 0 1 = cc in omega arith
spoken NotPassed s h = let z : ◌≡◌ {A = ℕ} 0 1 = cc in omega arith

-- a reply that has room, of a string that is not too long
reply-spells : (h : Points) (e : Event) (first : List ℕ) (size : ℕ) → ltb size room ≡ false → length first ≤ longest → Spells (word_of e) (reply_to h e first size)
unfolding reply_to reply_of
reply-spells h e first size r l = rw (r, le-ltb longest (length first) l) (go (is_silent (layout_of e)) refl)
  where
    content : List ℕ
    content = data_of (layout_of e) first (names_of h)

    go : (b : Bool) → is_silent (layout_of e) ≡ b → Spells (word_of e) (cond b [] (content ++ word_bytes (word_number (word_of e))))
    go true s = silent (silent-word e s)
    go false s = spelt (spoken e s) content

pub word-spelt : ClaimSpelt
unfolding step_of
word-spelt t x = go (ltb x.size room) refl
  where
    h : Happened
    h = happened_of t x

    short : length (take h.answer x.first) ≤ longest
    short =
        let a = answer-in (plan_of t x.command x.note) x.result (length x.first) x.second in
        let m = length-take h.answer x.first in
        omega arith

    ended : Bool → Stepped
    ended b = cond b (record { token = t; word = W6F00; bytes = [] }) (ended_by t h x)

    go : (b : Bool) → ltb x.size room ≡ b → Spells (ended b).word (ended b).bytes
    go true e = silent refl
    go false e = reply-spells (next_of t h).points h.event (take h.answer x.first) x.size e short
