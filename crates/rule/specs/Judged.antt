-- The rule alone, on facts made by hand, newest first: also such as no token shows. Each
-- row that says no differs from the whole way in one place; those that say yes show what is allowed.
-- Assumes nothing: these are definitions.
use Rattle.std.specs.Prelude.{ℕ, Bool, true, false, ◌≡◌, List, [], ◌∷◌, ◌++◌}
use Rattle.names.specs.Names.{name_of}
use Rattle.keys.specs.Keys.{key_of}
use Rattle.rights.specs.declared.Rights.{Rights}
use Rattle.certificate.specs.declared.Certificate.{Certificate}
use Rattle.status.specs.declared.Word.TheVariants.{Done, Tries, NotPassed, Blocked, Moment, Unprotected, Broken}
use Rattle.run.specs.declared.Choice.{Choice}
use Rattle.run.specs.declared.Choice.TheVariants.{Pin, PinFor, CanFor}
use Rattle.run.specs.declared.Step.TheVariants.{Nonce, Map, Agree, Confirm}
use Rattle.rule.specs.Facts.{AtReset, Prescribed, Fact, Taken, StepPassed, Accepted, Announced, Challenged, Proved, ProofFailed, ChipPassed, TrustPoint, Seen, trust_point, fact_by, fact_of, seen}
use Rattle.rule.specs.Rule.{readable}

-- ---- certificates and choices

-- a certificate by one letter of its name and by its rights; days and key numbers play no part
abbrev pub stating : ℕ → ℕ → Certificate
stating letter rights = record { name = name_of (letter ∷ []); rights = record { 0 = rights }; first = record { 0 = 0 }; last = record { 0 = 0 }; key = 0 }

abbrev pub root_with : ℕ → Certificate
root_with rights = stating 0x41 rights

abbrev pub dv_with : ℕ → Certificate
dv_with rights = stating 0x42 rights

abbrev pub terminal_with : ℕ → Certificate
terminal_with rights = stating 0x43 rights

-- each with group 1 and bit 4
abbrev pub root : Certificate
root = root_with 0xFFFFFFFFFF

abbrev pub dv : Certificate
dv = dv_with 0x800FFF0130

abbrev pub terminal : Certificate
terminal = terminal_with 0x0000000110

abbrev pub link : Certificate
link = stating 0x44 0xFFFFFFFFFF

abbrev pub other_dv : Certificate
other_dv = stating 0x45 0x800FFF0130

abbrev pub rights_for : ℕ → Rights
rights_for rights = record { 0 = rights }

abbrev pub by_pin : Choice
by_pin = PinFor (rights_for 0x0000000110)

abbrev pub by_can : Choice
by_can = CanFor (rights_for 0x0000000110)

-- ---- the parts of the way, newest first

abbrev pub pace : List Fact
pace = StepPassed Confirm ∷ StepPassed Agree ∷ StepPassed Map ∷ StepPassed Nonce ∷ []

abbrev pub chained : List Fact
chained = Accepted dv.name terminal ∷ Accepted root.name dv ∷ []

-- announced with the key 02 03
abbrev pub announced : Fact
announced = Announced (key_of (0x02 ∷ 0x03 ∷ []))

abbrev pub proof : List Fact
proof = Proved ∷ Challenged ∷ announced ∷ []

abbrev pub chip : List Fact
chip = ChipPassed (0x02 ∷ 0x03 ∷ []) ∷ []

-- the whole way by a choice, with these rights of the DV and the terminal
abbrev pub way : Choice → (dv terminal : ℕ) → List Fact
way c d t = chip ++ proof ++ (Accepted dv.name (terminal_with t) ∷ Accepted root.name (dv_with d) ∷ []) ++ pace ++ (Taken c ∷ [])

abbrev pub whole : List Fact
whole = way by_pin 0x800FFF0130 0x0000000110

-- of a token that was personalised with the root alone, with these rights
abbrev pub from : ℕ → List TrustPoint
from rights = trust_point (root_with rights) ∷ []

abbrev pub start : List TrustPoint
start = from 0xFFFFFFFFFF

-- a line whose facts all go with these trust points, whatever links it has
abbrev pub at : List TrustPoint → List Fact → List Seen
at points [] = []
at points (f ∷ past) = record { fact = f; points = points } ∷ at points past

-- group 1 is readable, or not
abbrev pub Says : List Seen → Bool → Type 0
Says r says = readable r 1 ≡ says

abbrev pub Judged : List Fact → Bool → Type 0
Judged r says = Says (seen start r) says

-- ---- the rows

-- (a) "the last password choice taken .. is a PIN or CAN naming rights, and its four steps passed"
abbrev pub JudgedA : Type 0
JudgedA =
    Judged whole true
    -- no choice; one that names no rights; a later one
    × Judged (chip ++ proof ++ chained ++ pace) false
    × Judged (chip ++ proof ++ chained ++ pace ++ (Taken Pin ∷ [])) false
    × Judged (chip ++ proof ++ chained ++ (Taken by_pin ∷ []) ++ pace ++ (Taken by_pin ∷ [])) false
    -- three steps; one step four times; the four in another order
    × Judged (chip ++ proof ++ chained ++ (StepPassed Agree ∷ StepPassed Map ∷ StepPassed Nonce ∷ Taken by_pin ∷ [])) false
    × Judged (chip ++ proof ++ chained ++ (StepPassed Nonce ∷ StepPassed Nonce ∷ StepPassed Nonce ∷ StepPassed Nonce ∷ Taken by_pin ∷ [])) false
    × Judged (chip ++ proof ++ chained ++ (StepPassed Agree ∷ StepPassed Confirm ∷ StepPassed Map ∷ StepPassed Nonce ∷ Taken by_pin ∷ [])) false
    -- a fifth step
    × Judged (chip ++ proof ++ chained ++ (StepPassed Confirm ∷ pace) ++ (Taken by_pin ∷ [])) false
    -- "since the last reset or lost session": 6987, 6988, a reset, and one before the steps
    × Judged (fact_of (Prescribed [] [] Unprotected) ∷ whole) false
    × Judged (fact_of (Prescribed [] [] Broken) ∷ whole) false
    × Judged (fact_of AtReset ∷ whole) false
    × Judged (chip ++ proof ++ chained ++ pace ++ (fact_of AtReset ∷ Taken by_pin ∷ [])) false

-- (b) "after it a DV, the latest, was accepted under a trust point, then a terminal under that DV, no certificate accepted later"
abbrev pub JudgedB : Type 0
JudgedB =
    -- the four steps after the chain
    Judged (chip ++ proof ++ pace ++ chained ++ (Taken by_pin ∷ [])) false
    -- a chain, and a DV, from before a choice that ran its own four steps
    × Judged (chip ++ proof ++ pace ++ (Taken by_pin ∷ []) ++ chained ++ pace ++ (Taken by_pin ∷ [])) false
    × Judged (chip ++ proof ++ (Accepted dv.name terminal ∷ []) ++ pace ++ (Taken by_pin ∷ []) ++ (Accepted root.name dv ∷ []) ++ pace ++ (Taken by_pin ∷ [])) false
    -- no DV; no terminal
    × Judged (chip ++ proof ++ (Accepted dv.name terminal ∷ []) ++ pace ++ (Taken by_pin ∷ [])) false
    × Judged (chip ++ proof ++ (Accepted root.name dv ∷ []) ++ pace ++ (Taken by_pin ∷ [])) false
    -- a DV under no trust point; a terminal under another DV; a second DV
    × Judged (chip ++ proof ++ (Accepted dv.name terminal ∷ Accepted link.name dv ∷ []) ++ pace ++ (Taken by_pin ∷ [])) false
    × Judged (chip ++ proof ++ (Accepted other_dv.name terminal ∷ Accepted root.name dv ∷ []) ++ pace ++ (Taken by_pin ∷ [])) false
    × Judged (chip ++ proof ++ (Accepted dv.name terminal ∷ Accepted root.name other_dv ∷ Accepted root.name dv ∷ []) ++ pace ++ (Taken by_pin ∷ [])) false
    -- a DV in the terminal's place, a link in the DV's
    × Judged (chip ++ proof ++ (Accepted dv.name other_dv ∷ Accepted root.name dv ∷ []) ++ pace ++ (Taken by_pin ∷ [])) false
    × Judged (chip ++ proof ++ (Accepted link.name terminal ∷ Accepted root.name link ∷ []) ++ pace ++ (Taken by_pin ∷ [])) false
    -- a link between; a link and a DV accepted later
    × Judged (chip ++ proof ++ (Accepted dv.name terminal ∷ Accepted root.name link ∷ Accepted root.name dv ∷ []) ++ pace ++ (Taken by_pin ∷ [])) false
    × Judged (chip ++ proof ++ (Accepted root.name link ∷ []) ++ chained ++ pace ++ (Taken by_pin ∷ [])) false
    × Judged (chip ++ proof ++ (Accepted root.name other_dv ∷ []) ++ chained ++ pace ++ (Taken by_pin ∷ [])) false
    -- a terminal in another's place, and a DV under a link: both count
    × Judged (chip ++ proof ++ (Accepted dv.name terminal ∷ []) ++ chained ++ pace ++ (Taken by_pin ∷ [])) true
    × Judged (chip ++ proof ++ (Accepted dv.name terminal ∷ Accepted link.name dv ∷ Accepted root.name link ∷ []) ++ pace ++ (Taken by_pin ∷ [])) true
    -- a trust point held then and no more; held now and not then
    × Says (at (trust_point link ∷ []) (chip ++ proof ++ (Accepted dv.name terminal ∷ [])) ++ at start (Accepted root.name dv ∷ (pace ++ (Taken by_pin ∷ [])))) true
    × Says (at start (chip ++ proof ++ (Accepted dv.name terminal ∷ [])) ++ at (trust_point link ∷ []) (Accepted root.name dv ∷ (pace ++ (Taken by_pin ∷ [])))) false

-- (c) "then an announcement, a later challenge, and a passed proof, with no announcement or failed proof after that challenge"
abbrev pub JudgedC : Type 0
JudgedC =
    -- no announcement; none after the chain; a challenge before the announcement
    Judged (chip ++ (Proved ∷ Challenged ∷ []) ++ chained ++ pace ++ (Taken by_pin ∷ [])) false
    × Judged (chip ++ (Proved ∷ Challenged ∷ []) ++ chained ++ (announced ∷ []) ++ pace ++ (Taken by_pin ∷ [])) false
    × Judged (chip ++ (Proved ∷ announced ∷ Challenged ∷ []) ++ chained ++ pace ++ (Taken by_pin ∷ [])) false
    -- no challenge; no proof
    × Judged (chip ++ (Proved ∷ announced ∷ []) ++ chained ++ pace ++ (Taken by_pin ∷ [])) false
    × Judged (chip ++ (Challenged ∷ announced ∷ []) ++ chained ++ pace ++ (Taken by_pin ∷ [])) false
    -- an announcement after the challenge; a failed proof, and another with the same challenge
    × Judged (chip ++ (Proved ∷ announced ∷ Challenged ∷ announced ∷ []) ++ chained ++ pace ++ (Taken by_pin ∷ [])) false
    × Judged (chip ++ (Proved ∷ ProofFailed ∷ Challenged ∷ announced ∷ []) ++ chained ++ pace ++ (Taken by_pin ∷ [])) false

-- (d) "then a chip key passed with the announced key, nothing lost since"
abbrev pub JudgedD : Type 0
JudgedD =
    -- none; one before the announcement, and before the proof; a terminal proven again after it
    Judged (proof ++ chained ++ pace ++ (Taken by_pin ∷ [])) false
    × Judged (proof ++ chip ++ chained ++ pace ++ (Taken by_pin ∷ [])) false
    × Judged (Proved ∷ (chip ++ (Challenged ∷ announced ∷ []) ++ chained ++ pace ++ (Taken by_pin ∷ []))) false
    × Judged (proof ++ whole) false
    -- another key, a shorter and a longer one
    × Judged (ChipPassed (0x02 ∷ 0x04 ∷ []) ∷ (proof ++ chained ++ pace ++ (Taken by_pin ∷ []))) false
    × Judged (ChipPassed (0x02 ∷ []) ∷ (proof ++ chained ++ pace ++ (Taken by_pin ∷ []))) false
    × Judged (ChipPassed (0x02 ∷ 0x03 ∷ 0x04 ∷ []) ∷ (proof ++ chained ++ pace ++ (Taken by_pin ∷ []))) false

-- (e) "the bits agree as above, the trust point's as held at (b)"
abbrev pub JudgedE : Type 0
JudgedE =
    -- the group's bit missing from the trust point, the DV, the terminal, the confirmed rights
    Says (seen (from 0xFFFFFFFEFF) whole) false
    × Judged (way by_pin 0x800FFF0030 0x0000000110) false
    × Judged (way by_pin 0x800FFF0130 0x0000000010) false
    × Judged (way (PinFor (rights_for 0x0000000010)) 0x800FFF0130 0x0000000110) false
    -- with the CAN: bit 4 in all four, and missing from each of them
    × Judged (way by_can 0x800FFF0130 0x0000000110) true
    × Says (seen (from 0xFFFFFFFFEF) (way by_can 0x800FFF0130 0x0000000110)) false
    × Judged (way by_can 0x800FFF0120 0x0000000110) false
    × Judged (way by_can 0x800FFF0130 0x0000000100) false
    × Judged (way (CanFor (rights_for 0x0000000100)) 0x800FFF0130 0x0000000110) false
    -- of the PIN bit 4 is not asked
    × Judged (way (PinFor (rights_for 0x0000000100)) 0x800FFF0120 0x0000000100) true

-- "'Accepted', 'passed' and 'taken' mean that demand 2's definition, run over the whole record, prescribes 9000 there (for a choice also
-- 63CX)"; "'failed' is 6300"
abbrev pub JudgedWords : Type 0
JudgedWords =
    -- a choice after the whole way: taken with 9000 and with 63CX, not with 6983
    Judged (fact_by Done (Taken by_pin) ∷ whole) false
    × Judged (fact_by (Tries 2) (Taken by_pin) ∷ whole) false
    × Judged (fact_by Blocked (Taken by_pin) ∷ whole) true
    -- a proof after it: failed with 6300, nothing with 6985
    × Judged (fact_by NotPassed Proved ∷ whole) false
    × Judged (fact_by Moment Proved ∷ whole) true
    -- a chip key with 6300 did not pass, nor with 63CX
    × Judged (fact_by NotPassed (ChipPassed (0x02 ∷ 0x03 ∷ [])) ∷ (proof ++ chained ++ pace ++ (Taken by_pin ∷ []))) false
    × Judged (fact_by (Tries 2) (ChipPassed (0x02 ∷ 0x03 ∷ [])) ∷ (proof ++ chained ++ pace ++ (Taken by_pin ∷ []))) false

abbrev pub AllJudged : Type 0
AllJudged = JudgedA × JudgedB × JudgedC × JudgedD × JudgedE × JudgedWords
