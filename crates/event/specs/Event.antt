-- The status word of each event. Assumes nothing: these are definitions.
use Rattle.std.specs.Prelude.{ℕ, cond, ◌&&◌, ltb}
use Rattle.status.specs.declared.Word.{Word}
use Rattle.status.specs.declared.Word.TheVariants.{Done, Tries, NotPassed as W6300, Length as W6700, Lacking as W6982, Blocked as W6983, Unusable as W6984, Moment as W6985, Unprotected as W6987, Broken as W6988, Data as W6A80, Parameters as W6A86, NotFound as W6A88, Instruction as W6D00, Class as W6E00, Outside as W6F00}
use Rattle.run.specs.declared.Choice.{Choice}
use Rattle.event.specs.declared.Refusal.{Refusal}
use Rattle.event.specs.declared.Refusal.TheVariants.{Length, Lacking, Blocked, Unusable, Moment, Data, Parameters, NotFound, Instruction, Class, Outside}
use Rattle.event.specs.declared.Loss.{Loss}
use Rattle.event.specs.declared.Loss.TheVariants.{Unprotected, Broken}
use Rattle.event.specs.declared.Event.{Event}
use Rattle.event.specs.declared.Event.TheVariants.{Refused, Lost, Chosen, StepPassed, Opened, RunClosed, TrialLost, Selected, LinkTaken, DvTaken, TerminalTaken, Announced, Challenged, Proven, ProofLost, ChipKeyChosen, Authenticated, ChipLost, ReadAllowed, PinChanged, UnblockedByPuk, UnblockedByRight, Activated, Deactivated, NotPassed}
use Rattle.run.specs.Run.{password_of, is_pin, tries}

abbrev pub refusal_word : Refusal → Word
refusal_word Length = W6700
refusal_word Lacking = W6982
refusal_word Blocked = W6983
refusal_word Unusable = W6984
refusal_word Moment = W6985
refusal_word Data = W6A80
refusal_word Parameters = W6A86
refusal_word NotFound = W6A88
refusal_word Instruction = W6D00
refusal_word Class = W6E00
refusal_word Outside = W6F00

-- "plain while a session is open / broken, or protected with none open"
abbrev pub loss_word : Loss → Word
loss_word Unprotected = W6987
loss_word Broken = W6988

-- "PIN chosen with X tries left (X below 3)"
abbrev pub chosen_word : Choice → ℕ → Word
chosen_word c left = cond (is_pin (password_of c) && ltb left tries) (Tries left) Done

unfoldable pub word_of : Event → Word
word_of (Refused r) = refusal_word r
word_of (Lost l) = loss_word l
word_of (Chosen c left) = chosen_word c left
word_of (StepPassed c p) = Done
word_of (Opened c) = Done
word_of RunClosed = W6300
-- "or PIN trial lost, X left"
word_of (TrialLost left) = Tries left
word_of (Selected i) = Done
word_of LinkTaken = Done
word_of (DvTaken r) = Done
word_of TerminalTaken = Done
word_of Announced = Done
word_of Challenged = Done
word_of Proven = Done
word_of ProofLost = W6300
word_of ChipKeyChosen = Done
word_of Authenticated = Done
word_of ChipLost = W6300
word_of ReadAllowed = Done
word_of PinChanged = Done
word_of UnblockedByPuk = Done
word_of UnblockedByRight = Done
word_of Activated = Done
word_of Deactivated = Done
word_of NotPassed = W6300
