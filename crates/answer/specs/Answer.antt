-- The reply to an event. Assumes nothing: these are definitions.
use Rattle.std.specs.Prelude.{ℕ, List}
use Rattle.status.specs.Words.{word_number}
use Rattle.run.specs.declared.Step.{Step}
use Rattle.run.specs.declared.Step.TheVariants.{Nonce, Map, Agree, Confirm}
use Rattle.event.specs.declared.Refusal.{Refusal}
use Rattle.event.specs.declared.Refusal.TheVariants.{Length, Lacking, Blocked, Unusable, Moment, Data, Parameters, NotFound, Instruction, Class, Outside}
use Rattle.event.specs.declared.Event.{Event}
use Rattle.event.specs.declared.Event.TheVariants.{Refused, Lost, Chosen, StepPassed, Opened, RunClosed, TrialLost, Selected, LinkTaken, DvTaken, TerminalTaken, Announced, Challenged, Proven, ProofLost, ChipKeyChosen, Authenticated, ChipLost, ReadAllowed, PinChanged, UnblockedByPuk, UnblockedByRight, Activated, Deactivated, NotPassed}
use Rattle.event.specs.Event.{word_of}
use Rattle.trust.specs.declared.Points.{Points}
use Rattle.trust.specs.Trust.{names_of}
use Rattle.reply.specs.declared.Layout.{Layout}
use Rattle.reply.specs.declared.Layout.TheVariants.{Silent, Bare, Flat, Nest, Confirmed, Pair}
use Rattle.reply.specs.Reply.{reply_of}

-- "Reply 7C holding 80, 82, 84 .., 86 .."
abbrev pub step_tag : Step → ℕ
step_tag Nonce = 0x80
step_tag Map = 0x82
step_tag Agree = 0x84
step_tag Confirm = 0x86

-- "Refusals have no data"; 6F00 has not even its word
abbrev pub refused_layout : Refusal → Layout
refused_layout Length = Bare
refused_layout Lacking = Bare
refused_layout Blocked = Bare
refused_layout Unusable = Bare
refused_layout Moment = Bare
refused_layout Data = Bare
refused_layout Parameters = Bare
refused_layout NotFound = Bare
refused_layout Instruction = Bare
refused_layout Class = Bare
refused_layout Outside = Silent

unfoldable pub layout_of : Event → Layout
layout_of (Refused w) = refused_layout w
layout_of (Lost l) = Bare
layout_of (Chosen c left) = Bare
layout_of (StepPassed c p) = Nest (step_tag p)
-- "The fourth adds 87 newest trust point name, 88 the previous if held"
layout_of (Opened c) = Confirmed
layout_of RunClosed = Bare
layout_of (TrialLost left) = Bare
layout_of (Selected i) = Bare
layout_of LinkTaken = Bare
layout_of (DvTaken r) = Bare
layout_of TerminalTaken = Bare
layout_of Announced = Bare
layout_of Challenged = Flat
layout_of Proven = Bare
layout_of ProofLost = Bare
layout_of ChipKeyChosen = Bare
-- "Reply 7C holding 81, 82"
layout_of Authenticated = Pair
layout_of ChipLost = Bare
layout_of ReadAllowed = Bare
layout_of PinChanged = Bare
layout_of UnblockedByPuk = Bare
layout_of UnblockedByRight = Bare
layout_of Activated = Bare
layout_of Deactivated = Bare
layout_of NotPassed = Bare

-- the reply to an event, with the trust points held after it, in a buffer of this size
unfoldable pub reply_to : Points → Event → (first : List ℕ) (size : ℕ) → List ℕ
reply_to h e first size = reply_of size (layout_of e) (word_number (word_of e)) first (names_of h)
