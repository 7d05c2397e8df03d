-- What a command's bytes ask for: its shape, and what its data say. Assumes nothing: these are definitions.
use Rattle.std.specs.Prelude.{ℕ, List, Bool, Option, Some, Result, Ok, Err, option_map}
use Rattle.objects.specs.Objects.{part}
use Rattle.command.specs.Shape.{Shape, shape_of}
use Rattle.command.specs.declared.kind.Kind.{Kind}
use Rattle.command.specs.declared.kind.Kind.TheVariants.{ChoosePassword, General, SelectIssuer, VerifyCertificate, Announce, Challenge, ProveTerminal, ChooseChipKey, Read, ChangePin, Unblock, Activate, Deactivate}
use Rattle.command.specs.declared.Fault.{Fault}
use Rattle.command.specs.declared.Fault.TheVariants.{Form, Class, Instruction, Parameters, Presence}
use Rattle.event.specs.declared.Refusal.{Refusal}
use Rattle.event.specs.declared.Refusal.TheVariants.{Length as W6700, Class as W6E00, Instruction as W6D00, Parameters as W6A86}
use Rattle.fields.specs.Given.{only}
use Rattle.fields.specs.Choice.{choice_of}
use Rattle.fields.specs.Held.{general_of}
use Rattle.fields.specs.Issuers.{select_of, verify_of}
use Rattle.fields.specs.Announce.{announce_of}
use Rattle.fields.specs.Chip.{chip_of}
use Rattle.fields.specs.Plain.{proof_of, pin_of}
use Rattle.fields.specs.declared.asked.Ask.TheVariants.{Challenge as AskChallenge, Read as AskRead, Unblock as AskUnblock, Activate as AskActivate, Deactivate as AskDeactivate}
use Rattle.fields.specs.declared.asked.Asked.{Asked}
use Rattle.fields.specs.declared.given.Given.{Given}

-- "command or Le of wrong length"; "unknown INS, CLA"; "bad P1-P2"
abbrev pub fault_of : Fault → Refusal
fault_of Form = W6700
fault_of Class = W6E00
fault_of Instruction = W6D00
fault_of Parameters = W6A86
fault_of Presence = W6700

-- what the data of each command give, in the order of "Commands"; None are data that are not what the command wants
unfoldable pub data_of : Kind → List ℕ → Option Given
data_of ChoosePassword s = option_map only (choice_of s)
data_of General s = option_map only (general_of s)
data_of SelectIssuer s = select_of s
data_of VerifyCertificate s = verify_of s
data_of Announce s = announce_of s
data_of Challenge s = Some (only AskChallenge)
data_of ProveTerminal s = option_map only (proof_of s)
data_of ChooseChipKey s = option_map only (chip_of s)
data_of (Read n) s = Some (only (AskRead n))
data_of ChangePin s = option_map only (pin_of s)
data_of Unblock s = Some (only AskUnblock)
data_of Activate s = Some (only AskActivate)
data_of Deactivate s = Some (only AskDeactivate)

unfoldable pub refusing : Refusal → Result Asked Refusal
refusing r = Err r

unfoldable pub asking : Kind → Bool → Option Given → Result Asked Refusal
asking k chained g = Ok (record { kind = k; chained = chained; given = g })

abbrev pub asked_by : List ℕ → Shape → Result Asked Refusal
asked_by s (Err f) = refusing (fault_of f)
asked_by s (Ok c) = asking c.kind c.chained (data_of c.kind (part c.start c.end s))

unfoldable pub asked_of : List ℕ → Result Asked Refusal
asked_of s = asked_by s (shape_of s)
