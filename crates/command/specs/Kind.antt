-- The commands by CLA, INS and P1-P2, with the presence of data and Le. Assumes nothing: these are definitions.
use Rattle.std.specs.Prelude.{ℕ, ◌-◌, Bool, true, false, cond, not, ◌&&◌, ◌||◌, List, [], ◌∷◌, ltb, eqb, Option, Some, None, Result, Ok, Err}
use Rattle.form.specs.Form.{pair_of}
use Rattle.command.specs.declared.kind.Kind.{Kind}
use Rattle.command.specs.declared.kind.Kind.TheVariants.{ChoosePassword, General, SelectIssuer, VerifyCertificate, Announce, Challenge, ProveTerminal, ChooseChipKey, Read, ChangePin, Unblock, Activate, Deactivate}
use Rattle.command.specs.declared.Fault.{Fault}
use Rattle.command.specs.declared.Fault.TheVariants.{Instruction, Parameters}
use Rattle.command.specs.declared.kind.LeRule.{LeRule}
use Rattle.command.specs.declared.kind.LeRule.TheVariants.{NoLe, Zero, Eight, AnyLe}
use Rattle.command.specs.declared.kind.Wants.{Wants}

-- CLA 00, or 10 for INS 86 only
abbrev pub class_fits : ℕ → ℕ → Bool
class_fits cla ins = eqb cla 0 || (eqb cla 0x10 && eqb ins 0x86)

-- ---- INS, then P1-P2

pub data Row : Type 0 where
  row : (ins p : ℕ) → Kind → Row

-- INS, P1-P2 and the command, in the order of "Commands"; 86 is a run step or the chip key. Read, with its range of P1,
-- stands below.
abbrev pub commands : List Row
commands =
    row 0x22 0xC1A4 ChoosePassword
    ∷ row 0x86 0x0000 General
    ∷ row 0x22 0x81B6 SelectIssuer
    ∷ row 0x2A 0x00BE VerifyCertificate
    ∷ row 0x22 0x81A4 Announce
    ∷ row 0x84 0x0000 Challenge
    ∷ row 0x82 0x0000 ProveTerminal
    ∷ row 0x22 0x41A4 ChooseChipKey
    ∷ row 0x2C 0x0203 ChangePin
    ∷ row 0x2C 0x0303 Unblock
    ∷ row 0x44 0x1003 Activate
    ∷ row 0x04 0x1003 Deactivate
    ∷ []

-- the row of this INS and P1-P2; with none, what the rows say of the INS so far
abbrev pub listed : List Row → (ins p : ℕ) (sofar : Result Kind Fault) → Result Kind Fault
listed [] ins p sofar = sofar
listed (row i q k ∷ rows) ins p sofar = cond (eqb ins i) (cond (eqb p q) (Ok k) (listed rows ins p (Err Parameters))) (listed rows ins p sofar)

-- INS unknown, unless a row has it
abbrev pub row_of : (ins p : ℕ) → Result Kind Fault
row_of ins p = listed commands ins p (Err Instruction)

-- B0, P1 80+n, n 1..21, any P2
abbrev pub read_of : ℕ → Result Kind Fault
read_of p1 = cond (ltb p1 0x81) (Err Parameters) (cond (ltb 0x95 p1) (Err Parameters) (Ok (Read (p1 - 0x80))))

unfoldable pub kind_of : (ins p1 p2 : ℕ) → Result Kind Fault
kind_of ins p1 p2 = cond (eqb ins 0xB0) (read_of p1) (row_of ins (pair_of p1 p2))

-- ---- presence of data and Le

-- data or none; "Le is absent unless named": Le zero, Le 08, Le present
abbrev pub wants_of : Kind → Wants
wants_of ChoosePassword = record { with_data = true; le = NoLe }
wants_of General = record { with_data = true; le = Zero }
wants_of SelectIssuer = record { with_data = true; le = NoLe }
wants_of VerifyCertificate = record { with_data = true; le = NoLe }
wants_of Announce = record { with_data = true; le = NoLe }
wants_of Challenge = record { with_data = false; le = Eight }
wants_of ProveTerminal = record { with_data = true; le = NoLe }
wants_of ChooseChipKey = record { with_data = true; le = NoLe }
wants_of (Read n) = record { with_data = false; le = AnyLe }
wants_of ChangePin = record { with_data = true; le = NoLe }
wants_of Unblock = record { with_data = false; le = NoLe }
wants_of Activate = record { with_data = false; le = NoLe }
wants_of Deactivate = record { with_data = false; le = NoLe }

-- the field's number, of one byte or two
abbrev pub le_is : Option ℕ → ℕ → Bool
le_is None n = false
le_is (Some m) n = eqb m n

abbrev pub le_there : Option ℕ → Bool
le_there None = false
le_there (Some m) = true

abbrev pub le_fits : LeRule → Option ℕ → Bool
le_fits NoLe le = not (le_there le)
le_fits Zero le = le_is le 0
le_fits Eight le = le_is le 8
le_fits AnyLe le = le_there le

abbrev pub present : Wants → Bool → Option ℕ → Bool
present w brought le = cond w.with_data brought (not brought) && le_fits w.le le
