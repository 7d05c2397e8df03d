-- Commands, judged by the definition. Assumes nothing.
use Rattle.std.specs.Prelude.{Some, None}
use Prim.Native.Nat.{ℕ}
use mathlib.Core.Bool.{false}
use mathlib.Core.Path.{◌≡◌, refl}
use mathlib.Core.List.{List, [], ◌∷◌, ◌++◌}
use lib.ListN.{replicate}
use Rattle.objects.specs.Objects.{objects_in, objects, objects_of, found_in, header_of, tag_of, second_tag_byte, len_of, length_after_81}
use Rattle.objects.specs.Chain.{taken}
use Rattle.names.specs.Names.{is_name, name_of}
use Rattle.keys.specs.Keys.{is_key, key_of}
use Rattle.rights.specs.Rights.{is_rights, granted}
use Rattle.form.specs.Form.{form_of, after_header, after_four, data_then, after_short}
use Rattle.command.specs.Kind.{kind_of}
use Rattle.command.specs.Shape.{shape_of, headed_of}
use Rattle.command.specs.declared.kind.Kind.TheVariants.{SelectIssuer, ChangePin as KindPin}
use Rattle.event.specs.declared.Refusal.TheVariants.{Instruction}
use Rattle.run.specs.declared.Choice.TheVariants.{Can, PinFor}
use Rattle.run.specs.declared.Step.TheVariants.{Nonce}
use Rattle.taking.specs.Taking.{reading, lastly, fitted, last_of, holds}
use Rattle.fields.specs.Given.{selecting, announcing}
use Rattle.fields.specs.Choice.{choice_of, protocol_then, password_then, rights_then, chosen_by}
use Rattle.fields.specs.Held.{general_of, held_in}
use Rattle.fields.specs.Issuers.{select_of}
use Rattle.fields.specs.Announce.{announce_of, terminal_then, auxiliary_then, key_then}
use Rattle.fields.specs.Announce as announce
use Rattle.fields.specs.Chip.{chip_of, reference_in}
use Rattle.fields.specs.Plain.{pin_of}
use Rattle.fields.specs.Asked.{data_of, refusing, asking, asked_of}
use Rattle.fields.specs.declared.asked.Content.TheVariants.{Step, Chip}
use Rattle.fields.specs.declared.asked.Ask.TheVariants.{Choose, General, ChooseChipKey, ChangePin}

-- 80 with an identifier's last bytes, and 83 with a password
abbrev protocol : ℕ → ℕ → ℕ → List ℕ
protocol a b c = 0x80 ∷ 0x0A ∷ 0x04 ∷ 0x00 ∷ 0x7F ∷ 0x00 ∷ 0x07 ∷ 0x02 ∷ 0x02 ∷ a ∷ b ∷ c ∷ []

abbrev password : ℕ → List ℕ
password p = protocol 4 2 2 ++ (0x83 ∷ 0x01 ∷ p ∷ [])

-- 7F4C naming 0000000110
abbrev rights : List ℕ
rights = 0x7F ∷ 0x4C ∷ 0x12 ∷ 0x06 ∷ 0x09 ∷ 0x04 ∷ 0x00 ∷ 0x7F ∷ 0x00 ∷ 0x07 ∷ 0x03 ∷ 0x01 ∷ 0x02 ∷ 0x02 ∷ 0x53 ∷ 0x05 ∷ 0x00 ∷ 0x00 ∷ 0x00 ∷ 0x01 ∷ 0x10 ∷ []

pub choices :
    -- the PIN, naming rights
    (choice_of (password 3 ++ rights) ≡ Some (Choose (PinFor (record { 0 = 0x0000000110 }))))
    -- the CAN, naming none
    × (choice_of (password 2) ≡ Some (Choose Can))
    -- MRZ and PUK name none
    × (choice_of (password 1 ++ rights) ≡ None)
    × (choice_of (password 4 ++ rights) ≡ None)
    -- no such password
    × (choice_of (password 5) ≡ None)
    -- something after the last object
    × (choice_of (password 3 ++ rights ++ (0x00 ∷ 0x00 ∷ [])) ≡ None)
    -- another identifier
    × (choice_of (protocol 3 2 2 ++ (0x83 ∷ 0x01 ∷ 0x02 ∷ [])) ≡ None)
unfolding choice_of reading protocol_then password_then rights_then lastly chosen_by taken granted is_rights objects_in objects objects_of found_in header_of tag_of second_tag_byte len_of
choices = (refl, refl, refl, refl, refl, refl, refl)

pub contents :
    (general_of (0x7C ∷ 0x00 ∷ []) ≡ Some (General (Step Nonce)))
    -- 80 with one byte
    × (general_of (0x7C ∷ 0x03 ∷ 0x80 ∷ 0x01 ∷ 0x04 ∷ []) ≡ Some (General Chip))
    -- 81 with none
    × (general_of (0x7C ∷ 0x02 ∷ 0x81 ∷ 0x00 ∷ []) ≡ None)
    -- 85 with nine
    × (general_of (0x7C ∷ 0x0B ∷ 0x85 ∷ 0x09 ∷ replicate 9 0x11) ≡ None)
    -- 83 with 141
    × (general_of (0x7C ∷ 0x81 ∷ 0x90 ∷ 0x83 ∷ 0x81 ∷ 0x8D ∷ replicate 141 0x11) ≡ None)
    -- something after 7C
    × (general_of (0x7C ∷ 0x00 ∷ 0x7C ∷ 0x00 ∷ []) ≡ None)
unfolding general_of reading held_in lastly holds last_of fitted taken objects_in objects objects_of found_in header_of tag_of second_tag_byte len_of length_after_81
contents = (refl, refl, refl, refl, refl, refl)

-- UTTERM00001, and 83 with it
abbrev name : List ℕ
name = 0x55 ∷ 0x54 ∷ 0x54 ∷ 0x45 ∷ 0x52 ∷ 0x4D ∷ 0x30 ∷ 0x30 ∷ 0x30 ∷ 0x30 ∷ 0x31 ∷ []

abbrev named : List ℕ
named = 0x83 ∷ 0x0B ∷ name

-- 91 with so many bytes
abbrev key : ℕ → List ℕ
key n = 0x91 ∷ n ∷ replicate n 0x02

pub names :
    (select_of named ≡ Some (selecting (name_of name)))
    -- a malformed name
    × (select_of (0x83 ∷ 0x02 ∷ 0x55 ∷ 0x54 ∷ []) ≡ None)
    -- announced without 67, and with it
    × (announce_of (protocol 2 2 3 ++ named ++ key 33) ≡ Some (announcing (name_of name) (key_of (replicate 33 0x02))))
    × (announce_of (protocol 2 2 3 ++ named ++ (0x67 ∷ 0x02 ∷ 0x73 ∷ 0x00 ∷ []) ++ key 1) ≡ Some (announcing (name_of name) (key_of (0x02 ∷ []))))
    -- a 67 that is not well-formed
    × (announce_of (protocol 2 2 3 ++ named ++ (0x67 ∷ 0x01 ∷ 0x73 ∷ []) ++ key 1) ≡ None)
    -- a key of 67 bytes
    × (announce_of (protocol 2 2 3 ++ named ++ key 67) ≡ None)
    -- 60 objects in 67 are 64 in all, and 61 are one too many
    × (announce_of (protocol 2 2 3 ++ named ++ (0x67 ∷ 0x78 ∷ replicate 120 0x00) ++ key 1) ≡ Some (announcing (name_of name) (key_of (0x02 ∷ []))))
    × (announce_of (protocol 2 2 3 ++ named ++ (0x67 ∷ 0x7A ∷ replicate 122 0x00) ++ key 1) ≡ None)
unfolding select_of announce_of reading announce.protocol_then terminal_then auxiliary_then key_then lastly taken is_name is_key objects_in objects objects_of found_in header_of tag_of second_tag_byte len_of length_after_81
names = (refl, refl, refl, refl, refl, refl, refl, refl)

pub others :
    (chip_of (protocol 3 2 2) ≡ Some ChooseChipKey)
    × (chip_of (protocol 3 2 2 ++ (0x84 ∷ 0x01 ∷ 0x07 ∷ [])) ≡ Some ChooseChipKey)
    -- an 84 of two bytes
    × (chip_of (protocol 3 2 2 ++ (0x84 ∷ 0x02 ∷ 0x07 ∷ 0x07 ∷ [])) ≡ None)
    -- the identifier of another protocol
    × (chip_of (protocol 4 2 2) ≡ None)
    × (pin_of (0x31 ∷ 0x32 ∷ 0x33 ∷ 0x34 ∷ 0x35 ∷ 0x36 ∷ []) ≡ Some ChangePin)
    -- five digits, and a byte 3A
    × (pin_of (0x31 ∷ 0x32 ∷ 0x33 ∷ 0x34 ∷ 0x35 ∷ []) ≡ None)
    × (pin_of (0x31 ∷ 0x32 ∷ 0x33 ∷ 0x34 ∷ 0x35 ∷ 0x3A ∷ []) ≡ None)
unfolding chip_of reading reference_in holds last_of fitted pin_of taken objects_in objects objects_of found_in header_of tag_of second_tag_byte len_of
others = (refl, refl, refl, refl, refl, refl, refl)

-- whole commands: a select, a PIN of five digits, an unknown INS
pub commands :
    (asked_of (0x00 ∷ 0x22 ∷ 0x81 ∷ 0xB6 ∷ 0x0D ∷ named) ≡ asking SelectIssuer false (Some (selecting (name_of name))))
    × (asked_of (0x00 ∷ 0x2C ∷ 0x02 ∷ 0x03 ∷ 0x05 ∷ 0x31 ∷ 0x32 ∷ 0x33 ∷ 0x34 ∷ 0x35 ∷ []) ≡ asking KindPin false None)
    × (asked_of (0x00 ∷ 0xFF ∷ 0x00 ∷ 0x00 ∷ []) ≡ refusing Instruction)
unfolding asked_of data_of select_of pin_of reading lastly taken is_name objects_in objects objects_of found_in header_of tag_of second_tag_byte len_of shape_of form_of after_header after_four data_then after_short headed_of kind_of
commands = (refl, refl, refl)
