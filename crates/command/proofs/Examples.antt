-- Commands, judged by the definition. Assumes nothing.
use Rattle.std.specs.Prelude.{Ok, Err}
use Prim.Native.Nat.{ℕ, ◌-◌, ◌/◌, ◌%◌}
use mathlib.Core.Bool.{true, false}
use mathlib.Core.Path.{◌≡◌, refl}
use mathlib.Core.List.{List, [], ◌∷◌}
use lib.ListN.{replicate}
use Rattle.form.specs.Form.{command_limit, form_of, after_header, after_four, extended_of, data_then, after_short, after_long}
use Rattle.command.specs.Kind.{kind_of}
use Rattle.command.specs.Shape.{shape_of, headed_of}
use Rattle.command.specs.declared.kind.Kind.TheVariants.{General, VerifyCertificate, Challenge, Read}
use Rattle.command.specs.declared.Fault.TheVariants.{Form as FormFault, Class, Instruction, Parameters, Presence}

-- a certificate of n bytes, extended
abbrev verify : ℕ → List ℕ
verify n = 0x00 ∷ 0x2A ∷ 0x00 ∷ 0xBE ∷ 0x00 ∷ (n / 256) ∷ (n % 256) ∷ replicate n 0x00

pub examples :
    -- step one, extended: Lc 0002, Le 0000
    (shape_of (0x10 ∷ 0x86 ∷ 0x00 ∷ 0x00 ∷ 0x00 ∷ 0x00 ∷ 0x02 ∷ 0x7C ∷ 0x00 ∷ 0x00 ∷ 0x00 ∷ []) ≡ Ok (record { kind = General; chained = true; start = 7; end = 9 }))
    -- the same, short
    × (shape_of (0x10 ∷ 0x86 ∷ 0x00 ∷ 0x00 ∷ 0x02 ∷ 0x7C ∷ 0x00 ∷ 0x00 ∷ []) ≡ Ok (record { kind = General; chained = true; start = 5; end = 7 }))
    -- Le 0100 is not zero
    × (shape_of (0x10 ∷ 0x86 ∷ 0x00 ∷ 0x00 ∷ 0x00 ∷ 0x00 ∷ 0x02 ∷ 0x7C ∷ 0x00 ∷ 0x01 ∷ 0x00 ∷ []) ≡ Err Presence)
    -- a challenge, Le 0008
    × (shape_of (0x00 ∷ 0x84 ∷ 0x00 ∷ 0x00 ∷ 0x00 ∷ 0x00 ∷ 0x08 ∷ []) ≡ Ok (record { kind = Challenge; chained = false; start = 4; end = 4 }))
    -- Le 00 where 08 is wanted
    × (shape_of (0x00 ∷ 0x84 ∷ 0x00 ∷ 0x00 ∷ 0x00 ∷ []) ≡ Err Presence)
    -- Le without data
    × (shape_of (0x00 ∷ 0x22 ∷ 0xC1 ∷ 0xA4 ∷ 0x00 ∷ []) ≡ Err Presence)
    -- no data
    × (shape_of (0x00 ∷ 0x2C ∷ 0x02 ∷ 0x03 ∷ []) ≡ Err Presence)
    -- CLA before INS
    × (shape_of (0x10 ∷ 0xFF ∷ 0x00 ∷ 0x00 ∷ []) ≡ Err Class)
    -- INS unknown
    × (shape_of (0x00 ∷ 0xFF ∷ 0x00 ∷ 0x00 ∷ []) ≡ Err Instruction)
    -- CLA 0C
    × (shape_of (0x0C ∷ 0x84 ∷ 0x00 ∷ 0x00 ∷ []) ≡ Err Class)
    -- CLA 10 for INS 86 only
    × (shape_of (0x10 ∷ 0x84 ∷ 0x00 ∷ 0x00 ∷ 0x08 ∷ []) ≡ Err Class)
    -- a read without Le
    × (shape_of (0x00 ∷ 0xB0 ∷ 0x81 ∷ 0x00 ∷ []) ≡ Err Presence)
    -- group 1
    × (shape_of (0x00 ∷ 0xB0 ∷ 0x81 ∷ 0x00 ∷ 0x00 ∷ []) ≡ Ok (record { kind = (Read 1); chained = false; start = 4; end = 4 }))
    -- group 21, any P2
    × (shape_of (0x00 ∷ 0xB0 ∷ 0x95 ∷ 0xFF ∷ 0x00 ∷ []) ≡ Ok (record { kind = (Read 21); chained = false; start = 4; end = 4 }))
    -- group 22
    × (shape_of (0x00 ∷ 0xB0 ∷ 0x96 ∷ 0x00 ∷ 0x00 ∷ []) ≡ Err Parameters)
    -- P1-P2 of another INS
    × (shape_of (0x00 ∷ 0x22 ∷ 0x10 ∷ 0x03 ∷ []) ≡ Err Parameters)
    -- an extended Lc of zero
    × (shape_of (0x00 ∷ 0x2A ∷ 0x00 ∷ 0xBE ∷ 0x00 ∷ 0x00 ∷ 0x00 ∷ 0x01 ∷ []) ≡ Err FormFault)
    -- three bytes
    × (shape_of (0x00 ∷ 0xA4 ∷ 0x00 ∷ []) ≡ Err FormFault)
    -- a command of as many bytes as may be
    × (shape_of (verify (command_limit - 7)) ≡ Ok (record { kind = VerifyCertificate; chained = false; start = 7; end = command_limit }))
    -- one more
    × (shape_of (verify (command_limit - 6)) ≡ Err FormFault)
unfolding shape_of form_of after_header after_four extended_of data_then after_short after_long headed_of kind_of
examples = (refl, refl, refl, refl, refl, refl, refl, refl, refl, refl, refl, refl, refl, refl, refl, refl, refl, refl, refl, refl)
