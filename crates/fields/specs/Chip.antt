-- Choose chip key: "80 (04 00 7F 00 07 02 02 03 02 02), optional 84 of one byte." Assumes nothing: these are definitions.
use Rattle.std.specs.Prelude.{ℕ, List, [], ◌∷◌, false, cond, length, eqb, Option, Some, None}
use Rattle.objects.specs.Chain.{taken}
use Rattle.taking.specs.Taking.{reading, is_all, holds}
use Rattle.fields.specs.declared.asked.Ask.{Ask}
use Rattle.fields.specs.declared.asked.Ask.TheVariants.{ChooseChipKey}

-- 04 00 7F 00 07 02 02 03 02 02
abbrev pub chip : List ℕ
chip = 0x04 ∷ 0x00 ∷ 0x7F ∷ 0x00 ∷ 0x07 ∷ 0x02 ∷ 0x02 ∷ 0x03 ∷ 0x02 ∷ 0x02 ∷ []

-- optional 84 of one byte
unfoldable pub reference_in : List ℕ → Option Ask
reference_in s = cond (eqb (length s) 0) (Some ChooseChipKey) (cond (holds 0x84 1 1 s) (Some ChooseChipKey) None)

-- 80
unfoldable pub chip_of : List ℕ → Option Ask
chip_of s = reading None s (taken None 0x80 false (is_all chip) s (λ c e rest n. reference_in rest))
