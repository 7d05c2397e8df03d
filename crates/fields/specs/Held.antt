-- "7C holding nothing, 81, 83, 85 (content 1 to 140 bytes, 85: 8)"; of the chip key "7C holding 80 (1 to 140)". Assumes nothing:
-- these are definitions.
use Rattle.std.specs.Prelude.{ℕ, List, true, cond, length, eqb, Option, Some, None}
use Rattle.strings.specs.Bytes.{longest}
use Rattle.run.specs.declared.Step.TheVariants.{Nonce, Map, Agree, Confirm}
use Rattle.taking.specs.Taking.{reading, lastly, holds}
use Rattle.objects.specs.Chain.{any}
use Rattle.fields.specs.declared.asked.Content.TheVariants.{Step, Chip}
use Rattle.fields.specs.declared.asked.Ask.{Ask}
use Rattle.fields.specs.declared.asked.Ask.TheVariants.{General}

-- nothing, 81, 83, 85, or 80
unfoldable pub held_in : List ℕ → Option Ask
held_in c =
    cond (eqb (length c) 0) (Some (General (Step Nonce)))
    (cond (holds 0x81 1 longest c) (Some (General (Step Map)))
    (cond (holds 0x83 1 longest c) (Some (General (Step Agree)))
    (cond (holds 0x85 8 8 c) (Some (General (Step Confirm)))
    (cond (holds 0x80 1 longest c) (Some (General Chip)) None))))

-- 7C
unfoldable pub general_of : List ℕ → Option Ask
general_of s = reading None s (lastly None 0x7C true any s held_in)
