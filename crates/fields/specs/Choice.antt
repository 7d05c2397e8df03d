-- Choose password: "80 (04 00 7F 00 07 02 02 04 02 02), 83 with 01 MRZ, 02 CAN, 03 PIN or 04 PUK, optional 7F4C; with MRZ or PUK a
-- 7F4C is 6A80." Each `..Then` takes one object and hands the rest to the one that stands above it: read from `choice_of` upwards.
-- Assumes nothing: these are definitions.
use Rattle.std.specs.Prelude.{ℕ, List, [], ◌∷◌, true, false, cond, length, get_or, eqb, Option, Some, None}
use Rattle.objects.specs.Chain.{taken, any}
use Rattle.rights.specs.Rights.{granted}
use Rattle.rights.specs.declared.Rights.{Rights}
use Rattle.run.specs.declared.Choice.TheVariants.{Mrz, Can, CanFor, Pin, PinFor, Puk}
use Rattle.taking.specs.Taking.{reading, lastly, is_all, sized}
use Rattle.fields.specs.declared.asked.Ask.{Ask}
use Rattle.fields.specs.declared.asked.Ask.TheVariants.{Choose}

-- 04 00 7F 00 07 02 02 04 02 02
abbrev pub pace : List ℕ
pace = 0x04 ∷ 0x00 ∷ 0x7F ∷ 0x00 ∷ 0x07 ∷ 0x02 ∷ 0x02 ∷ 0x04 ∷ 0x02 ∷ 0x02 ∷ []

-- 01 MRZ, 02 CAN, 03 PIN or 04 PUK
abbrev pub chosen : ℕ → Option Ask
chosen p = cond (eqb p 0x01) (Some (Choose Mrz)) (cond (eqb p 0x02) (Some (Choose Can)) (cond (eqb p 0x03) (Some (Choose Pin)) (cond (eqb p 0x04) (Some (Choose Puk)) None)))

-- with MRZ or PUK a 7F4C is 6A80
abbrev pub chosen_for : ℕ → Rights → Option Ask
chosen_for p r = cond (eqb p 0x02) (Some (Choose (CanFor r))) (cond (eqb p 0x03) (Some (Choose (PinFor r))) None)

unfoldable pub chosen_by : ℕ → Option Rights → Option Ask
chosen_by p (Some r) = chosen_for p r
chosen_by p None = None

-- optional 7F4C
unfoldable pub rights_then : (p : ℕ) (s : List ℕ) → ℕ → Option Ask
rights_then p s = cond (eqb (length s) 0) (λ n. chosen p) (lastly None 0x7F4C true any s (λ c. chosen_by p (granted c)))

-- 83 with one byte
unfoldable pub password_then : List ℕ → ℕ → Option Ask
password_then s = taken None 0x83 false (sized 1 1) s (λ c e. rights_then (get_or c 0 0))

-- 80
unfoldable pub protocol_then : List ℕ → ℕ → Option Ask
protocol_then s = taken None 0x80 false (is_all pace) s (λ c e. password_then)

unfoldable pub choice_of : List ℕ → Option Ask
choice_of s = reading None s (protocol_then s)
