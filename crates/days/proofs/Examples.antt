-- Days that there are and days that there are not, computed by the definition. Assumes nothing.
use Rattle.std.specs.Prelude.{Some, None}
use Prim.Native.Nat.{ℕ}
use mathlib.Core.Bool.{true, false}
use mathlib.Core.Path.{◌≡◌, refl}
use mathlib.Core.List.{List, [], ◌∷◌, map}
use Rattle.days.specs.Days.{days_in, is_day, is_date, dated}

abbrev months : List ℕ
months = 1 ∷ 2 ∷ 3 ∷ 4 ∷ 5 ∷ 6 ∷ 7 ∷ 8 ∷ 9 ∷ 10 ∷ 11 ∷ 12 ∷ []

pub examples :
    -- the months of 2023 and of 2024
    (map (days_in 2023) months ≡ 31 ∷ 28 ∷ 31 ∷ 30 ∷ 31 ∷ 30 ∷ 31 ∷ 31 ∷ 30 ∷ 31 ∷ 30 ∷ 31 ∷ [])
    × (map (days_in 2024) months ≡ 31 ∷ 29 ∷ 31 ∷ 30 ∷ 31 ∷ 30 ∷ 31 ∷ 31 ∷ 30 ∷ 31 ∷ 30 ∷ 31 ∷ [])
    -- 29 February 2023 and 2024, written
    × (dated (2 ∷ 3 ∷ 0 ∷ 2 ∷ 2 ∷ 9 ∷ []) ≡ None)
    × (dated (2 ∷ 4 ∷ 0 ∷ 2 ∷ 2 ∷ 9 ∷ []) ≡ Some (record { 0 = 20240229 }))
    -- the first leap year and the last, and the years beside them
    × (is_day 20000229 ≡ true)
    × (is_day 20010229 ≡ false)
    × (is_day 20960229 ≡ true)
    × (is_day 20970229 ≡ false)
    -- 30 February, in a leap year too
    × (is_day 20230230 ≡ false)
    × (is_day 20240230 ≡ false)
    -- 30 and 31 April
    × (is_day 20230430 ≡ true)
    × (is_day 20230431 ≡ false)
    -- 31 and 32 December
    × (is_day 20231231 ≡ true)
    × (is_day 20231232 ≡ false)
    -- no day 0, no month 0, no month 13
    × (is_day 20230100 ≡ false)
    × (is_day 20230001 ≡ false)
    × (is_day 20231301 ≡ false)
unfolding dated is_date is_day
examples = (refl, refl, refl, refl, refl, refl, refl, refl, refl, refl, refl, refl, refl, refl, refl, refl, refl)
