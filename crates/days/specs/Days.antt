-- "Dates: six bytes 0..9, YYMMDD, 2000 to 2099, month 01..12", and by W-203: "A date is now valid only if that day exists, with leap
-- years from 2000 to 2096 every fourth year." Assumes nothing: these are definitions.
use Rattle.std.specs.Prelude.{ℕ, ◌/◌, ◌%◌, List, Bool, cond, ◌&&◌, ◌||◌, length, eqb, ltb, Option, Some, None}
use Rattle.strings.specs.Bytes.{among, all_of, number}
use Rattle.strings.specs.declared.Class.TheVariants.{Digit}
use Rattle.days.specs.declared.Day.{Day}

-- "leap years .. every fourth year", 2000 among them
abbrev pub is_leap : (year : ℕ) → Bool
is_leap y = eqb (y % 4) 0

-- February has 28 days, in a leap year 29; April, June, September and November have 30; the other months 31
abbrev pub days_in : (year month : ℕ) → ℕ
days_in y m = cond (eqb m 2) (cond (is_leap y) 29 28) (cond (eqb m 4 || eqb m 6 || eqb m 9 || eqb m 11) 30 31)

-- which days there are: said here alone
abbrev pub day_exists : (year month day : ℕ) → Bool
day_exists y m d = among 2000 2099 y && among 1 12 m && among 1 (days_in y m) d

-- a day is the number YYYYMMDD
unfoldable pub is_day : ℕ → Bool
is_day n = day_exists (n / 10000) (n / 100 % 100) (n % 100)

unfoldable pub day_fits : Day → Bool
day_fits d = is_day d.0

-- the number that YYMMDD writes, 20 before it
abbrev pub day_of : List ℕ → ℕ
day_of c = number 10 20 c

-- six bytes YYMMDD that write a day
unfoldable pub is_date : List ℕ → Bool
is_date c = eqb (length c) 6 && (all_of Digit c && is_day (day_of c))

unfoldable pub dated : List ℕ → Option Day
dated c = cond (is_date c) (Some (record { 0 = day_of c })) None

unfoldable pub before : Day → Day → Bool
before a b = ltb a.0 b.0

-- the later of two days
unfoldable pub later : Day → Day → Day
later a b = cond (ltb a.0 b.0) b a
