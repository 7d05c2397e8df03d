-- Numbers by their digits. Assumes nothing: these are definitions.
use Rattle.std.specs.Prelude.{ℕ, zero, suc, ◌+◌, ◌-◌, ◌*◌, ◌/◌, ◌%◌, Bool, true, cond, ◌&&◌, ◌||◌, List, [], ◌∷◌, ◌++◌, eqb, leb, ltb, length, Option, Some, None}
use Rattle.strings.specs.Bytes.{among}
use Rattle.digits.specs.declared.number.Radix.{Radix}
use Rattle.digits.specs.declared.number.Radix.TheVariants.{Ten, Sixteen}

abbrev pub base_of : Radix → ℕ
base_of Ten = 10
base_of Sixteen = 16

-- the character of a digit: 0-9, then A-F
unfoldable pub glyph : ℕ → ℕ
glyph d = cond (ltb d 10) (0x30 + d) (0x37 + d)

-- what a character is worth: 0-9, A-F or a-f; 0 if it is no digit
unfoldable pub worth : ℕ → ℕ
worth c = cond (among 0x30 0x39 c) (c - 0x30) (cond (among 0x41 0x46 c) (c - 0x37) (cond (among 0x61 0x66 c) (c - 0x57) 0))

-- whether it is a digit of a base
unfoldable pub is_digit : ℕ → ℕ → Bool
is_digit base c = (among 0x30 0x39 c || among 0x41 0x46 c || among 0x61 0x66 c) && ltb (worth c) base

-- ---- printed

-- the last k digits of n, highest first
abbrev pub digits : (base k n : ℕ) → List ℕ
digits base zero n = []
digits base (suc k) n = digits base k (n / base) ++ (glyph (n % base) ∷ [])

-- how many digits n takes in base ten, as far as they are at most one more than `most`
abbrev pub places : (most n : ℕ) → ℕ
places zero n = 1
places (suc most) n = cond (ltb n 10) 1 (suc (places most (n / 10)))

-- a number in decimal, with no zeros before it; one of 64 bits takes at most 20 digits
unfoldable pub decimal : ℕ → List ℕ
decimal n = digits 10 (places 19 n) n

-- ---- read

abbrev pub all_digits : ℕ → List ℕ → Bool
all_digits base [] = true
all_digits base (c ∷ s) = is_digit base c && all_digits base s

-- the number whose digits are n's and then these
abbrev pub value : (base n : ℕ) → List ℕ → ℕ
value base n [] = n
value base n (c ∷ s) = value base (n * base + worth c) s

-- the largest number that 64 bits hold
abbrev pub largest : ℕ
largest = 0xFFFFFFFFFFFFFFFF

-- a number, if it is no larger
unfoldable pub grown : ℕ → Option ℕ
grown n = cond (leb n largest) (Some n) None

-- n's digits and then these, where they are digits
unfoldable pub following : (base n : ℕ) → List ℕ → Option ℕ
following base n s = cond (all_digits base s) (grown (value base n s)) None

-- a word of one digit or more
unfoldable pub number_of : ℕ → List ℕ → Option ℕ
number_of base s = cond (eqb (length s) 0) None (following base 0 s)
