-- Byte strings. Assumes nothing: these are definitions.
use Rattle.std.specs.Prelude.{ℕ, ◌+◌, ◌*◌, List, [], ◌∷◌, ◌++◌, Bool, true, false, ◌&&◌, ◌||◌, length, take, drop, replicate, leb, eqb}
use Rattle.strings.specs.declared.Class.{Class}
use Rattle.strings.specs.declared.Class.TheVariants.{Letter, Latin, Serial, Digit, Numeral}

-- the same bytes, and as many
abbrev pub eqbs : List ℕ → List ℕ → Bool
eqbs [] [] = true
eqbs [] (y ∷ ys) = false
eqbs (x ∷ xs) [] = false
eqbs (x ∷ xs) (y ∷ ys) = eqb x y && eqbs xs ys

-- the longest string that a run step or the chip key exchanges: "1 to 140 bytes"
abbrev pub longest : ℕ
longest = 140

-- a to e, both included
abbrev pub among : (a e b : ℕ) → Bool
among a e b = leb a b && leb b e

-- letters A-Z; bytes 20..7E or A0..FF; 0-9 or A-Z; 0..9; 30..39
abbrev pub belongs_to : Class → ℕ → Bool
belongs_to Letter b = among 0x41 0x5A b
belongs_to Latin b = among 0x20 0x7E b || among 0xA0 0xFF b
belongs_to Serial b = among 0x30 0x39 b || among 0x41 0x5A b
belongs_to Digit b = among 0 9 b
belongs_to Numeral b = among 0x30 0x39 b

abbrev pub all_of : Class → List ℕ → Bool
all_of class [] = true
all_of class (b ∷ s) = belongs_to class b && all_of class s

-- the number whose digits in a base are n's and then these
abbrev pub number : (base n : ℕ) → List ℕ → ℕ
number base n [] = n
number base n (b ∷ s) = number base (n * base + b) s

-- a string written from an array's start, as far as there is room; the rest stays
unfoldable pub copied_into : (array c : List ℕ) → List ℕ
copied_into array c = take (length array) c ++ drop (length c) array

-- a string in an array of so many places: cut there, and zeros after it
abbrev pub padded : ℕ → List ℕ → List ℕ
padded places c = copied_into (replicate places 0) c
