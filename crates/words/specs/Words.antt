-- The parts of a string, and the words of a line. Assumes nothing: these are definitions.
use Rattle.std.specs.Prelude.{ℕ, zero, suc, ◌+◌, cond, List, [], ◌∷◌, eqb, take, drop}
use Rattle.text.specs.Find.{before}

-- part k, counted from 0, of a string that is parted by b; empty where there is none
abbrev pub part_of : (b k : ℕ) → List ℕ → List ℕ
part_of b zero s = take (before b s) s
part_of b (suc k) s = part_of b k (drop (suc (before b s)) s)

abbrev pub space : ℕ
space = 0x20

-- words are separated by single spaces
abbrev pub word_at : ℕ → List ℕ → List ℕ
word_at k line = part_of space k line

-- how often a byte stands in a string
abbrev pub occurrences : ℕ → List ℕ → ℕ
occurrences b [] = 0
occurrences b (c ∷ s) = cond (eqb c b) 1 0 + occurrences b s
