-- Where a byte stands. Assumes nothing: these are definitions.
use Rattle.std.specs.Prelude.{ℕ, suc, ◌+◌, cond, List, [], ◌∷◌, eqb, leb, length, drop}

-- how many bytes stand before the first b
abbrev pub before : ℕ → List ℕ → ℕ
before b [] = 0
before b (c ∷ s) = cond (eqb c b) 0 (suc (before b s))

-- the place of the first b from a place on, or the end
unfoldable pub place_of : (s : List ℕ) (from b : ℕ) → ℕ
place_of s from b = cond (leb from (length s)) (from + before b (drop from s)) (length s)
