-- A value by its number. Assumes nothing: these are definitions.
use Rattle.std.specs.Prelude.{ℕ, cond, List, [], ◌∷◌, eqb}

-- the first value of a list that has this number, or another answer
abbrev pub value_at : {X A : Type 0} → (X → ℕ) → (X → A) → List X → ℕ → A → A
value_at number answer [] n other = other
value_at number answer (v ∷ vs) n other = cond (eqb n (number v)) (answer v) (value_at number answer vs n other)
