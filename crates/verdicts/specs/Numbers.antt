-- The number of a verdict, and the way back. Assumes nothing: these are definitions.
use Rattle.std.specs.Prelude.{ℕ, List, [], ◌∷◌, Option, Some, None}
use Rattle.status.specs.Numbered.{value_at}
use Rattle.verdicts.specs.declared.Verdict.{Verdict}
use Rattle.verdicts.specs.declared.Verdict.TheVariants.{Passed, Failed, Missing}

-- "a verdict, passed, failed or none"; none is 0
abbrev pub verdict_number : Verdict → ℕ
verdict_number Missing = 0
verdict_number (Passed key) = 1
verdict_number Failed = 2

-- the key number of a verdict, 0 of those that carry none
abbrev pub key_in : Verdict → ℕ
key_in (Passed key) = key
key_in Failed = 0
key_in Missing = 0

-- the verdicts with this key number
abbrev pub verdicts : ℕ → List Verdict
verdicts key = Missing ∷ Passed key ∷ Failed ∷ []

-- a key number counts with passed only
unfoldable pub verdict_at : ℕ → ℕ → Option Verdict
verdict_at n key = value_at verdict_number Some (verdicts key) n None
