-- What a line does with what lies on the desk. Assumes nothing: these are definitions.
use Rattle.std.specs.Prelude.{ℕ, ◌≡◌, cond, List, eqb}
use Rattle.desk_token.specs.declared.Desk.{Desk}
use Rattle.desk_token.specs.Moves.{reset_desk, Made, Stepped}
use Rattle.words.specs.Words.{space, occurrences}
use Rattle.words.specs.declared.Act.{Act}
use Rattle.words.specs.declared.Act.TheVariants.{Personalises, Sends, Resets, Tells}

-- a reset is one word and no more
abbrev pub reset_by : Desk → List ℕ → Desk
reset_by d line = cond (eqb (occurrences space line) 0) (reset_desk d) d

abbrev pub Turned : (d : Desk) (line : List ℕ) (e : Desk) → Act → Type 0
-- ok, or 6A80 where the token refuses it, and then the token that was there stays
Turned d line e Personalises = Made d e
Turned d line e Resets = e ≡ reset_by d line
Turned d line e Sends = Stepped d e
-- changes nothing
Turned d line e Tells = e ≡ d
