-- `lines::personalise::personalise` meets its contract.
use Rattle.desk_token.specs.Moves.{unmade}
use Rattle.desk_token.proofs.Moving.{made_as}
use Rattle.lines.proofs.personalise.personalise.Goals as goal

pub returns-in_default : goal.returns-in_default
returns-in_default c = search unmade

pub returns-in-Some-previous : goal.returns-in-Some-previous
returns-in-Some-previous c = search made_as depth 6

pub returns-in-None : goal.returns-in-None
returns-in-None c = search made_as depth 6
