-- `lines::send::step_of` meets its contract.
use Rattle.desk_token.specs.Moves.{unstepped}
use Rattle.desk_token.proofs.Moving.{stepped-as}
use Rattle.lines.proofs.send.step_of.Goals as goal

pub returns-in_default : goal.returns-in_default
returns-in_default c = search unstepped

pub returns : goal.returns
returns c = search stepped-as depth 6
