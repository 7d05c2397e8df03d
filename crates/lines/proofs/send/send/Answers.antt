-- `lines::send::send` meets its contract.
use Rattle.desk_token.specs.Moves.{unstepped}
use Rattle.lines.proofs.send.send.Goals as goal

pub returns-in_default : goal.returns-in_default
returns-in_default c = search unstepped
