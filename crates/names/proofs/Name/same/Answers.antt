-- `names::Name::same` meets its contract.
use Rattle.names.proofs.Compared.{compared, never_other}
use Rattle.names.proofs.Name.same.Goals as goal

pub returns-then-m-n : goal.returns-then-m-n
returns-then-m-n c = search (compared, never_other)

pub returns-then-m-lt8 : goal.returns-then-m-lt8
returns-then-m-lt8 c = search (compared, never_other)

pub returns : goal.returns
returns c = search (compared, never_other)
