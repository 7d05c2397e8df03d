-- `taking::last` meets its contract.
use Rattle.std.proofs.Common.{rules}
use Rattle.taking.specs.Taking.{last_of}
use Rattle.taking.proofs.last.Goals as goal

pub returns : goal.returns
unfolding last_of
returns c = search rules
