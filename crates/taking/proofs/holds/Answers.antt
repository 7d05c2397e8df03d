-- `taking::holds` meets its contract.
use Rattle.std.proofs.Common.{rules}
use Rattle.taking.specs.Taking.{holds}
use Rattle.taking.proofs.holds.Goals as goal

pub returns : goal.returns
unfolding holds
returns c = search rules
