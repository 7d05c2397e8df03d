-- `rights::Rights::reads` meets its contract.
use Rattle.rights.proofs.Bits.{group-test}
use Rattle.rights.proofs.Rights.reads.Goals as goal

pub returns : goal.returns
returns c = search group-test
