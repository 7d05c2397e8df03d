-- `rights::Rights::common` meets its contract.
use Rattle.rights.proofs.Bits.{common-is}
use Rattle.rights.proofs.Rights.common.Goals as goal

pub returns : goal.returns
returns c = search common-is
