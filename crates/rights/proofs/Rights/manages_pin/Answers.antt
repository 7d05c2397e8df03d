-- The mask is that bit's.
use Rattle.rights.proofs.Bits.{mask-test}
use Rattle.rights.proofs.Rights.manages_pin.Goals as goal

pub returns : goal.returns
returns c = mask-test c.args.self.0 5
