-- `bodies::signed` meets its contract: the object found is tested.
use Rattle.bodies.proofs.Links.{signs}
use Rattle.bodies.proofs.signed.Goals as goal

pub overflow_sub-end : goal.overflow_sub-end
overflow_sub-end c = search signs
