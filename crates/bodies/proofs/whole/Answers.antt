-- `bodies::whole` meets its contract: the count is within 64, or not.
use Rattle.std.proofs.Common.{refl}
use Rattle.bodies.proofs.Links.{over, whole_is, err-unread}
use Rattle.bodies.proofs.whole.Goals as goal

pub returns-then-count-gt-ALLOWANCE : goal.returns-then-count-gt-ALLOWANCE
returns-then-count-gt-ALLOWANCE c = over _ _ _ _ c.if-count-gt-ALLOWANCE.true (err-unread _ refl)

pub returns : goal.returns
returns c = whole_is _ _ _ _ _ _ _ _ c.if-count-gt-ALLOWANCE.false
