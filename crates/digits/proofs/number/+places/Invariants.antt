-- The digits that are left to count become fewer with each call.
use Rattle.digits.proofs.number.+places.Given as goal

abbrev pub decreases-places : goal.decreases-places
decreases-places l = l.most
