-- The header that was read is the definition's, and its tag and its kind are tested.
use Rattle.std.proofs.Common.{rules}
use Rattle.objects.specs.Objects.{found_in}
use Rattle.objects.proofs.find.Goals as goal

pub returns-in_err-t : goal.returns-in_err-t
unfolding found_in
returns-in_err-t c = search rules

pub returns-then-n-nests : goal.returns-then-n-nests
unfolding found_in
returns-then-n-nests c = search rules

pub returns-else-t-tag : goal.returns-else-t-tag
unfolding found_in
returns-else-t-tag c = search rules
