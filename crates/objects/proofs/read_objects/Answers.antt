-- A reading is the list at depth 1.
use Rattle.objects.specs.Objects.{objects_in}
use Rattle.objects.proofs.read_objects.Goals as goal

pub returns : goal.returns
unfolding objects_in
returns c = c.read_list.ensures
