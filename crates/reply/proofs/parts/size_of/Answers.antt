-- A size is the objects' size, and fits.
use borrow.Author.Rules.{rules}
use Rattle.reply.proofs.Nest.{part-fits, size-fits, size-more}
use Rattle.reply.proofs.parts.size_of.Goals as goal

pub overflow_cast-part : goal.overflow_cast-part
overflow_cast-part c = part-fits _ _ _ (search rules) c.requires

pub overflow_add-size : goal.overflow_add-size
overflow_add-size c = size-fits _ _ _ (search rules) c.requires _ _ c.loop-part.invariant c.object_size-size.ensures

pub loop-part-preserved : goal.loop-part-preserved
loop-part-preserved c = size-more _ _ _ (search rules) c.requires _ _ c.loop-part.invariant c.object_size-size.ensures
