-- An object more is put, and at the end all are.
use borrow.Author.Rules.{rules}
use Rattle.reply.proofs.Nest.{put-more, put-all, all-room}
use Rattle.reply.proofs.parts.put_nest.Goals as goal

pub loop-part-preserved : goal.loop-part-preserved
loop-part-preserved c = put-more _ _ _ (search rules) c.requires.short _ _ _ _ (all-room _ c.args.sheet.now c.requires.fits) c.loop-part.invariant c.put_object.ensures

pub returns : goal.returns
returns c = put-all _ _ _ _ c.loop-part-test.false c.loop-part.invariant
