-- The place is as many bytes on as stand before the byte, and within the string.
use Rattle.std.proofs.Common.{arith}
use Rattle.text.proofs.Finding.{found, place_in}
use Rattle.text.proofs.find.Goals as goal

pub overflow_add-result : goal.overflow_add-result
overflow_add-result c = let e = found _ c.args.from c.args.b _ _ c.min-start.ensures c.before-2.ensures in omega (arith, place_in _ _ _ _ e)

pub returns : goal.returns
returns c = found _ _ _ _ _ c.min-start.ensures c.before-2.ensures
