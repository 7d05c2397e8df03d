-- A place more of the eight is compared, and past the eighth none is left.
use Rattle.std.proofs.Common.{arith}
use Rattle.names.proofs.Compared.{place-on, places-done}
use Rattle.names.proofs.eight_alike.Goals as goal

pub loop-i-preserved : goal.loop-i-preserved
loop-i-preserved c =
    (omega arith, place-on 8 c.args.at c.args.p.now c.args.q.now (omega arith) (omega arith) c.loop-i.equal c.loop-i.i c.loop-i.invariant.1 (omega arith))

pub returns : goal.returns
returns c = places-done 8 c.args.at c.args.p.now c.args.q.now (omega arith) (omega arith) c.loop-i.equal c.loop-i.i c.loop-i.invariant.1 (omega arith)
