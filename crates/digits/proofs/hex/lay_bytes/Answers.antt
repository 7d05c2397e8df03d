-- A byte more is written, and past the last pair nothing is left.
use Rattle.std.proofs.Common.{arith, sym, ◌∙◌, length-set}
use Rattle.buffers.proofs.Laying.{over_none}
use Rattle.digits.proofs.Pairs.{read-pair, bytes_on, bytes-end}
use Rattle.digits.proofs.hex.lay_bytes.Goals as goal

pub loop-i-preserved : goal.loop-i-preserved
loop-i-preserved c =
    let l = c.loop-i in (
      simp length-set l.invariant.0,
      l.invariant.1
          ∙ bytes_on l.i _ c.args.s.now l.out (omega arith) (omega arith) (read-pair _ _ _ _ c.worth.ensures.1 c.worth-in-loop-i.ensures.1),
    )

pub returns : goal.returns
returns c = let l = c.loop-i in sym (l.invariant.1 ∙ rw (bytes-end l.i c.args.s.now (omega arith)) (sym (over_none _ _)))
