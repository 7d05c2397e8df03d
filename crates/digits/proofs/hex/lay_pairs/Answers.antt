-- A byte's two digits more are written, and past the last byte nothing is left.
use Rattle.std.proofs.Common.{arith, ◌∙◌, length-set}
use Rattle.digits.proofs.Pairs.{pairs-next, pairs-whole}
use Rattle.digits.proofs.hex.lay_pairs.Goals as goal

pub loop-i-preserved : goal.loop-i-preserved
loop-i-preserved c =
    let l = c.loop-i in (
      simp length-set l.invariant.0,
      l.invariant.1 ∙ pairs-next l.i _ _ c.args.s.now l.out (omega arith) (omega arith) c.glyph.ensures c.glyph-in-loop-i.ensures,
    )

pub returns : goal.returns
returns c = let l = c.loop-i in pairs-whole l.i c.args.s.now l.out _ (omega arith) (omega arith) l.invariant.1
