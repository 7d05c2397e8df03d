-- A word of no digits is no number, and neither is one with a byte that is no digit, or one that is too large.
use Rattle.std.proofs.Common.{not, arith, ap, ◌∙◌}
use Rattle.digits.proofs.Numbers.{read_none, end_read, off-read, over-read, on_read, grown-most}
use Rattle.digits.proofs.number.read_number.Goals as goal

pub returns-then-is_empty : goal.returns-then-is_empty
returns-then-is_empty c = read_none _ _ (grind (arith, c.is_empty.ensures))

pub returns-then-not-is_digit : goal.returns-then-not-is_digit
returns-then-not-is_digit c =
    off-read c.args.radix _ _ _ _ c.base-base.ensures (λ e. grind (arith, e, c.is_empty.ensures)) c.loop-c.invariant.2
    _ (omega arith) c.is_digit.ensures (ap not c.if-not-is_digit.true)

pub returns-in_err-n : goal.returns-in_err-n
returns-in_err-n c =
    let l = c.loop-c in
    c.from_residual.ensures
    ∙ over-read c.args.radix _ _ _ _ c.base-base.ensures (λ e. grind (arith, e, c.is_empty.ensures)) l.invariant.2 _ (omega arith) c.is_digit.ensures
    _ _ l.invariant.0 (ap not c.if-not-is_digit.false) c.worth.ensures.1 c.grown.ensures c.in_err-n.was

pub loop-c-preserved : goal.loop-c-preserved
loop-c-preserved c =
    let l = c.loop-c in (
      l.invariant.0,
      grown-most _ _ _ c.grown.ensures c.in_ok-n.was,
      on_read c.args.radix _ _ _ _ c.base-base.ensures (λ e. grind (arith, e, c.is_empty.ensures)) l.invariant.2 _ (omega arith) c.is_digit.ensures
          _ _ _ (ap not c.if-not-is_digit.false) c.worth.ensures.1 c.grown.ensures c.in_ok-n.was,
    )

pub returns : goal.returns
returns c = end_read c.args.radix _ _ _ _ c.base-base.ensures (λ e. grind (arith, e, c.is_empty.ensures)) c.loop-c.invariant.2 (omega arith) c.loop-c.invariant.1
