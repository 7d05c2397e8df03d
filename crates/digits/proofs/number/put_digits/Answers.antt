-- The digits have room, and one more is written in each turn, or they have none.
use Rattle.std.proofs.Common.{arith, ◌∙◌, length-set}
use Rattle.buffers.proofs.Laying.{in-room}
use Rattle.buffers.proofs.Sheets.{laid-no-room}
use Rattle.digits.proofs.Digits.{digits_long, digits-back, digits-whole}
use Rattle.digits.proofs.number.put_digits.Goals as goal

pub loop-i-preserved : goal.loop-i-preserved
loop-i-preserved c =
    let l = c.loop-i in
    let room = in-room c.args.sheet.now.at _ _ _ c.has_room.ensures c.if-has_room.true in (
      l.invariant.0,
      l.invariant.1,
      simp length-set l.invariant.2,
      l.invariant.3 ∙ digits-back l.sheet.at c.base-base.result l.i l.rest _ l.sheet.out.now (omega arith) (omega arith) c.glyph.ensures,
    )

pub returns-after-loop-i : goal.returns-after-loop-i
returns-after-loop-i c =
    digits-whole _ _ _ _ c.loop-i.i _ _ _ (in-room c.args.sheet.now.at _ _ _ c.has_room.ensures c.if-has_room.true) c.base-base.ensures (omega arith) c.loop-i.invariant

pub returns-else-has_room : goal.returns-else-has_room
returns-else-has_room c = laid-no-room _ _ _ _ (digits_long _ _ _) c.has_room.ensures c.if-has_room.false
