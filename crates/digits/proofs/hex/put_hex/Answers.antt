-- No bytes are a dash; the digits of others have room, and are all written, or they have none.
use Rattle.std.proofs.Common.{arith, refl}
use borrow.Author.Rules.{rules}
use Rattle.buffers.proofs.Sheets.{laid-as, laid-copied}
use Rattle.digits.specs.Hex.{pairs}
use Rattle.digits.proofs.Pairs.{pairs-long, hex-none, hex-some, hex-no-room}
use Rattle.digits.proofs.hex.put_hex.Goals as goal

pub returns-then-is_empty : goal.returns-then-is_empty
returns-then-is_empty c = laid-as _ _ _ _ (hex-none c.args.s.now (search rules)) c.put.ensures

pub returns-then-has_room : goal.returns-then-has_room
returns-then-has_room c =
    let n = pairs-long c.args.s.now in
    laid-as _ _ _ _ (hex-some c.args.s.now (search rules))
    (laid-copied (pairs c.args.s.now) _ _ _ _ _ refl (rw n at c.has_room.ensures) c.if-has_room.true c.lay_pairs.ensures (omega arith) (omega arith) refl)

pub returns-else-has_room : goal.returns-else-has_room
returns-else-has_room c = hex-no-room _ _ _ (search rules) c.has_room.ensures c.if-has_room.false
