-- `headers::put_object` meets its contract: the header, then the content, or nothing.
use Rattle.std.proofs.Common.{arith}
use borrow.Author.Rules.{rules}
use Rattle.headers.proofs.Pieces.{object-too-long, object-laid, object-no-room}
use Rattle.headers.proofs.put_object.Goals as goal

pub returns-in_default : goal.returns-in_default
returns-in_default c = object-too-long _ _ _ (omega (arith, c.in_default.ensures))

pub returns-then-has_room : goal.returns-then-has_room
returns-then-has_room c =
    object-laid _ _ _ _ _ _ (search rules) (omega arith) c.object_size.ensures c.has_room.ensures _ _ c.put_header.ensures c.put.ensures c.if-has_room.true

pub returns-else-has_room : goal.returns-else-has_room
returns-else-has_room c = object-no-room _ _ _ _ _ _ (search rules) (omega arith) c.object_size.ensures c.has_room.ensures c.if-has_room.false
