-- `Sheet::put` meets its contract: a piece that has room is copied whole, and of one that has none nothing is written.
use Rattle.std.proofs.Common.{arith, refl}
use borrow.Author.Rules.{rules}
use Rattle.buffers.proofs.Sheets.{laid-copied, laid-no-room}
use Rattle.buffers.proofs.Sheet.put.Goals as goal

pub returns-then-has_room : goal.returns-then-has_room
returns-then-has_room c = laid-copied _ _ _ _ _ _ refl c.has_room.ensures c.if-has_room.true (search rules) (omega arith) (omega arith) refl

pub returns-else-has_room : goal.returns-else-has_room
returns-else-has_room c = search (rules, laid-no-room) depth 6
