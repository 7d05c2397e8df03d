-- `reply` meets its contract: nothing where it is held back, else the data and then the word.
use borrow.Author.Rules.{rules}
use Rattle.reply.proofs.Data.{no-room, too-long, held-back, reply-is, nothing-written, whole-reply}
use Rattle.reply.proofs.reply.Goals.{then-out-lt-ROOM-via-then-out-lt-ROOM, then-out-lt-ROOM-via-else-out-lt-ROOM+then-first-gt-STRING, then-out-lt-ROOM-via-else-out-lt-ROOM+else-first-gt-STRING+then-is_silent}
use Rattle.reply.proofs.reply.Goals as goal

pub returns-then-out-lt-ROOM : goal.returns-then-out-lt-ROOM
returns-then-out-lt-ROOM c = nothing-written _ _
    (elim c.then-out-lt-ROOM.branch [
      | then-out-lt-ROOM-via-then-out-lt-ROOM w ↦ no-room _ _ _ _ _ w.if-out-lt-ROOM.true
      | then-out-lt-ROOM-via-else-out-lt-ROOM+then-first-gt-STRING w ↦ too-long _ _ _ _ _ w.if-out-lt-ROOM.false w.if-first-gt-STRING.true
      | then-out-lt-ROOM-via-else-out-lt-ROOM+else-first-gt-STRING+then-is_silent w ↦
          held-back _ _ _ _ _ w.if-out-lt-ROOM.false w.if-first-gt-STRING.false (search rules)
    ])

pub returns : goal.returns
returns c =
    whole-reply c.args.word _ _ _ _ _ _ _ _ (reply-is _ _ _ _ _ c.if-out-lt-ROOM.false c.if-first-gt-STRING.false (search rules))
    (search rules) (search rules) c.if-out-lt-ROOM.false c.put_data.ensures c.put.ensures (search rules) (search rules)
