-- `headers::put_header` meets its contract: the tag, then the length, or nothing.
use Rattle.buffers.proofs.Sheets.{laid-asked, laid-no-room}
use Rattle.headers.specs.Encode.{header}
use Rattle.headers.proofs.put_header.Goals as goal

pub returns-then-has_room : goal.returns-then-has_room
unfolding header
returns-then-has_room c = search laid-asked

pub returns-else-has_room : goal.returns-else-has_room
returns-else-has_room c = search laid-no-room
