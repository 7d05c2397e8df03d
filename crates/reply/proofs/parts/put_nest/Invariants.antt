-- Before each turn the header and the objects so far are put.
use Rattle.std.proofs.Common.{◌++◌, length, take}
use Rattle.buffers.specs.Laid.{Laid}
use Rattle.headers.specs.Encode.{header}
use Rattle.reply.specs.Parts.{parts_bytes}
use Rattle.reply.proofs.parts.put_nest.Given as goal

abbrev pub invariant-loop-part : goal.invariant-loop-part
invariant-loop-part l = Laid (header 0x7C (length (parts_bytes l.parts)) ++ parts_bytes (take l.part-index l.parts)) l.fn.sheet l.sheet
