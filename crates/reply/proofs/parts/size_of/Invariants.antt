-- Before each turn the size is that of the objects so far.
use Rattle.std.proofs.Common.{◌≡◌, length, take}
use Rattle.reply.specs.Parts.{parts_bytes}
use Rattle.reply.proofs.parts.size_of.Given as goal

abbrev pub invariant-loop-part : goal.invariant-loop-part
invariant-loop-part l = l.size ≡ length (parts_bytes (take l.part-index l.parts))
