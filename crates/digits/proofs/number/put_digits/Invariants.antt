-- Before each turn what is left to write, written over what stands there, is the whole.
use Rattle.std.proofs.Common.{◌≡◌, length}
use Rattle.buffers.specs.Lay.{over}
use Rattle.digits.specs.Digits.{digits}
use Rattle.digits.proofs.number.put_digits.Given as goal

abbrev pub invariant-loop-i : goal.invariant-loop-i
invariant-loop-i l =
    (l.sheet.at ≡ l.fn.sheet.at) × (l.sheet.out.ghost_name ≡ l.fn.sheet.out.ghost_name) × (length l.sheet.out.now ≡ length l.fn.sheet.out.now)
    × (over l.sheet.at (digits l.base l.width l.n) l.fn.sheet.out.now ≡ over l.sheet.at (digits l.base l.i l.rest) l.sheet.out.now)
