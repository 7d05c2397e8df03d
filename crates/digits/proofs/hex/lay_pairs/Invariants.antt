-- Before each turn what is left to write, written over what stands there, is the whole.
use Rattle.std.proofs.Common.{◌≡◌, ◌*◌, length, drop}
use Rattle.buffers.specs.Lay.{over}
use Rattle.digits.specs.Hex.{pairs}
use Rattle.digits.proofs.hex.lay_pairs.Given as goal

abbrev pub invariant-loop-i : goal.invariant-loop-i
invariant-loop-i l = (length l.out ≡ length l.fn.out) × (over 0 (pairs l.s) l.fn.out ≡ over (2 * l.i) (pairs (drop l.i l.s)) l.out)
