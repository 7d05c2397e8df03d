-- Before each turn what is left of the word decides.
use Rattle.std.proofs.Common.{◌≡◌, ◌<◌, ◌≤◌, drop}
use Rattle.digits.specs.Digits.{largest, following}
use Rattle.digits.proofs.number.read_number.Given as goal

abbrev pub invariant-loop-c : goal.invariant-loop-c
invariant-loop-c l = (0 < l.base) × (l.n ≤ largest) × (following l.base 0 l.s ≡ following l.base l.n (drop l.c-index l.s))
