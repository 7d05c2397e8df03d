-- What is counted, and what is left to count, is the whole.
use Rattle.std.proofs.Common.{◌≡◌, ◌+◌, ◌≤◌, drop}
use Rattle.words.specs.Words.{occurrences}
use Rattle.words.proofs.count.Given as goal

abbrev pub invariant-loop-c : goal.invariant-loop-c
invariant-loop-c l = (l.n ≤ l.c-index) × (occurrences l.b l.s ≡ l.n + occurrences l.b (drop l.c-index l.s))
