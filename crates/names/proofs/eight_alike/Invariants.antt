-- Before each turn: what was found so far, and what is left to compare.
use Rattle.std.proofs.Common.{◌≡◌, ◌≤◌, ◌&&◌, take, drop}
use Rattle.strings.specs.Bytes.{eqbs}
use Rattle.names.proofs.eight_alike.Given as goal

abbrev pub invariant-loop-i : goal.invariant-loop-i
invariant-loop-i l =
    (l.i ≤ 8) × (l.equal && eqbs (drop l.i (take 8 (drop l.at l.p))) (drop l.i (take 8 (drop l.at l.q))) ≡ eqbs (take 8 (drop l.at l.p)) (take 8 (drop l.at l.q)))
