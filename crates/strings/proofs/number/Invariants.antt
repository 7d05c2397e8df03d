-- Before each turn what is left of the digits decides.
use Rattle.std.proofs.Common.{◌≡◌, ◌^◌, ◌%◌, drop}
use Rattle.strings.specs.Bytes.{number}
use Rattle.strings.proofs.number.Given as goal

abbrev pub invariant-loop-b : goal.invariant-loop-b
invariant-loop-b l = number l.base l.n (drop l.b-index l.s) % 2 ^ 64 ≡ number l.base l.first l.s % 2 ^ 64
