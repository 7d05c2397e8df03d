-- A digit more, cut to 64 bits.
use Rattle.std.proofs.Common.{ℕ, ◌+◌, ◌*◌, ◌^◌, ◌%◌, ◌∙◌, sym, ap, arith, List, drop, get_or}
use Rattle.std.proofs.Math.Nat.{mod-add-mod}
use Rattle.std.proofs.lemmas.List.{at_drop_more}
use Rattle.strings.specs.Bytes.{number}
use Rattle.strings.proofs.Numbers.{number-cut}
use Rattle.strings.proofs.number.Goals as goal

pub loop-b-preserved : goal.loop-b-preserved
loop-b-preserved c =
    let m : ℕ = 2 ^ 64 in
    let i = c.loop-b.b-index in
    let n = c.loop-b.n * c.args.base in
    let b = get_or c.args.s.now i 0 in
    let s = drop (i + 1) c.args.s.now in
    ap (λ (x : ℕ). number c.args.base x s % m) (mod-add-mod n m b)
    ∙ number-cut m c.args.base (n + b) s
    ∙ sym (at_drop_more (λ (x : List ℕ). number c.args.base c.loop-b.n x % m) c.args.s.now i 0 (omega arith))
    ∙ c.loop-b.invariant
