-- The number of a verdict and the way back agree. Assumes nothing.
use Rattle.std.specs.Prelude.{Some, None}
use Prim.Native.Nat.{ℕ}
use mathlib.Core.Path.{◌≡◌, refl}
use Rattle.status.proofs.Numbered.{value-is}
use Rattle.verdicts.specs.declared.Verdict.{Verdict}
use Rattle.verdicts.specs.declared.Verdict.TheVariants.{Passed, Failed, Missing}
use Rattle.verdicts.specs.Numbers.{verdict_number, key_in, verdicts, verdict_at}

-- ---- the numbers of a verdict are read as that verdict, and a verdict that was read has that number

pub verdict-back : (v : Verdict) → verdict_at (verdict_number v) (key_in v) ≡ Some v
unfolding verdict_at
verdict-back (Passed key) = refl
verdict-back Failed = refl
verdict-back Missing = refl

pub verdict-is : (n key : ℕ) (v : Verdict) → verdict_at n key ≡ Some v → verdict_number v ≡ n
unfolding verdict_at
verdict-is n key v e = value-is verdict_number Some (λ x y p. cc) n v (verdicts key) None (λ p. cc) e
