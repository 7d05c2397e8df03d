-- One more line told. Assumes nothing.
use Rattle.std.proofs.Common.{◌≡◌, Result, Ok}
use mathlib.Core.Path.{subst}
use Rattle.desk_token.specs.declared.Desk.{Desk}
use Rattle.lines.specs.Telling.{Told, told}

module _ {F X E : Type 0} (step : F → Desk → X → Result Desk E → F → Type 0) (start : F) where
  pub told_more : (f g : F) (d e : Desk) (x : X) (r : Result Desk E) → Told step start f d → step f d x r g → r ≡ Ok e → Told step start g e
  told_more f g d e x r t s p = told f g d e x t (subst (λ q. step f d x q g) p s)
