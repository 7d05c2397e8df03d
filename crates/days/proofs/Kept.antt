-- What is kept of good bytes is good. Assumes nothing.
use Prim.Native.Nat.{ℕ}
use mathlib.Core.Path.{◌≡◌}
use mathlib.Core.Bool.{true}
use mathlib.Core.List.{List}
use lib.Dec.{eqb}
use lib.ListN.{length}
use Rattle.laws.proofs.Bools.{and_r}
use Rattle.strings.specs.Bytes.{all_of}
use Rattle.days.specs.Days.{is_date, day_of, day_fits}
use Rattle.strings.specs.declared.Class.TheVariants.{Digit}

pub day-good : (c : List ℕ) → is_date c ≡ true → day_fits (record { 0 = day_of c }) ≡ true
unfolding is_date day_fits
day-good c h = and_r (all_of Digit c) _ (and_r (eqb (length c) 6) _ h)
