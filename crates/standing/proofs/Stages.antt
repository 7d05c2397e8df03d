-- The stages that a test picks out. Assumes nothing.
use mathlib.Core.Bool.{true, ◌||◌}
use mathlib.Core.Path.{◌≡◌, refl, sym}
use Rattle.laws.proofs.Bools.{true-false}
use Rattle.standing.specs.declared.Stage.{Stage}
use Rattle.standing.specs.declared.Stage.TheVariants.{Run, Idle, Announced, Challenged, Proven, ChipKeyChosen, Authenticated}
use Rattle.standing.specs.Standing.{is_announced, is_challenged, is_proven, is_chosen, is_authenticated}

pub challenged-is : (s : Stage) → is_challenged s ≡ true → s ≡ Challenged
challenged-is (Run c p) e = true-false (sym e)
challenged-is Idle e = true-false (sym e)
challenged-is Announced e = true-false (sym e)
challenged-is Challenged e = refl
challenged-is Proven e = true-false (sym e)
challenged-is ChipKeyChosen e = true-false (sym e)
challenged-is Authenticated e = true-false (sym e)

pub authenticated-is : (s : Stage) → is_authenticated s ≡ true → s ≡ Authenticated
authenticated-is (Run c p) e = true-false (sym e)
authenticated-is Idle e = true-false (sym e)
authenticated-is Announced e = true-false (sym e)
authenticated-is Challenged e = true-false (sym e)
authenticated-is Proven e = true-false (sym e)
authenticated-is ChipKeyChosen e = true-false (sym e)
authenticated-is Authenticated e = refl

-- "from announced or challenged"
pub data Challengeable : Stage → Type 0 where
  when-announced : Challengeable Announced
  when-challenged : Challengeable Challenged

pub challengeable : (s : Stage) → is_announced s || is_challenged s ≡ true → Challengeable s
challengeable (Run c p) e = true-false (sym e)
challengeable Idle e = true-false (sym e)
challengeable Announced e = when-announced
challengeable Challenged e = when-challenged
challengeable Proven e = true-false (sym e)
challengeable ChipKeyChosen e = true-false (sym e)
challengeable Authenticated e = true-false (sym e)

-- "when proven or chosen"
pub data Choosable : Stage → Type 0 where
  when-proven : Choosable Proven
  when-chosen : Choosable ChipKeyChosen

pub choosable : (s : Stage) → is_proven s || is_chosen s ≡ true → Choosable s
choosable (Run c p) e = true-false (sym e)
choosable Idle e = true-false (sym e)
choosable Announced e = true-false (sym e)
choosable Challenged e = true-false (sym e)
choosable Proven e = when-proven
choosable ChipKeyChosen e = when-chosen
choosable Authenticated e = true-false (sym e)
