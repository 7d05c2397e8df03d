-- `rights::mask` meets its contract: the table is checked against the formula once.
use Prim.Native.Nat.{ℕ, ◌+◌, ◌-◌, ◌^◌, ◌<◌, ◌≤◌}
use mathlib.Core.Path.{◌≡◌, ap, ◌∙◌}
use mathlib.Core.List.{List, [], ◌∷◌}
use mathlib.Core.Logic.{⊎_elim}
use mathlib.Core.Bool.{Bool}
use native.Mathlib.Omega.{arith}
use lib.Dec.{eqb, eqb→eq}
use lib.ListN.{get_or}
use Rattle.laws.proofs.Tables.{at}
use Rattle.strings.proofs.Strings.{among_in, among-under, among-over}
use Rattle.rights.specs.Rights.{group_mask}
use Rattle.rights.proofs.mask.Goals as goal

abbrev masks : List ℕ
masks = 0x100 ∷ 0x200 ∷ 0x400 ∷ 0x800 ∷ 0x1000 ∷ 0x2000 ∷ 0x4000 ∷ 0x8000 ∷ 0x10000 ∷ 0x20000 ∷ 0x40000 ∷ 0x80000 ∷ 0x100000 ∷ 0x200000 ∷ 0x400000 ∷ 0x800000 ∷ 0x1000000 ∷ 0x2000000 ∷ 0x4000000 ∷ 0x8000000 ∷ 0x10000000 ∷ []

abbrev right : ℕ → ℕ → Bool
right k x = eqb x (2 ^ (8 + k))

in_table : (n : ℕ) → 1 ≤ n → n ≤ 21 → get_or masks (n - 1) 0 ≡ group_mask n
unfolding group_mask
in_table n h l =
    let e : 8 + (n - 1) ≡ 7 + n = omega arith in
    rw (among_in 1 21 n h l) (eqb→eq (get_or masks (n - 1) 0) (2 ^ (8 + (n - 1))) (at right masks tt (n - 1) (omega arith)) ∙ ap (λ (k : ℕ). 2 ^ k) e)

below : (n : ℕ) → n < 1 → 0 ≡ group_mask n
unfolding group_mask
below n h = rw (among-under 1 21 n h)

above : (n : ℕ) → 21 < n → 0 ≡ group_mask n
unfolding group_mask
above n h = rw (among-over 1 21 n h)

pub returns-then-i-lt1 : goal.returns-then-i-lt1
returns-then-i-lt1 c = ⊎_elim (λ h. below c.args.n h) (λ w. above c.args.n (omega (arith, w.1))) c.then-i-lt1.either

pub returns : goal.returns
returns c = in_table c.args.n (omega arith) (omega arith)
