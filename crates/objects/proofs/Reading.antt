-- What a reader of the definitions looks for in a reading. Assumes nothing.
use Rattle.std.specs.Prelude.{Option, Some, None}
use Prim.Native.Nat.{ℕ, suc, ◌+◌, ◌-◌, ◌≤◌}
use native.Mathlib.Nat.{le_refl}
use native.Mathlib.Omega.{arith}
use mathlib.Core.Path.{◌≡◌, refl, subst}
use mathlib.Core.List.{List, ◌++◌}
use mathlib.Core.Bool.{Bool, true, false, cond}
use lib.Dec.{leb}
use lib.ListN.{length}
use borrow.Author.Tests.{leb-false, lt-leb}
use Rattle.objects.specs.Objects.{allowance, deepest, objects, objects_in, within, plus}
use Rattle.objects.proofs.Counts.{kept-objects}
use Rattle.objects.proofs.Append.{append-by}
use Rattle.objects.proofs.Half.{CountIn, half, objects-half}

-- the count is at most half the bytes
pub count-half : (s : List ℕ) (n : ℕ) → objects_in s ≡ Some n → n + n ≤ length s
unfolding objects_in
count-half s n e = half (subst (λ (c : Option ℕ). CountIn (length s) c) (kept-objects allowance (objects (deepest - 1) s) n e).0 (objects-half (deepest - 1) s))

-- the count is at most the allowance
pub count-within : (s : List ℕ) (n : ℕ) → objects_in s ≡ Some n → n ≤ allowance
unfolding objects_in
count-within s n e = (kept-objects allowance (objects (deepest - 1) s) n e).1

-- an allowance beyond the limit changes no answer
pub beyond : (left : ℕ) (c : Option ℕ) → allowance ≤ left → within allowance (within left c) ≡ within allowance c
beyond left None h = refl
beyond left (Some n) h = go (leb n left) refl
  where
    go : (b : Bool) → leb n left ≡ b → within allowance (cond b (Some n) None) ≡ within allowance (Some n)
    go true e = refl
    go false e = let l = leb-false n left e in rw (lt-leb n allowance (omega arith))

-- what follows a readable list is read as a list of its own, and changes nothing before it
pub objects-append : (d : ℕ) (s t : List ℕ) (n : ℕ) → objects d s ≡ Some n → objects d (s ++ t) ≡ plus n (objects d t)
objects-append d s t n e = append-by (suc (length s)) d s t n (le_refl _) e
