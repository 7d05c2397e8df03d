-- Laws on byte strings. Assumes nothing.
use Prim.Native.Nat.{ℕ, suc, ◌+◌, ◌<◌, ◌≤◌, min}
use native.Mathlib.Omega.{arith}
use native.Mathlib.Numerals.{add-one}
use mathlib.Core.Path.{◌≡◌, refl, sym, ap, ◌∙◌}
use mathlib.Core.Bool.{Bool, true, false, not}
use mathlib.Core.List.{List, [], ◌∷◌}
use borrow.Author.Tests.{eq-eqb, ne_eqb, eqb-true, leb-true, le-leb, lt-leb, not-true, not-false}
use lib.Dec.{eqb, leb}
use lib.ListN.{length, take, drop, get_or}
use lib.Seq.{drop-cons, take-append-le, take_all}
use Rattle.laws.proofs.Bools.{true-false, and_l, and_r, and_no}
use Rattle.strings.specs.Bytes.{eqbs, among, belongs_to, all_of, copied_into}
use Rattle.strings.specs.declared.Class.{Class}

-- ---- two byte strings are the same

pub same-lengths : (a b : List ℕ) → (length a ≡ length b → ⊥) → false ≡ eqbs a b
same-lengths [] [] h = absurd (h refl)
same-lengths [] (y ∷ ys) h = refl
same-lengths (x ∷ xs) [] h = refl
same-lengths (x ∷ xs) (y ∷ ys) h = sym (and_no (eqb x y) (eqbs xs ys) (sym (same-lengths xs ys (λ e. h (ap suc e)))))

module _ (a b : List ℕ) (i : ℕ) (ha : i < length a) (hb : i < length b) where
  pub same-on : get_or a i 0 ≡ get_or b i 0 → eqbs (drop i a) (drop i b) ≡ eqbs (drop (i + 1) a) (drop (i + 1) b)
  same-on e = rw (add-one i, drop-cons a i 0 ha, drop-cons b i 0 hb, eq-eqb (get_or a i 0) (get_or b i 0) e)

  pub same-off : (get_or a i 0 ≡ get_or b i 0 → ⊥) → eqbs (drop i a) (drop i b) ≡ false
  same-off n = rw (drop-cons a i 0 ha, drop-cons b i 0 hb, ne_eqb (get_or a i 0) (get_or b i 0) n)

-- the test says what it should
pub eqbs-true : (a b : List ℕ) → eqbs a b ≡ true → a ≡ b
eqbs-true [] [] e = refl
eqbs-true [] (y ∷ ys) e = true-false (sym e)
eqbs-true (x ∷ xs) [] e = true-false (sym e)
eqbs-true (x ∷ xs) (y ∷ ys) e = let p = eqb-true x y (and_l (eqb x y) (eqbs xs ys) e) in let q = eqbs-true xs ys (and_r (eqb x y) (eqbs xs ys) e) in cc

pub eqbs-refl : (a : List ℕ) → eqbs a a ≡ true
eqbs-refl [] = refl
eqbs-refl (x ∷ xs) = rw (eq-eqb x x refl) (eqbs-refl xs)

-- ---- a number from a to e

module _ (a e c : ℕ) where
  pub among-low : among a e c ≡ true → a ≤ c
  among-low h = leb-true a c (and_l (leb a c) (leb c e) h)

  pub among-high : among a e c ≡ true → c ≤ e
  among-high h = leb-true c e (and_r (leb a c) (leb c e) h)

  pub among_in : a ≤ c → c ≤ e → among a e c ≡ true
  among_in h k = rw (le-leb a c h, le-leb c e k)

  pub among-under : c < a → among a e c ≡ false
  among-under h = rw (lt-leb a c h)

  pub among-over : e < c → among a e c ≡ false
  among-over h = and_no (leb a c) (leb c e) (lt-leb c e h)

-- ---- all bytes belong to a class

module _ (k : Class) (s : List ℕ) (i : ℕ) (t : Bool) (h : i < length s) (is : t ≡ belongs_to k (get_or s i 0)) where
  pub all-on : not t ≡ false → all_of k (drop i s) ≡ all_of k (drop (i + 1) s)
  all-on e = rw (add-one i, drop-cons s i 0 h, sym is ∙ not-false t e)

  pub all-off : not t ≡ true → all_of k (drop i s) ≡ false
  all-off e = rw (drop-cons s i 0 h, sym is ∙ not-true t e)

-- ---- a string in an array

-- a string copied to the start of an array with room for it
pub kept : (o c : List ℕ) → length c ≤ length o → take (min (length c) (length o)) (copied_into o c) ≡ c
unfolding copied_into
kept o c h =
    let e : min (length c) (length o) ≡ length c = omega arith in
    rw (e, take_all (length o) c h, take-append-le (length c) c (drop (length c) o) (omega arith), take_all (length c) c (omega arith))
