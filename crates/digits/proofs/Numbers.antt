-- A number read digit by digit. Assumes nothing.
use Rattle.std.specs.Prelude.{Option, Some, None}
use Prim.Native.Nat.{ℕ, suc, ◌+◌, ◌*◌, ◌≤◌, ◌<◌}
use mathlib.Core.Path.{◌≡◌, refl, sym, ap, ◌∙◌}
use mathlib.Core.Bool.{Bool, true, false, not, cond}
use mathlib.Core.List.{List, [], ◌∷◌}
use native.Mathlib.Nat.{le-mul_of_pos_right}
use native.Mathlib.Numerals.{add-one}
use native.Mathlib.Omega.{arith}
use lib.Dec.{leb}
use lib.ListN.{length, drop, get_or, drop_of_length-le}
use lib.Seq.{drop-cons}
use borrow.Author.Tests.{leb-true, leb-false, le-leb, lt-leb, not-true, not-false, eq-eqb, ne_eqb}
use Rattle.digits.specs.declared.number.Radix.{Radix}
use Rattle.digits.specs.Digits.{base_of, worth, is_digit, all_digits, value, largest, grown, following, number_of}

-- ---- one digit more

-- what a number that fits is, and what one that does not
grown-is : (x m : ℕ) → Some m ≡ grown x → (m ≡ x) × (x ≤ largest)
unfolding grown
grown-is x m e = go (leb x largest) refl
  where
    go : (b : Bool) → leb x largest ≡ b → (m ≡ x) × (x ≤ largest)
    go true q = let f = rw q at e in ((cc), leb-true x largest q)
    go false q = let f = rw q at e in absurd (let z : ◌≡◌ {A = ℕ} 0 1 = cc in omega arith)

grown-not : (x : ℕ) → None ≡ grown x → largest < x
unfolding grown
grown-not x e = go (leb x largest) refl
  where
    go : (b : Bool) → leb x largest ≡ b → largest < x
    go true q = let f = rw q at e in absurd (let z : ◌≡◌ {A = ℕ} 0 1 = cc in omega arith)
    go false q = leb-false x largest q

-- ---- the digits that are left

value-from : (base n : ℕ) (s : List ℕ) → 0 < base → n ≤ value base n s
value-from base n [] h = omega arith
value-from base n (c ∷ s) h = let k = value-from base (n * base + worth c) s h in let l = le-mul_of_pos_right n h in omega arith

read-end : (base n i : ℕ) (s : List ℕ) → length s ≤ i → n ≤ largest → following base n (drop i s) ≡ Some n
unfolding following grown
read-end base n i s h k = rw (drop_of_length-le s {i = i} h, le-leb n largest k)

module _ (base n : ℕ) (s : List ℕ) (i : ℕ) (b : Bool) (h : i < length s) (e : b ≡ is_digit base (get_or s i 0)) where
  read_off : not b ≡ true → following base n (drop i s) ≡ None
  unfolding following
  read_off f = rw (drop-cons s i 0 h, ← e, not-true b f)

  read-on : (m : ℕ) → not b ≡ false → Some m ≡ grown (n * base + worth (get_or s i 0)) → following base n (drop i s) ≡ following base m (drop (i + 1) s)
  unfolding following
  read-on m f g = rw (drop-cons s i 0 h, ← e, not-false b f, add-one i, (grown-is (n * base + worth (get_or s i 0)) m g).0)

  read-over : 0 < base → not b ≡ false → None ≡ grown (n * base + worth (get_or s i 0)) → following base n (drop i s) ≡ None
  unfolding following grown
  read-over p f g =
      let k = grown-not (n * base + worth (get_or s i 0)) g in
      let l = value-from base (n * base + worth (get_or s i 0)) (drop (suc i) s) p in
      rw (drop-cons s i 0 h, ← e, not-false b f) (go (all_digits base (drop (suc i) s)) (value base (n * base + worth (get_or s i 0)) (drop (suc i) s)) (lt-leb (value base (n * base + worth (get_or s i 0)) (drop (suc i) s)) largest (omega arith)))
    where
      go : (t : Bool) (v : ℕ) → leb v largest ≡ false → cond t (cond (leb v largest) (Some v) None) None ≡ None
      go true v q = rw q
      go false v q = refl

pub read_none : (base : ℕ) (s : List ℕ) → length s ≡ 0 → None ≡ number_of base s
unfolding number_of
read_none base s h = rw (eq-eqb (length s) 0 h)

-- ---- the ways out of the loop, from what holds before a turn

module _ (radix : Radix) (base n i : ℕ) (s : List ℕ) (known : base ≡ base_of radix) (some : length s ≡ 0 → ⊥) (inv : following base 0 s ≡ following base n (drop i s)) where
  from_start : number_of (base_of radix) s ≡ following base n (drop i s)
  unfolding number_of
  from_start = rw (← known, ne_eqb (length s) 0 some) inv

  pub end_read : length s ≤ i → n ≤ largest → Some n ≡ number_of (base_of radix) s
  end_read h k = sym (from_start ∙ read-end base n i s h k)

  module _ (b : Bool) (h : i < length s) (e : b ≡ is_digit base (get_or s i 0)) where
    pub off-read : not b ≡ true → None ≡ number_of (base_of radix) s
    off-read f = sym (from_start ∙ read_off base n s i b h e f)

    pub over-read : (d : ℕ) (g : Option ℕ) → 0 < base → not b ≡ false → d ≡ worth (get_or s i 0) → g ≡ grown (n * base + d) → g ≡ None → None ≡ number_of (base_of radix) s
    over-read d g p f w m t = sym (from_start ∙ read-over base n s i b h e p f (sym t ∙ m ∙ ap (λ (x : ℕ). grown (n * base + x)) w))

    pub on_read : (d m : ℕ) (g : Option ℕ) → not b ≡ false → d ≡ worth (get_or s i 0) → g ≡ grown (n * base + d) → g ≡ Some m → following base 0 s ≡ following base m (drop (i + 1) s)
    on_read d m g f w k t = inv ∙ read-on base n s i b h e m f (sym t ∙ k ∙ ap (λ (x : ℕ). grown (n * base + x)) w)

pub grown-most : (m x : ℕ) (g : Option ℕ) → g ≡ grown x → g ≡ Some m → m ≤ largest
grown-most m x g k t = let p = grown-is x m (sym t ∙ k) in omega arith
