-- Characters and the digits that they are. Assumes nothing.
use Prim.Native.Nat.{ℕ, zero, suc, ◌+◌, ◌-◌, ◌/◌, ◌%◌, ◌≤◌, ◌<◌}
use mathlib.Core.Path.{◌≡◌, refl, sym, ap, ◌∙◌}
use mathlib.Core.Bool.{Bool, true, false, not, cond, ◌&&◌, ◌||◌}
use Rattle.std.specs.List.{list_all}
use mathlib.Core.List.{List, [], ◌∷◌}
use native.Mathlib.Numerals.{add-one}
use native.Mathlib.Omega.{arith}
use lib.Dec.{ltb}
use lib.ListN.{length, drop, get_or, set, length-append}
use lib.Seq.{drop-cons}
use borrow.Author.Tests.{lt-ltb, le-ltb, not-true, not-false}
use Rattle.strings.specs.Bytes.{among}
use Rattle.strings.proofs.Strings.{among-low, among-high}
use Rattle.buffers.specs.Lay.{over}
use Rattle.buffers.specs.declared.Sheet.{Sheet}
use Rattle.buffers.specs.Laid.{Laid}
use Rattle.buffers.proofs.Laying.{over_none, over-back}
use Rattle.buffers.proofs.Sheets.{whole-laid}
use Rattle.digits.specs.declared.number.Radix.{Radix}
use Rattle.digits.specs.declared.number.Radix.TheVariants.{Ten, Sixteen}
use Rattle.digits.specs.Digits.{base_of, glyph, worth, is_digit, digits, places, all_digits}

pub base-some : (r : Radix) (b : ℕ) → b ≡ base_of r → 0 < b
base-some Ten b e = omega arith
base-some Sixteen b e = omega arith

pub base-most : (r : Radix) (b : ℕ) → b ≡ base_of r → b ≤ 16
base-most Ten b e = omega arith
base-most Sixteen b e = omega arith

-- ---- one character

pub glyph-low : (d : ℕ) → d < 10 → 0x30 + d ≡ glyph d
unfolding glyph
glyph-low d h = rw (lt-ltb d 10 h)

pub glyph-high : (d : ℕ) → 10 ≤ d → 0x37 + d ≡ glyph d
unfolding glyph
glyph-high d h = rw (le-ltb d 10 h)

module _ (c : ℕ) where
  pub upper-less : among 0x41 0x46 c ≡ true → 0x37 ≤ c
  upper-less t = let k = among-low 0x41 0x46 c t in omega arith

  pub lower-less : among 0x61 0x66 c ≡ true → 0x57 ≤ c
  lower-less t = let k = among-low 0x61 0x66 c t in omega arith

-- a digit of base sixteen is a digit at all
pub sixteen : (c : ℕ) → (among 0x30 0x39 c || among 0x41 0x46 c || among 0x61 0x66 c) ≡ is_digit 16 c
unfolding is_digit worth
sixteen c = go (among 0x30 0x39 c) (among 0x41 0x46 c) (among 0x61 0x66 c) refl refl refl
  where
    go : (p q r : Bool) → among 0x30 0x39 c ≡ p → among 0x41 0x46 c ≡ q → among 0x61 0x66 c ≡ r
        → (p || q || r) ≡ (p || q || r) && ltb (cond p (c - 0x30) (cond q (c - 0x37) (cond r (c - 0x57) 0))) 16
    go true q r e f g = let k = among-high 0x30 0x39 c e in rw (lt-ltb (c - 0x30) 16 (omega arith)) refl
    go false true r e f g = let k = among-high 0x41 0x46 c f in rw (lt-ltb (c - 0x37) 16 (omega arith)) refl
    go false false true e f g = let k = among-high 0x61 0x66 c g in rw (lt-ltb (c - 0x57) 16 (omega arith)) refl
    go false false false e f g = refl

-- ---- the digits of a number

pub digits_long : (base k n : ℕ) → k ≡ length (digits base k n)
digits_long base zero n = refl
digits_long base (suc k) n = omega (arith, length-append (digits base k (n / base)) (glyph (n % base) ∷ []), digits_long base k (n / base))

-- the last digit, then those before it
pub digits-back : (at base i rest g : ℕ) (o : List ℕ) → 0 < i → at + i ≤ length o → g ≡ glyph (rest % base)
    → over at (digits base i rest) o ≡ over at (digits base (i - 1) (rest / base)) (set o (at + (i - 1)) g)
digits-back at base zero rest g o h l e = absurd (omega arith)
digits-back at base (suc k) rest g o h l e =
    let m : k ≡ length (digits base k (rest / base)) = digits_long base k (rest / base) in
    let p : suc k - 1 ≡ k = omega arith in
    rw (p, e) (over-back at (glyph (rest % base)) (digits base k (rest / base)) o (omega arith)
    ∙ ap (λ (j : ℕ). over at (digits base k (rest / base)) (set o (at + j) (glyph (rest % base)))) (sym m))

-- past the first digit nothing is left to write
pub digits-whole : (radix : Radix) (base n width i rest : ℕ) (x y : Sheet) → x.at + width ≤ length x.out.now → base ≡ base_of radix → i ≡ 0
    → (y.at ≡ x.at) × (y.out.ghost_name ≡ x.out.ghost_name) × (length y.out.now ≡ length x.out.now)
    × (over y.at (digits base width n) x.out.now ≡ over y.at (digits base i rest) y.out.now)
    → Laid (digits (base_of radix) width n) x (record { out = y.out; at = y.at + width })
digits-whole radix base n width i rest x y h b e p =
    let d = digits_long base width n in
    rw (← b) (whole-laid (digits base width n) x _ (omega arith) (omega (arith, p.0), over_none y.at y.out.now ∙ sym (rw e at p.3) ∙ ap (λ (k : ℕ). over k (digits base width n) x.out.now) p.0) p.1)

-- ---- how many digits a number takes

pub places-end : (n most : ℕ) → most ≡ 0 → 1 ≡ places most n
places-end n most e = rw e

pub places-one : (n most : ℕ) → n < 10 → 1 ≡ places most n
places-one n zero h = refl
places-one n (suc k) h = rw (lt-ltb n 10 h)

pub places-more : (n most r : ℕ) → 0 < most → 10 ≤ n → r ≡ places (most - 1) (n / 10) → 1 + r ≡ places most n
places-more n zero r h l e = absurd (omega arith)
places-more n (suc k) r h l e = let p : suc k - 1 ≡ k = omega arith in rw (le-ltb n 10 l, e, p) (omega arith)

-- ---- all of a word are digits

-- whether all are digits, in the library's words
pub all_is : (base : ℕ) (s : List ℕ) → list_all (λ c. is_digit base c) s ≡ all_digits base s
all_is base [] = refl
all_is base (c ∷ s) = ap (λ (t : Bool). is_digit base c && t) (all_is base s)

-- one place after the other
module _ (base : ℕ) (s : List ℕ) (i : ℕ) (b : Bool) (h : i < length s) (e : b ≡ is_digit base (get_or s i 0)) where
  pub digits-on : not b ≡ false → all_digits base (drop i s) ≡ all_digits base (drop (i + 1) s)
  digits-on f = rw (drop-cons s i 0 h, ← e, not-false b f, add-one i)

  pub digits-off : not b ≡ true → all_digits base (drop i s) ≡ false
  digits-off f = rw (drop-cons s i 0 h, ← e, not-true b f)
