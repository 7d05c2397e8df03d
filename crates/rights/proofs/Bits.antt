-- The AND of rights values and its bits. Assumes nothing.
use Prim.Native.Nat.{ℕ, zero, suc, ◌+◌, ◌-◌, ◌*◌, ◌/◌, ◌%◌, ◌^◌, ◌<◌, min}
use mathlib.Core.Path.{◌≡◌, refl, ap, sym, ◌∙◌}
use mathlib.Core.Bool.{Bool, true, false, not, cond, ◌&&◌}
use native.Mathlib.Nat.{mod-one, mod-lt, mod-mod, pow-suc, min-le_left, lt_of_le_of_lt, zero-lt-suc, zero-mul, one-mul}
use native.Mathlib.Numerals.{add-one, one-add}
use borrow.Author.Tests.{ne_eqb}
use native.Mathlib.Omega.{arith}
use lib.Arith.{digits_div, digits_mod, mod-mul}
use lib.Pow.{pow_pos, field, mod-mod-pow}
use lib.Bits.{bit_and, and_step, and_shr, and_mod, and_high, and_mask}
use lib.Dec.{eqb}
use Rattle.rights.specs.Rights.{low, has_bit, has_right, and_of, common, is_group, group_mask, reads_group}
use Rattle.rights.specs.declared.Rights.{Rights}

min-small : (a b : ℕ) → min (a % 2) (b % 2) < 2
min-small a b = lt_of_le_of_lt (min-le_left (a % 2) (b % 2)) (mod-lt a (zero-lt-suc 1))

and-half : (a b : ℕ) → bit_and a b / 2 ≡ bit_and (a / 2) (b / 2)
and-half a b = rw (and_step a b) (digits_div (bit_and (a / 2) (b / 2)) (min-small a b))

and-odd : (a b : ℕ) → bit_and a b % 2 ≡ min (a % 2) (b % 2)
and-odd a b = rw (and_step a b) (digits_mod (bit_and (a / 2) (b / 2)) (min-small a b))

-- it is the language's `&`, cut to k bits
pub and-of : (k a b : ℕ) → and_of k a b ≡ bit_and a b % 2 ^ k
unfolding and_of
and-of zero a b = sym (mod-one (bit_and a b))
and-of (suc k) a b =
    ap (λ (x : ℕ). x * 2 + min (a % 2) (b % 2)) (and-of k (a / 2) (b / 2))
    ∙ sym (ap (λ (m : ℕ). bit_and a b % m) (pow-suc 2 k)
    ∙ mod-mul (bit_and a b) (pow_pos k) (zero-lt-suc 1)
    ∙ rw (and-half a b, and-odd a b))

-- a part that is cut before is cut after
and_cut : (k x y : ℕ) → bit_and (x % 2 ^ k) y % 2 ^ k ≡ bit_and x y % 2 ^ k
and_cut k x y = and_mod (x % 2 ^ k) y k ∙ ap (λ (z : ℕ). bit_and z (y % 2 ^ k)) (mod-mod x (2 ^ k)) ∙ sym (and_mod x y k)

and-four : (k a b c d : ℕ) → bit_and (bit_and (bit_and (bit_and a b) c) d) (2 ^ k - 1) ≡ and_of k (and_of k (and_of k a b) c) d
and-four k a b c d =
    sym (and-of k (and_of k (and_of k a b) c) d
    ∙ ap (λ (z : ℕ). bit_and z d % 2 ^ k) (and-of k (and_of k a b) c ∙ ap (λ (z : ℕ). bit_and z c % 2 ^ k) (and-of k a b) ∙ and_cut k (bit_and a b) c)
    ∙ and_cut k (bit_and (bit_and a b) c) d
    ∙ sym (and_mask (bit_and (bit_and (bit_and a b) c) d) k))

pub common-is : (a b c d : Rights) → ◌≡◌ {A = Rights} (record { 0 = bit_and (bit_and (bit_and (bit_and a.0 b.0) c.0) d.0) 0x3FFFFFFFFF }) (common a b c d)
unfolding common
common-is a b c d = rw (and-four low a.0 b.0 c.0 d.0)

-- ---- a bit of the AND is the conjunction of the bits

bit-and : (k a b : ℕ) → bit_and a b / 2 ^ k % 2 ≡ min (a / 2 ^ k % 2) (b / 2 ^ k % 2)
bit-and k a b = rw (and_shr a b k) (and-odd (a / 2 ^ k) (b / 2 ^ k))

small-min : (x y : ℕ) → x < 2 → y < 2 → eqb (min x y) 1 ≡ eqb x 1 && eqb y 1
small-min zero zero p q = refl
small-min zero (suc zero) p q = refl
small-min zero (suc (suc y)) p q = absurd (omega arith)
small-min (suc zero) zero p q = refl
small-min (suc zero) (suc zero) p q = refl
small-min (suc zero) (suc (suc y)) p q = absurd (omega arith)
small-min (suc (suc x)) y p q = absurd (omega arith)

cut-bit : (n j k : ℕ) → n % 2 ^ (suc j + k) / 2 ^ k % 2 ≡ n / 2 ^ k % 2
cut-bit n j k = rw (field n (suc j) k) (ap (λ (m : ℕ). n / 2 ^ k % 2 ^ m % 2) (sym (add-one j)) ∙ mod-mod-pow (n / 2 ^ k) j 1)

has_both : (j k a b : ℕ) → has_bit k (and_of (suc j + k) a b) ≡ has_bit k a && has_bit k b
has_both j k a b =
    rw (and-of (suc j + k) a b, cut-bit (bit_and a b) j k, bit-and k a b)
    (small-min (a / 2 ^ k % 2) (b / 2 ^ k % 2) (mod-lt (a / 2 ^ k) (zero-lt-suc 1)) (mod-lt (b / 2 ^ k) (zero-lt-suc 1)))

-- over the width: a bit below it is kept
has_all : (n k a b c d : ℕ) → k < n → has_bit k (and_of n (and_of n (and_of n a b) c) d) ≡ has_bit k a && has_bit k b && has_bit k c && has_bit k d
has_all n k a b c d h =
    let e : n ≡ suc (n - suc k) + k = omega arith in
    ap (λ (m : ℕ). has_bit k (and_of m (and_of m (and_of m a b) c) d)) e ∙ go (n - suc k)
  where
    go : (j : ℕ) → has_bit k (and_of (suc j + k) (and_of (suc j + k) (and_of (suc j + k) a b) c) d) ≡ has_bit k a && has_bit k b && has_bit k c && has_bit k d
    go j = rw (has_both j k (and_of (suc j + k) (and_of (suc j + k) a b) c) d, has_both j k (and_of (suc j + k) a b) c, has_both j k a b)

-- a right that is common is in all four
pub common-right : (k : ℕ) (a b c d : Rights) → k < low → has_right k (common a b c d) ≡ has_right k a && has_right k b && has_right k c && has_right k d
unfolding common
common-right k a b c d h = has_all low k a.0 b.0 c.0 d.0 h

-- ---- a mask of one bit finds the bit

and-bit : (x k : ℕ) → bit_and x (2 ^ k) ≡ (x / 2 ^ k % 2) * 2 ^ k
and-bit x k = ap (λ (m : ℕ). bit_and x m) one ∙ and_high x 1 k
  where
    one : 2 ^ k ≡ 2 ^ (1 + k) - 2 ^ k
    one = rw (one-add k, pow-suc 2 k) (omega arith)

pub mask-test : (x k : ℕ) → not (eqb (bit_and x (2 ^ k)) 0) ≡ has_bit k x
mask-test x k = rw (and-bit x k) (go (x / 2 ^ k % 2) (2 ^ k) (mod-lt (x / 2 ^ k) (zero-lt-suc 1)) (pow_pos k))
  where
    go : (b m : ℕ) → b < 2 → 0 < m → not (eqb (b * m) 0) ≡ eqb b 1
    go zero m p q = rw zero-mul
    go (suc zero) m p q = rw (one-mul, ne_eqb m 0 (λ e. omega arith))
    go (suc (suc b)) m p q = absurd (omega arith)

no-mask : (x : ℕ) → bit_and x 0 ≡ 0
no-mask x = rw (and_mask x 0) (mod-one x)

-- a group's mask finds the group's right, and finds nothing outside 1..21
pub group-test : (r : Rights) (n m : ℕ) → m ≡ group_mask n → not (eqb (bit_and r.0 m) 0) ≡ reads_group r n
unfolding group_mask reads_group
group-test r n m e = rw e (go (is_group n))
  where
    go : (b : Bool) → not (eqb (bit_and r.0 (cond b (2 ^ (7 + n)) 0)) 0) ≡ b && has_right (7 + n) r
    go true = mask-test r.0 (7 + n)
    go false = rw (no-mask r.0)
