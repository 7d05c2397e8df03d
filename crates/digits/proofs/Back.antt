-- Reading what was printed gives it back: bytes in hex, digits of a fixed number, decimals. Assumes nothing.
use Rattle.std.specs.Prelude.{Some}
use Prim.Native.Nat.{ℕ, zero, suc, ◌+◌, ◌*◌, ◌/◌, ◌%◌, ◌^◌, ◌≤◌, ◌<◌}
use mathlib.Core.Path.{◌≡◌, refl}
use mathlib.Core.Bool.{Bool, true, false, ◌&&◌, ◌||◌}
use mathlib.Core.List.{List, [], ◌∷◌, ◌++◌}
use native.Mathlib.Nat.{mod-lt, div-add-mod', div-lt_iff_lt-mul, pow-suc, pow-zero}
use native.Mathlib.Omega.{arith}
use lib.Dec.{leb, ltb, eqb}
use lib.ListN.{length}
use borrow.Author.Tests.{le-leb, lt-ltb, ltb-true, ltb-false, eq-eqb, ne_eqb}
use Rattle.laws.proofs.Bools.{and_l, and_r, both}
use Rattle.strings.specs.Bytes.{among, eqbs}
use Rattle.strings.proofs.Strings.{among_in, among-over}
use Rattle.digits.specs.declared.number.Radix.{Radix}
use Rattle.digits.specs.declared.number.Radix.TheVariants.{Ten}
use Rattle.digits.specs.Digits.{base_of, glyph, worth, is_digit, digits, places, decimal, all_digits, value, largest, grown, following, number_of}
use Rattle.digits.specs.Hex.{pairs, dash, hex_of, bytes_of, is_hex, hex_read, hex_laid}
use Rattle.digits.proofs.Digits.{base-some, base-most, glyph-low, glyph-high, digits_long}
use Rattle.digits.proofs.Pairs.{pairs-long, hex-some}

-- ---- one digit

worth-glyph : (d : ℕ) → d < 16 → worth (glyph d) ≡ d
unfolding worth
worth-glyph d h = go (ltb d 10) refl
  where
    go : (b : Bool) → ltb d 10 ≡ b → worth (glyph d) ≡ d
    go true q = let k = ltb-true d 10 q in rw (← glyph-low d k, among_in 0x30 0x39 (0x30 + d) (omega arith) (omega arith)) (omega arith)
    go false q =
        let k = ltb-false d 10 q in
        rw (← glyph-high d k, among-over 0x30 0x39 (0x37 + d) (omega arith), among_in 0x41 0x46 (0x37 + d) (omega arith) (omega arith)) (omega arith)

glyph-digit : (base d : ℕ) → d < base → base ≤ 16 → is_digit base (glyph d) ≡ true
unfolding is_digit
glyph-digit base d h l = rw (worth-glyph d (omega arith), lt-ltb d base h) (go (ltb d 10) refl)
  where
    go : (b : Bool) → ltb d 10 ≡ b → (among 0x30 0x39 (glyph d) || among 0x41 0x46 (glyph d) || among 0x61 0x66 (glyph d)) && true ≡ true
    go true q = let k = ltb-true d 10 q in rw (← glyph-low d k, among_in 0x30 0x39 (0x30 + d) (omega arith) (omega arith))
    go false q =
        let k = ltb-false d 10 q in
        rw (← glyph-high d k, among-over 0x30 0x39 (0x37 + d) (omega arith), among_in 0x41 0x46 (0x37 + d) (omega arith) (omega arith))

-- ---- bytes

-- every element is a byte
pub data Octets : List ℕ → Type 0 where
  none : Octets []
  more : {b : ℕ} {s : List ℕ} → b < 256 → Octets s → Octets (b ∷ s)

pairs-back : (s : List ℕ) → Octets s → bytes_of (pairs s) ≡ s
pairs-back [] none = refl
pairs-back (b ∷ s) (more h o) =
    rw (worth-glyph (b / 16) (omega arith), worth-glyph (b % 16) (omega arith), div-add-mod' b 16, pairs-back s o)

pairs-good : (s : List ℕ) → Octets s → all_digits 16 (pairs s) ≡ true
pairs-good [] none = refl
pairs-good (b ∷ s) (more h o) =
    rw (glyph-digit 16 (b / 16) (omega arith) (omega arith), glyph-digit 16 (b % 16) (omega arith) (omega arith)) (pairs-good s o)

or_right : (a b : Bool) → b ≡ true → a || b ≡ true
or_right true b e = refl
or_right false b e = e

hex-good : (s : List ℕ) → Octets s → is_hex (hex_of s) ≡ true
unfolding is_hex hex_of
hex-good [] none = refl
hex-good (b ∷ s) (more h o) =
    let l = pairs-long (b ∷ s) in
    rw (← hex-some (b ∷ s) (λ e. omega arith))
    (or_right (eqbs (pairs (b ∷ s)) dash) (leb 1 (length (pairs (b ∷ s))) && eqb (length (pairs (b ∷ s)) % 2) 0 && all_digits 16 (pairs (b ∷ s)))
    (rw (le-leb 1 (length (pairs (b ∷ s))) (omega arith), eq-eqb (length (pairs (b ∷ s)) % 2) 0 (omega arith)) (pairs-good (b ∷ s) (more h o))))

hex-same : (s : List ℕ) → Octets s → bytes_of (hex_of s) ≡ s
unfolding hex_of
hex-same [] none = refl
hex-same (b ∷ s) (more h o) = rw (← hex-some (b ∷ s) (λ e. omega arith)) (pairs-back (b ∷ s) (more h o))

hex-half : (s : List ℕ) → length (hex_of s) / 2 ≡ length s
unfolding hex_of
hex-half [] = refl
hex-half (b ∷ s) = let l = pairs-long (b ∷ s) in rw (← hex-some (b ∷ s) (λ e. omega arith)) (omega arith)

-- any list of bytes, where it has room
module _ (room : ℕ) (s : List ℕ) (o : Octets s) (h : length s ≤ room) where
  pub hex-read-back : hex_read room (hex_of s) ≡ Some (length s)
  unfolding hex_read
  hex-read-back = rw (hex-good s o, hex-half s, le-leb (length s) room h)

  pub hex-laid-back : hex_laid room (hex_of s) ≡ s
  unfolding hex_laid
  hex-laid-back = rw (hex-good s o, hex-half s, le-leb (length s) room h) (hex-same s o)

-- ---- numbers

value-last : (base n c : ℕ) (s : List ℕ) → value base n (s ++ (c ∷ [])) ≡ value base n s * base + worth c
value-last base n c [] = refl
value-last base n c (d ∷ s) = value-last base (n * base + worth d) c s

all-last : (base c : ℕ) (s : List ℕ) → all_digits base s ≡ true → is_digit base c ≡ true → all_digits base (s ++ (c ∷ [])) ≡ true
all-last base c [] e f = rw f
all-last base c (d ∷ s) e f = both (is_digit base d) (all_digits base (s ++ (c ∷ []))) (and_l (is_digit base d) (all_digits base s) e) (all-last base c s (and_r (is_digit base d) (all_digits base s) e) f)

module _ (base : ℕ) (some : 0 < base) (few : base ≤ 16) where
  digits-good : (k n : ℕ) → all_digits base (digits base k n) ≡ true
  digits-good zero n = refl
  digits-good (suc k) n = all-last base (glyph (n % base)) (digits base k (n / base)) (digits-good k (n / base)) (glyph-digit base (n % base) (mod-lt n some) few)

  digits_value : (k n : ℕ) → n < base ^ k → value base 0 (digits base k n) ≡ n
  digits_value zero n h = let l : n < 1 = rw (pow-zero base) at h in omega arith
  digits_value (suc k) n h =
      let l : n < base ^ k * base = rw (pow-suc base k) at h in
      let m = mod-lt n some in
      rw (value-last base 0 (glyph (n % base)) (digits base k (n / base)), digits_value k (n / base) ((div-lt_iff_lt-mul some).1 l), worth-glyph (n % base) (omega arith)) (div-add-mod' n base)

  digits-read : (k n : ℕ) → 0 < k → n < base ^ k → n ≤ largest → number_of base (digits base k n) ≡ Some n
  unfolding number_of following grown
  digits-read k n p h m =
      let l = digits_long base k n in
      rw (ne_eqb (length (digits base k n)) 0 (λ e. omega arith), digits-good k n, digits_value k n h, le-leb n largest m)

-- a number printed in so many digits, if it has no more
pub fixed_back : (radix : Radix) (k n : ℕ) → 0 < k → n < base_of radix ^ k → n ≤ largest → number_of (base_of radix) (digits (base_of radix) k n) ≡ Some n
fixed_back radix = digits-read (base_of radix) (base-some radix (base_of radix) refl) (base-most radix (base_of radix) refl)

-- as many digits as it takes hold the number
places-hold : (f n : ℕ) → n < 10 ^ suc f → n < 10 ^ places f n
places-hold zero n h = h
places-hold (suc f) n h =
    let k : n < 10 ^ suc f * 10 = rw (pow-suc 10 (suc f)) at h in
    go (places-hold f (n / 10) ((div-lt_iff_lt-mul {k = 10} (omega arith)).1 k)) (ltb n 10) refl
  where
    go : n / 10 < 10 ^ places f (n / 10) → (b : Bool) → ltb n 10 ≡ b → n < 10 ^ places (suc f) n
    go l true q = let k = ltb-true n 10 q in rw q (omega arith)
    go l false q = rw (q, pow-suc 10 (places f (n / 10))) ((div-lt_iff_lt-mul {k = 10} (omega arith)).0 l)

places-some : (f n : ℕ) → 0 < places f n
places-some zero n = omega arith
places-some (suc f) n = go (ltb n 10) refl
  where
    go : (b : Bool) → ltb n 10 ≡ b → 0 < places (suc f) n
    go true q = rw q (omega arith)
    go false q = rw q (omega arith)

-- every number of 64 bits
pub decimal-back : (n : ℕ) → n ≤ largest → number_of 10 (decimal n) ≡ Some n
unfolding decimal
decimal-back n h = fixed_back Ten (places 19 n) n (places-some 19 n) (places-hold 19 n (omega arith)) h
