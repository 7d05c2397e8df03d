-- Bytes in hex, a pair of digits at a time. Assumes nothing.
use Rattle.std.specs.Prelude.{Some, None}
use Prim.Native.Nat.{ℕ, suc, ◌+◌, ◌*◌, ◌/◌, ◌%◌, ◌≤◌, ◌<◌}
use mathlib.Core.Path.{◌≡◌, refl, sym, ◌∙◌}
use mathlib.Core.Bool.{Bool, true, false, ◌&&◌}
use mathlib.Core.List.{List, [], ◌∷◌, append-nil}
use native.Mathlib.Nat.{zero-add}
use native.Mathlib.Numerals.{add-one}
use native.Mathlib.Omega.{arith}
use lib.Dec.{leb}
use lib.ListN.{length, drop, get_or, set, length-drop, length-set, drop_of_length-le}
use lib.Seq.{drop-cons}
use borrow.Author.Tests.{eq-eqb, ne_eqb, lt-leb, le-leb}
use Rattle.buffers.specs.declared.Sheet.{Sheet}
use Rattle.buffers.specs.Lay.{over}
use Rattle.buffers.specs.Laid.{Laid}
use Rattle.buffers.proofs.Laying.{over_none, over_first, over-front}
use Rattle.buffers.proofs.Sheets.{laid-no-room}
use Rattle.digits.specs.Digits.{glyph, worth}
use Rattle.digits.specs.Hex.{pairs, dash, hex_of, bytes_of, is_hex, hex_read, hex_laid}

pub pairs-long : (s : List ℕ) → 2 * length s ≡ length (pairs s)
pairs-long [] = refl
pairs-long (b ∷ s) = omega (arith, pairs-long s)

-- one byte more
pub pairs-on : (at i g h : ℕ) (s o : List ℕ) → i < length s → at + 2 * i + 1 < length o → g ≡ glyph (get_or s i 0 / 16) → h ≡ glyph (get_or s i 0 % 16)
    → over (at + 2 * i) (pairs (drop i s)) o ≡ over (at + 2 * (i + 1)) (pairs (drop (i + 1) s)) (set (set o (at + 2 * i) g) (at + 2 * i + 1) h)
pairs-on at i g h s o l m e f =
    let k : at + 2 * (i + 1) ≡ at + 2 * i + 1 + 1 = omega arith in
    rw (k, add-one i, drop-cons s i 0 l, e, f)
    (over-front (at + 2 * i) (glyph (get_or s i 0 / 16)) (glyph (get_or s i 0 % 16) ∷ pairs (drop (suc i) s)) o (omega arith)
    ∙ over-front (at + 2 * i + 1) (glyph (get_or s i 0 % 16)) (pairs (drop (suc i) s)) (set o (at + 2 * i) (glyph (get_or s i 0 / 16))) (omega (arith, length-set o (at + 2 * i) (glyph (get_or s i 0 / 16)))))

-- the same from the start of the buffer
pub pairs-next : (i g h : ℕ) (s o : List ℕ) → i < length s → 2 * i + 1 < length o → g ≡ glyph (get_or s i 0 / 16) → h ≡ glyph (get_or s i 0 % 16)
    → over (2 * i) (pairs (drop i s)) o ≡ over (2 * (i + 1)) (pairs (drop (i + 1) s)) (set (set o (2 * i) g) (2 * i + 1) h)
pairs-next i g h s o l m e f = rw (zero-add (2 * i), zero-add (2 * (i + 1))) at (pairs-on 0 i g h s o l (omega arith) e f)

-- past the last byte nothing is left, where the digits fill the buffer
pub pairs-whole : (i : ℕ) (s o p : List ℕ) → length s ≤ i → length p ≡ 2 * length s → over 0 (pairs s) p ≡ over (2 * i) (pairs (drop i s)) o → o ≡ pairs s
pairs-whole i s o p l m e =
    let n = pairs-long s in
    let d : drop (length (pairs s)) p ≡ [] = drop_of_length-le p {i = length (pairs s)} (omega arith) in
    let g : over 0 (pairs s) p ≡ pairs s = over_first (pairs s) p ∙ rw d (append-nil (pairs s)) in
    over_none (2 * i) o ∙ sym (rw (drop_of_length-le s {i = i} l) at e) ∙ g

pub read-pair : (v w a b : ℕ) → v ≡ worth a → w ≡ worth b → v * 16 + w ≡ worth a * 16 + worth b
read-pair v w a b e f = rw (e, f)

-- one pair more
pub bytes_on : (i v : ℕ) (s o : List ℕ) → 2 * i + 1 < length s → i < length o → v ≡ worth (get_or s (2 * i) 0) * 16 + worth (get_or s (2 * i + 1) 0)
    → over i (bytes_of (drop (2 * i) s)) o ≡ over (i + 1) (bytes_of (drop (2 * (i + 1)) s)) (set o i v)
bytes_on i v s o h l e =
    let k : 2 * (i + 1) ≡ suc (suc (2 * i)) = omega arith in
    rw (e, k, add-one (2 * i), drop-cons s (2 * i) 0 (omega arith), drop-cons s (suc (2 * i)) 0 (omega arith))
    (over-front i (worth (get_or s (2 * i) 0) * 16 + worth (get_or s (suc (2 * i)) 0)) (bytes_of (drop (suc (suc (2 * i))) s)) o l)

-- what is left of an odd number is no byte
short_none : (t : List ℕ) → length t ≤ 1 → bytes_of t ≡ []
short_none [] h = refl
short_none (a ∷ []) h = refl
short_none (a ∷ b ∷ t) h = absurd (omega arith)

pub bytes-end : (i : ℕ) (s : List ℕ) → length s / 2 ≤ i → bytes_of (drop (2 * i) s) ≡ []
bytes-end i s h = short_none (drop (2 * i) s) (omega (arith, length-drop (2 * i) s))

-- ---- bytes printed

pub hex-some : (s : List ℕ) → (length s ≡ 0 → ⊥) → pairs s ≡ hex_of s
unfolding hex_of
hex-some s h = rw (ne_eqb (length s) 0 h)

pub hex-none : (s : List ℕ) → length s ≡ 0 → dash ≡ hex_of s
unfolding hex_of
hex-none s h = rw (eq-eqb (length s) 0 h)

pub hex-no-room : (s : List ℕ) (x : Sheet) (b : Bool) → (length s ≡ 0 → ⊥) → b ≡ leb (x.at + 2 * length s) (length x.out.now) → b ≡ false → Laid (hex_of s) x x
hex-no-room s x b h e f = rw (← hex-some s h) (laid-no-room (pairs s) x (2 * length s) b (pairs-long s) e f)

-- ---- a word read

and_no : (b : Bool) → b && false ≡ false
and_no true = refl
and_no false = refl

module _ (s o : List ℕ) where
  -- nothing is laid of a word that is not read
  not_read : is_hex s && leb (length s / 2) (length o) ≡ false → (None ≡ hex_read (length o) s) × (o ≡ over 0 (hex_laid (length o) s) o)
  unfolding hex_read hex_laid
  not_read e = (rw e, rw e (over_none 0 o))

  pub word-bad : is_hex s ≡ false → (None ≡ hex_read (length o) s) × (o ≡ over 0 (hex_laid (length o) s) o)
  word-bad e = not_read (rw e)

  pub word-large : length o < length s / 2 → (None ≡ hex_read (length o) s) × (o ≡ over 0 (hex_laid (length o) s) o)
  word-large h = not_read (rw (lt-leb (length s / 2) (length o) h) (and_no (is_hex s)))

  pub word_read : is_hex s ≡ true → length s / 2 ≤ length o → (p : List ℕ) → p ≡ over 0 (bytes_of s) o
      → (Some (length s / 2) ≡ hex_read (length o) s) × (p ≡ over 0 (hex_laid (length o) s) o)
  unfolding hex_read hex_laid
  word_read e h p f = (rw (e, le-leb (length s / 2) (length o) h), rw (e, le-leb (length s / 2) (length o) h) f)
