-- A byte that is looked for, and what stands before it. Assumes nothing.
use Prim.Native.Nat.{ℕ, suc, ◌+◌, ◌-◌, ◌≤◌, ◌<◌, min}
use mathlib.Core.Path.{◌≡◌, refl, ◌∙◌}
use mathlib.Core.Bool.{Bool, true, false, cond}
use mathlib.Core.List.{List, [], ◌∷◌}
use native.Mathlib.Nat.{add-zero}
use native.Mathlib.Numerals.{one-add}
use native.Mathlib.Omega.{arith}
use lib.Dec.{eqb, leb, ltb}
use lib.ListN.{length, take, drop, get_or, length-drop}
use lib.Seq.{take-length, drop-cons}
use borrow.Author.Tests.{le-leb, eq-eqb, leb-true, leb-false, ltb-false}
use Rattle.std.specs.Prelude.{Option, unwrap_or}
use Rattle.std.specs.List.{position, position_or_len}
use Rattle.std.proofs.lemmas.List.Recursion.{is_position_or_len}
use Rattle.text.specs.Find.{before, place_of}

-- no more bytes stand before it than there are
before-in : (b : ℕ) (s : List ℕ) → before b s ≤ length s
before-in b [] = omega arith
before-in b (c ∷ s) = go (before-in b s) (eqb c b)
  where
    go : before b s ≤ length s → (t : Bool) → cond t 0 (suc (before b s)) ≤ suc (length s)
    go h true = omega arith
    go h false = omega arith

-- how many bytes stand before the first b, in the library's words
before-first : (b : ℕ) (s : List ℕ) → before b s ≡ position_or_len (λ c. eqb c b) s
before-first b = is_position_or_len (before b) (λ c. eqb c b) refl (λ c s. rw (one-add (before b s)))

-- it is the position, or the length
pub position_is : (b : ℕ) (s : List ℕ) (r : Option ℕ) → r ≡ position (λ c. eqb c b) s → unwrap_or r (length s) ≡ before b s
position_is b s r e = rw (before-first b s, e) (go (ltb (position_or_len (λ c. eqb c b) s) (length s)) refl)
  where
    go : (t : Bool) → ltb (position_or_len (λ c. eqb c b) s) (length s) ≡ t → unwrap_or (position (λ c. eqb c b) s) (length s) ≡ position_or_len (λ c. eqb c b) s
    go true q = rw q
    go false q = let k = ltb-false (position_or_len (λ c. eqb c b) s) (length s) q in rw q (omega (arith, before-in b s, before-first b s))

-- as far on from a place as bytes stand before the next one
pub found : (s : List ℕ) (from b m n : ℕ) → m ≡ min from (length s) → n ≡ before b (take (length s - m) (drop m s)) → m + n ≡ place_of s from b
unfolding place_of
found s from b m n e f = go (leb from (length s)) refl
  where
    rest : n ≡ before b (drop m s)
    rest = f ∙ rw (← length-drop m s, take-length (drop m s))

    go : (t : Bool) → leb from (length s) ≡ t → m + n ≡ cond (leb from (length s)) (from + before b (drop from s)) (length s)
    go true q = let k = leb-true from (length s) q in let d : m ≡ from = omega arith in rw (q, rest, d)
    go false q = let k = leb-false from (length s) q in rw q (omega (arith, rest, before-in b (drop m s), length-drop m s))

pub find_at : (s : List ℕ) (i b : ℕ) → i < length s → get_or s i 0 ≡ b → place_of s i b ≡ i
unfolding place_of
find_at s i b h e = rw (le-leb i (length s) (omega arith), drop-cons s i 0 h, eq-eqb (get_or s i 0) b e) (add-zero i)

module _ (s : List ℕ) (from b r : ℕ) (e : r ≡ place_of s from b) where
  pub place_in : r ≤ length s
  unfolding place_of
  place_in = rw e (go (leb from (length s)) refl)
    where
      go : (t : Bool) → leb from (length s) ≡ t → cond (leb from (length s)) (from + before b (drop from s)) (length s) ≤ length s
      go true q = let k = leb-true from (length s) q in rw q (omega (arith, before-in b (drop from s), length-drop from s))
      go false q = rw q (omega arith)

  pub place-from : from ≤ length s → from ≤ r
  unfolding place_of
  place-from h = rw (e, le-leb from (length s) h) (omega arith)

-- ---- a string taken a line at a time: from a place in it to the next b, then past that

module _ (s : List ℕ) (i b e : ℕ) (h : i < length s) (f : e ≡ place_of s i b) where
  pub line-from : i ≤ e
  line-from = place-from s i b e f (omega arith)

  pub past-less : (r : ℕ) → r ≡ min (e + 1) (length s) → length s - r < length s - i
  past-less r g = omega (arith, line-from)
