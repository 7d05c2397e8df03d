-- Names compared by eights: one place more of an eight, and two eights that leave nothing out. Assumes nothing.
use borrow.Author.Rules.{rules}
use Prim.Native.Nat.{ℕ, ◌+◌, ◌-◌, ◌<◌, ◌≤◌, min}
use native.Mathlib.Omega.{arith}
use native.Mathlib.Numerals.{add-one}
use mathlib.Core.Path.{◌≡◌, refl, sym, ap, ◌∙◌}
use mathlib.Core.Bool.{Bool, true, false, ◌&&◌, and-true, and_assoc}
use mathlib.Core.List.{List, ◌∷◌}
use lib.Dec.{eqb}
use lib.ListN.{length, take, drop, get_or, length-drop, drop_of_length-le}
use lib.Seq.{drop-cons, get_or-take, get_or-drop, take-take, take-add, drop_at, length-take-le}
use Rattle.laws.proofs.Bools.{and_l, and_r, both}
use Rattle.laws.proofs.Lists.{clip-long, take-clip}
use Rattle.strings.specs.Bytes.{eqbs}
use Rattle.strings.proofs.Strings.{same-lengths, eqbs-true, eqbs-refl}
use Rattle.names.specs.Names.{places, same_name}
use Rattle.names.specs.declared.Name.{Name}

-- ---- w places of a list from one on

module _ (w at : ℕ) (l : List ℕ) (h : at + w ≤ length l) where
  part-long : length (take w (drop at l)) ≡ w
  part-long = length-take-le w (drop at l) (simp length-drop (omega arith))

  part-one : (i : ℕ) → i < w → drop i (take w (drop at l)) ≡ get_or l (at + i) 0 ∷ drop (i + 1) (take w (drop at l))
  part-one i k =
      let n = part-long in
      rw (add-one i, drop-cons (take w (drop at l)) i 0 (omega arith), get_or-take w (drop at l) i 0 k, get_or-drop at l i 0)

-- what was found so far, and what is left to compare, come to one answer
module _ (w at : ℕ) (p q : List ℕ) (hp : at + w ≤ length p) (hq : at + w ≤ length q) (e : Bool) {r : Bool} (i : ℕ)
    (so : e && eqbs (drop i (take w (drop at p))) (drop i (take w (drop at q))) ≡ r) where
  pub place-on : i < w → e && eqb (get_or p (at + i) 0) (get_or q (at + i) 0) && eqbs (drop (i + 1) (take w (drop at p))) (drop (i + 1) (take w (drop at q))) ≡ r
  place-on k =
      and_assoc e (eqb (get_or p (at + i) 0) (get_or q (at + i) 0)) (eqbs (drop (i + 1) (take w (drop at p))) (drop (i + 1) (take w (drop at q))))
      ∙ (rw (part-one w at p hp i k, part-one w at q hq i k) at so)

  pub places-done : w ≤ i → e ≡ r
  places-done k =
      let m = part-long w at p hp in
      let n = part-long w at q hq in
      sym (and-true e) ∙ (rw (drop_of_length-le (take w (drop at p)) {i = i} (omega arith), drop_of_length-le (take w (drop at q)) {i = i} (omega arith)) at so)

-- ---- the first w bytes and the last w, of at most twice as many

agree : (a b : Bool) → (a ≡ true → b ≡ true) → (b ≡ true → a ≡ true) → a ≡ b
agree true true f g = refl
agree true false f g = sym (f refl)
agree false true f g = g refl
agree false false f g = refl

module _ (w k : ℕ) (p q : List ℕ) (h : k ≤ w) (lp : k ≤ length p) (lq : k ≤ length q) where
  rest : (l : List ℕ) → k ≤ length l → drop k (take (k + w) l) ≡ take w (drop k l)
  rest l n = rw (take-add k w l, drop_at (take k l) (take w (drop k l)) k (length-take-le k l n))

  apart : take (k + w) p ≡ take (k + w) q → eqbs (take w p) (take w q) && eqbs (take w (drop k p)) (take w (drop k q)) ≡ true
  apart e =
      let f : take w p ≡ take w q = sym (take-take w (k + w) p (omega arith)) ∙ ap (λ (l : List ℕ). take w l) e ∙ take-take w (k + w) q (omega arith) in
      let g : take w (drop k p) ≡ take w (drop k q) = sym (rest p lp) ∙ ap (λ (l : List ℕ). drop k l) e ∙ rest q lq in
      rw (f, g) (both (eqbs (take w q) (take w q)) (eqbs (take w (drop k q)) (take w (drop k q))) (eqbs-refl (take w q)) (eqbs-refl (take w (drop k q))))

  joined : take w p ≡ take w q → take w (drop k p) ≡ take w (drop k q) → take (k + w) p ≡ take (k + w) q
  joined f g =
      let e : take k p ≡ take k q = sym (take-take k w p h) ∙ ap (λ (l : List ℕ). take k l) f ∙ take-take k w q h in
      rw (take-add k w p, take-add k w q, e, g)

  overlapping : eqbs (take w p) (take w q) && eqbs (take w (drop k p)) (take w (drop k q)) ≡ eqbs (take (k + w) p) (take (k + w) q)
  overlapping =
      let a = eqbs (take w p) (take w q) in
      let b = eqbs (take w (drop k p)) (take w (drop k q)) in
      agree (a && b) (eqbs (take (k + w) p) (take (k + w) q))
      (λ e. rw (joined (eqbs-true (take w p) (take w q) (and_l a b e)) (eqbs-true (take w (drop k p)) (take w (drop k q)) (and_r a b e))) (eqbs-refl (take (k + w) q)))
      (λ e. apart (eqbs-true (take (k + w) p) (take (k + w) q) e))

-- so of m bytes the first w and the last w
by-ends : (w : ℕ) (p q : List ℕ) (m n : ℕ) → m ≡ n → w ≤ m → m ≤ w + w → m ≤ length p → m ≤ length q
    → eqbs (take w p) (take w q) && eqbs (take w (drop (m - w) p)) (take w (drop (m - w) q)) ≡ eqbs (take m p) (take n q)
by-ends w p q m n e k t lp lq =
    let z : m - w + w ≡ m = omega arith in
    overlapping w (m - w) p q (omega arith) (omega arith) (omega arith) ∙ rw (z, ← e)

-- ---- two stored names

pub same-clipped : (a b : Name) (m n : ℕ) (r : Bool) → length a.0.bytes ≡ places → length b.0.bytes ≡ places → m ≡ min a.0.len places → n ≡ min b.0.len places
    → r ≡ eqbs (take m a.0.bytes) (take n b.0.bytes) → r ≡ same_name a b
unfolding same_name
same-clipped a b m n r p q g h e = e ∙ rw (take-clip a.0.bytes places a.0.len m p g, take-clip b.0.bytes places b.0.len n q h)

module _ (a b : Name) (m n : ℕ) (p : length a.0.bytes ≡ places) (q : length b.0.bytes ≡ places) (g : m ≡ min a.0.len places) (h : n ≡ min b.0.len places) where
  pub other_length : (m ≡ n → ⊥) → false ≡ same_name a b
  other_length d =
      same-clipped a b m n false p q g h
      (same-lengths (take m a.0.bytes) (take n b.0.bytes) (λ e. d (clip-long a.0.bytes places a.0.len m p g ∙ e ∙ sym (clip-long b.0.bytes places b.0.len n q h))))

  pub both_ends : (f l : Bool) → m ≡ n → 8 ≤ m → f ≡ eqbs (take 8 a.0.bytes) (take 8 b.0.bytes) → l ≡ eqbs (take 8 (drop (m - 8) a.0.bytes)) (take 8 (drop (m - 8) b.0.bytes))
      → f && l ≡ same_name a b
  both_ends f l e k s t = same-clipped a b m n (f && l) p q g h (rw (s, t) (by-ends 8 a.0.bytes b.0.bytes m n e k (omega arith) (omega arith) (omega arith)))

-- a length is never another than itself: only a wrong program tests it (`must-fail/`)
pub never_other : (a b : Name) (k w n : ℕ) → n ≡ min k w → (n ≡ n → ⊥) → false ≡ same_name a b
never_other a b k w n e d = absurd (d refl)

pub ruleset compared = (same-clipped, other_length, both_ends, rules)
