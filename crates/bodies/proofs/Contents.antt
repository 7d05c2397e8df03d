-- What is counted in a content that fits. Assumes nothing.
use Rattle.std.specs.Prelude.{Option, Some, None}
use Prim.Native.Nat.{ℕ, ◌+◌, ◌-◌, ◌≤◌}
use native.Mathlib.Omega.{arith}
use mathlib.Core.Path.{◌≡◌, refl, sym, ap, ◌∙◌}
use mathlib.Core.Bool.{true, false}
use mathlib.Core.List.{List, [], ◌∷◌, ◌++◌}
use borrow.Author.Tests.{le-leb, eqb-true}
use lib.Dec.{eqb}
use lib.ListN.{length, take, drop, length-drop, take-append-drop}
use Rattle.laws.proofs.Bools.{and_l, and_r}
use Rattle.laws.proofs.Lists.{five-of}
use Rattle.objects.specs.Objects.{content, objects, objects_at, objects_of, within, plus, found_in, header_of, tag_of, len_of}
use Rattle.objects.proofs.Counts.{plus-within, kept-count}
use Rattle.objects.proofs.Chain.{flat-counts}
use Rattle.strings.specs.Bytes.{eqbs}
use Rattle.rights.specs.Rights.{is_rights, template}
use Rattle.strings.proofs.Strings.{eqbs-true}
use Rattle.bodies.specs.Body.{mechanism, is_public_key, key_objects}

two-objects : (depth a b c d e : ℕ) → objects depth (template ++ (a ∷ b ∷ c ∷ d ∷ e ∷ [])) ≡ Some 2
unfolding objects objects_of header_of tag_of len_of
two-objects depth a b c d e = refl

-- rights that fit hold two objects, at any depth
pub rights-count : (d : ℕ) (s : List ℕ) → is_rights s ≡ true → objects d s ≡ Some 2
unfolding is_rights
rights-count d s h =
    let n = eqb-true (length s) 18 (and_l (eqb (length s) 18) _ h) in
    let l : length (drop 13 s) ≡ 5 = simp length-drop (omega arith) in
    let p = eqbs-true (take 13 s) template (and_r (eqb (length s) 18) _ h) in
    rw (← take-append-drop 13 s, p, five-of (drop 13 s) l) (two-objects d _ _ _ _ _)

-- ---- a key

key-found : (r : List ℕ) → found_in 6 false (mechanism ++ r) ≡ content 2 12
unfolding found_in header_of tag_of len_of
key-found r = let h : 12 ≤ length (mechanism ++ r) = omega arith in simp (le-leb 12 (length (mechanism ++ r)) h)

-- what starts with the mechanism holds one object, and those after it
key_counts : (s : List ℕ) → eqbs (take 12 s) mechanism ≡ true → objects_at 3 s ≡ plus 1 (objects_at 3 (drop 12 s))
key_counts s h =
    let e : mechanism ++ drop 12 s ≡ s = ap (λ (l : List ℕ). l ++ drop 12 s) (sym (eqbs-true (take 12 s) mechanism h)) ∙ take-append-drop 12 s in
    flat-counts 5 s 6 (record { start = 2; end = 12 }) (ap (found_in 6 false) (sym e) ∙ key-found (drop 12 s))

module _ (left : ℕ) (s : List ℕ) where
  pub key-other : eqbs (take 12 s) mechanism ≡ false → None ≡ key_objects left s
  unfolding key_objects is_public_key
  key-other e = rw e

  module _ (some : 1 ≤ left) (e : eqbs (take 12 s) mechanism ≡ true) (r : List ℕ) (is : r ≡ drop 12 s) where
    key-are : key_objects left s ≡ plus 1 (within (left - 1) (objects_at 3 r))
    unfolding key_objects is_public_key
    key-are = rw (e, key_counts s e, is) (plus-within left 1 (objects_at 3 (drop 12 s)) some)

    module _ {w : Option ℕ} (v : w ≡ within (left - 1) (objects_at 3 r)) where
      pub key-refused : w ≡ None → None ≡ key_objects left s
      key-refused p = sym (key-are ∙ ap (plus 1) (sym v ∙ p))

      pub key-read : (n : ℕ) → w ≡ Some n → Some (n + 1) ≡ key_objects left s
      key-read n p = let q : n + 1 ≡ 1 + n = omega arith in rw q (sym (key-are ∙ ap (plus 1) (sym v ∙ p)))

      pub key-count : (n : ℕ) → w ≡ Some n → n ≤ left - 1
      key-count n p = kept-count (left - 1) (objects_at 3 r) n (sym v ∙ p)
