-- What follows the bytes of a header, an object or a readable list changes nothing of it.
-- Assumes nothing.
use Rattle.std.specs.Prelude.{Option, Some, None}
use Prim.Native.Nat.{ℕ, zero, suc, ◌+◌, ◌-◌, ◌%◌, ◌<◌, ◌≤◌}
use native.Mathlib.Nat.{add_assoc, zero-add}
use native.Mathlib.Omega.{arith}
use mathlib.Core.Path.{◌≡◌, refl, sym, ap, ◌∙◌}
use mathlib.Core.List.{List, [], ◌∷◌, ◌++◌}
use mathlib.Core.Bool.{Bool, true, false, cond}
use lib.Dec.{leb, ltb, eqb}
use lib.ListN.{length, drop, length-drop, length-append}
use lib.Seq.{take-append-le, drop-append-le}
use borrow.Author.Tests.{leb-true, le-leb}
use Rattle.objects.specs.Objects.{label, extent, header, nest_bit, tag_of, second_tag_byte, len_of, length_after_81, length_after_82, placed, labelled, header_of, part, object_by, plus, then_rest, objects, object}
use Rattle.objects.specs.declared.Label.{Label}
use Rattle.objects.specs.declared.Extent.{Extent}
use Rattle.objects.specs.declared.Header.{Header}
use Rattle.objects.specs.declared.Object.{Object}
use Rattle.laws.proofs.Bools.{true-false}
use Rattle.objects.proofs.Sizes.{TagIn, tag_in, tag-sizes, HeadIn, head-sizes, header-in, OneIn, one-sizes, object-in}
use Rattle.objects.proofs.Fuel.{objects-none, objects-some}

module _ (u : List ℕ) where
  -- ---- a header

  tag-append : (s : List ℕ) (l : Label) → tag_of s ≡ Some l → tag_of (s ++ u) ≡ tag_of s
  unfolding tag_of second_tag_byte
  tag-append [] l e = true-false cc
  tag-append (a ∷ []) l e = go (label a (nest_bit a) 1) (eqb (a % 0x20) 0x1F) e
    where
      go : (x : Option Label) (f : Bool) → cond f None x ≡ Some l → cond f (second_tag_byte a u) x ≡ cond f None x
      go x true q = true-false cc
      go x false q = refl
  tag-append (a ∷ c ∷ s) l e = refl

  len-append : (s : List ℕ) (l : Extent) → len_of s ≡ Some l → len_of (s ++ u) ≡ len_of s
  unfolding len_of length_after_81 length_after_82
  len-append [] l e = true-false cc
  len-append (a ∷ []) l e = go (extent a 1) (ltb a 128) (eqb a 0x81) (eqb a 0x82) e
    where
      go : (x : Option Extent) (f g h : Bool) → cond f x (cond g None (cond h None None)) ≡ Some l
          → cond f x (cond g (length_after_81 u) (cond h (length_after_82 u) None)) ≡ cond f x (cond g None (cond h None None))
      go x true g h q = refl
      go x false true h q = true-false cc
      go x false false true q = true-false cc
      go x false false false q = refl
  len-append (a ∷ b ∷ []) l e = go (extent a 1) (cond (leb 128 b) (extent b 2) None) (ltb a 128) (eqb a 0x81) (eqb a 0x82) e
    where
      go : (x y : Option Extent) (f g h : Bool) → cond f x (cond g y (cond h None None)) ≡ Some l
          → cond f x (cond g y (cond h (length_after_82 (b ∷ u)) None)) ≡ cond f x (cond g y (cond h None None))
      go x y true g h q = refl
      go x y false true h q = refl
      go x y false false true q = true-false cc
      go x y false false false q = refl
  len-append (a ∷ b ∷ c ∷ s) l e = refl

  -- a content that ends within s ends within s and more
  placed-append : (s : List ℕ) (t n : ℕ) (b : Bool) (l : Option Extent) (h : Header) → placed t b n l s ≡ Some h → placed t b n l (s ++ u) ≡ placed t b n l s
  placed-append s t n b None h e = refl
  placed-append s t n b (Some l) h e = go (leb (n + l.size + l.len) (length s)) refl e
    where
      go : (f : Bool) → leb (n + l.size + l.len) (length s) ≡ f → cond f (header t b (n + l.size) (n + l.size + l.len)) None ≡ Some h
          → placed t b n (Some l) (s ++ u) ≡ cond f (header t b (n + l.size) (n + l.size + l.len)) None
      go true q r =
          let h = leb-true (n + l.size + l.len) (length s) q in
          let k = length-append s u in
          rw (le-leb (n + l.size + l.len) (length (s ++ u)) (omega arith))
      go false q r = true-false cc

  header-append : (s : List ℕ) (h : Header) → header_of s ≡ Some h → header_of (s ++ u) ≡ Some h
  unfolding header_of
  header-append s h p = go (tag_of s) refl (tag_in s) p
    where
      long : (l : Label) (x : Option Extent) → len_of (drop l.size s) ≡ x → placed l.tag l.nests l.size x s ≡ Some h
          → placed l.tag l.nests l.size (len_of (drop l.size s ++ u)) (s ++ u) ≡ Some h
      long l None q r = true-false cc
      long l (Some x) q r = rw (len-append (drop l.size s) x q, q) (placed-append s l.tag l.size l.nests (Some x) h r ∙ r)

      go : (l : Option Label) → tag_of s ≡ l → TagIn (length s) l → labelled l s ≡ Some h → labelled (tag_of (s ++ u)) (s ++ u) ≡ Some h
      go None q i r = true-false cc
      go (Some l) q i r = rw (tag-append s l q, q, drop-append-le l.size s u (tag-sizes i).1) (long l (len_of (drop l.size s)) refl r)

  -- ---- an object

  part-append : (a e : ℕ) (s : List ℕ) → a ≤ e → e ≤ length s → part a e (s ++ u) ≡ part a e s
  part-append a e s p q = rw (drop-append-le a s u (omega arith)) (take-append-le (e - a) (drop a s) u (simp length-drop (omega arith)))

  object-append : (d : ℕ) (s : List ℕ) (o : Object) → object d s ≡ Some o → object d (s ++ u) ≡ Some o
  unfolding object
  object-append d s o p = go (header_of s) refl (header-in s) p
    where
      go : (h : Option Header) → header_of s ≡ h → HeadIn (length s) h → object_by objects d s h ≡ Some o → object_by objects d (s ++ u) (header_of (s ++ u)) ≡ Some o
      go None q i r = true-false cc
      go (Some h) q i r = let z = head-sizes i in rw (header-append s h q, part-append h.start h.end s z.1 z.2) r

-- ---- a list

object-whole : (d : ℕ) (s : List ℕ) → OneIn (length s) (object d s)
unfolding object
object-whole d s = object-in objects d s

plus-zero : (c : Option ℕ) → plus 0 c ≡ c
plus-zero None = refl
plus-zero (Some n) = ap Some (zero-add n)

plus-plus : (m n : ℕ) (c : Option ℕ) → plus m (plus n c) ≡ plus (m + n) c
plus-plus m n None = refl
plus-plus m n (Some k) = ap Some (sym (add_assoc m n k))

-- one object more in front
module _ (d x : ℕ) (s t : List ℕ)
    (shorter : (c : List ℕ) (j : ℕ) → length c ≤ length s → objects d c ≡ Some j → objects d (c ++ t) ≡ plus j (objects d t)) where
  rest-append : (o : Object) (n : ℕ) (c : Option ℕ) → objects d (drop o.end (x ∷ s)) ≡ c → object d (x ∷ s) ≡ Some o → 0 < o.end → o.end ≤ length (x ∷ s)
      → plus o.count c ≡ Some n → objects d (x ∷ (s ++ t)) ≡ plus n (objects d t)
  rest-append o n None q h p l r = true-false cc
  rest-append o n (Some j) q h p l r =
      let z : o.count + j ≡ n = cc in
      let g = length-drop o.end (x ∷ s) in
      rw (objects-some d (x ∷ (s ++ t)) (λ y. omega arith), object-append t d (x ∷ s) o h, drop-append-le o.end (x ∷ s) t l, shorter (drop o.end (x ∷ s)) j (omega arith) q, sym z)
      (plus-plus o.count j (objects d t))

  one-append : (n : ℕ) (o : Option Object) → object d (x ∷ s) ≡ o → OneIn (length (x ∷ s)) o → then_rest (objects d) (x ∷ s) o ≡ Some n
      → objects d (x ∷ (s ++ t)) ≡ plus n (objects d t)
  one-append n None q i r = true-false cc
  one-append n (Some o) q i r = let z = one-sizes i in rest-append o n (objects d (drop o.end (x ∷ s))) refl q z.1 z.2 r

-- by the length of the list in front
pub append-by : (k d : ℕ) (s t : List ℕ) (n : ℕ) → length s < k → objects d s ≡ Some n → objects d (s ++ t) ≡ plus n (objects d t)
append-by zero d s t n h e = absurd (omega arith)
append-by (suc k) d [] t n h e =
    let q : Some 0 ≡ Some n = sym (objects-none d [] refl) ∙ e in
    let z : 0 ≡ n = cc in
    rw (sym z) (sym (plus-zero (objects d t)))
append-by (suc k) d (x ∷ s) t n h e =
    one-append d x s t (λ c j l q. append-by k d c t j (omega arith) q) n (object d (x ∷ s)) refl (object-whole d (x ∷ s)) (sym (objects-some d (x ∷ s) (λ y. omega arith)) ∙ e)
