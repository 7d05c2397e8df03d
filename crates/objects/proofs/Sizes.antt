-- What holds of every answer of the definitions: a tag, a length and a content lie in the bytes that they were read from.
-- Assumes nothing.
use Rattle.std.specs.Prelude.{Option, Some, None}
use Prim.Native.Nat.{ℕ, suc, ◌+◌, ◌-◌, ◌*◌, ◌%◌, ◌<◌, ◌≤◌}
use mathlib.Core.Path.{◌≡◌, refl, subst}
use mathlib.Core.List.{List, [], ◌∷◌}
use mathlib.Core.Bool.{Bool, true, false, cond, ◌&&◌}
use lib.Dec.{leb, ltb, eqb}
use native.Mathlib.Omega.{arith}
use lib.ListN.{length, drop, length-drop}
use lib.Seq.{length-take-le}
use borrow.Author.Tests.{leb-true, eqb-true}
use Rattle.laws.proofs.Bools.{of-both, true-false}
use Rattle.objects.specs.Objects.{header, content, tag_of, second_tag_byte, len_of, length_after_81, length_after_82, header_of, labelled, placed, object_by, closed, part, found_in, tagged, alike}
use Rattle.objects.specs.declared.Label.{Label}
use Rattle.objects.specs.declared.Extent.{Extent}
use Rattle.objects.specs.declared.Header.{Header}
use Rattle.objects.specs.declared.Object.{Object}
use Rattle.objects.specs.declared.Content.{Content}

-- a size of one byte or more, and at most n
pub data TagIn (n : ℕ) : Option Label → Type 0 where
  no-tag : TagIn n None
  tag-of : {l : Label} → 0 < l.size → l.size ≤ n → TagIn n (Some l)

pub data LenIn (n : ℕ) : Option Extent → Type 0 where
  no-len : LenIn n None
  len-of : {l : Extent} → 0 < l.size → l.size ≤ n → LenIn n (Some l)

pub tag-sizes : {n : ℕ} {l : Label} → TagIn n (Some l) → (0 < l.size) × (l.size ≤ n)
tag-sizes (tag-of p q) = (p, q)

pub len-sizes : {n : ℕ} {l : Extent} → LenIn n (Some l) → (0 < l.size) × (l.size ≤ n)
len-sizes (len-of p q) = (p, q)

second-in : (a : ℕ) (s : List ℕ) → TagIn (suc (length s)) (second_tag_byte a s)
unfolding second_tag_byte
second-in a [] = no-tag
second-in a (b ∷ s) = of-both (TagIn _) (leb 0x1F b && leb b 0x7F) (tag-of (omega arith) (omega arith)) no-tag

pub tag_in : (s : List ℕ) → TagIn (length s) (tag_of s)
unfolding tag_of
tag_in [] = no-tag
tag_in (a ∷ s) = of-both (TagIn _) (eqb (a % 0x20) 0x1F) (second-in a s) (tag-of (omega arith) (omega arith))

after-81-in : (s : List ℕ) → LenIn (suc (length s)) (length_after_81 s)
unfolding length_after_81
after-81-in [] = no-len
after-81-in (b ∷ s) = of-both (LenIn _) (leb 128 b) (len-of (omega arith) (omega arith)) no-len

after-82-in : (s : List ℕ) → LenIn (suc (length s)) (length_after_82 s)
unfolding length_after_82
after-82-in [] = no-len
after-82-in (b ∷ []) = no-len
after-82-in (b ∷ c ∷ s) = of-both (LenIn _) (leb 256 (b * 256 + c)) (len-of (omega arith) (omega arith)) no-len

pub len-in : (s : List ℕ) → LenIn (length s) (len_of s)
unfolding len_of
len-in [] = no-len
len-in (a ∷ s) =
    of-both (LenIn _) (ltb a 128) (len-of (omega arith) (omega arith))
    (of-both (LenIn _) (eqb a 0x81) (after-81-in s) (of-both (LenIn _) (eqb a 0x82) (after-82-in s) no-len))

-- a header of two bytes or more, and a content that ends within n
pub data HeadIn (n : ℕ) : Option Header → Type 0 where
  no_header : HeadIn n None
  header_of_lem : {h : Header} → 1 < h.start → h.start ≤ h.end → h.end ≤ n → HeadIn n (Some h)

pub head-sizes : {n : ℕ} {h : Header} → HeadIn n (Some h) → (1 < h.start) × (h.start ≤ h.end) × (h.end ≤ n)
head-sizes (header_of_lem p q r) = (p, q, r)

placed-in : (t k : ℕ) (b : Bool) (s : List ℕ) (x : Option Extent) {n : ℕ} → 0 < k → LenIn n x → HeadIn (length s) (placed t b k x s)
placed-in t k b s None h l = no_header
placed-in t k b s (Some x) h l = go (leb (k + x.size + x.len) (length s)) refl
  where
    go : (f : Bool) → leb (k + x.size + x.len) (length s) ≡ f → HeadIn (length s) (cond f (header t b (k + x.size) (k + x.size + x.len)) None)
    go true e = let p = len-sizes l in header_of_lem (omega arith) (omega arith) (leb-true _ _ e)
    go false e = no_header

pub header-in : (s : List ℕ) → HeadIn (length s) (header_of s)
unfolding header_of
header-in s = go (tag_of s) (tag_in s)
  where
    go : (l : Option Label) → TagIn (length s) l → HeadIn (length s) (labelled l s)
    go None h = no_header
    go (Some l) h = placed-in l.tag l.size l.nests s (len_of (drop l.size s)) (tag-sizes h).0 (len-in (drop l.size s))

-- an object of one byte or more and at most n, which counts
pub data OneIn (n : ℕ) : Option Object → Type 0 where
  no-object : OneIn n None
  object_of_lem : {o : Object} → 0 < o.count → 0 < o.end → o.end ≤ n → OneIn n (Some o)

pub one-sizes : {n : ℕ} {o : Object} → OneIn n (Some o) → (0 < o.count) × (0 < o.end) × (o.end ≤ n)
one-sizes (object_of_lem p q r) = (p, q, r)

closed_in : {n : ℕ} (e : ℕ) (c : Option ℕ) → 0 < e → e ≤ n → OneIn n (closed e c)
closed_in e None p q = no-object
closed_in e (Some m) p q = object_of_lem (omega arith) p q

pub object-in : (inner : ℕ → List ℕ → Option ℕ) (d : ℕ) (s : List ℕ) → OneIn (length s) (object_by inner d s (header_of s))
object-in inner d s = go (header_of s) (header-in s)
  where
    go : (h : Option Header) → HeadIn (length s) h → OneIn (length s) (object_by inner d s h)
    go None i = no-object
    go (Some h) i =
        let p : 0 < h.end = let z = head-sizes i in omega arith in
        let q = (head-sizes i).2 in
        of-both (OneIn (length s)) h.nests
        (of-both (OneIn (length s)) (eqb d 0) no-object (closed_in h.end (inner (d - 1) (part h.start h.end s)) p q))
        (object_of_lem (omega arith) p q)

-- ---- a part

pub part_length : (a e : ℕ) (s : List ℕ) → a ≤ e → e ≤ length s → length (part a e s) ≡ e - a
part_length a e s p q = length-take-le (e - a) (drop a s) (simp length-drop (omega arith))

-- ---- an object that was found is one with that header

pub found-header : (t : ℕ) (w : Bool) (s : List ℕ) (c : Content) → found_in t w s ≡ Some c → header_of s ≡ header t w c.start c.end
unfolding found_in
found-header t w s c p = go (header_of s) p
  where
    kind : (b v : Bool) (x y : ℕ) → cond (alike b v) (content x y) None ≡ Some c → (b ≡ v) × (x ≡ c.start) × (y ≡ c.end)
    kind true true x y q = (refl, cc, cc)
    kind false false x y q = (refl, cc, cc)
    kind true false x y q = true-false cc
    kind false true x y q = true-false cc

    tag : (u x y : ℕ) (b f : Bool) → eqb u t ≡ f → cond (f && alike b w) (content x y) None ≡ Some c → header u b x y ≡ header t w c.start c.end
    tag u x y b true i q = let k = kind b w x y q in let j = eqb-true u t i in cc
    tag u x y b false i q = true-false cc

    go : (h : Option Header) → tagged t w h ≡ Some c → h ≡ header t w c.start c.end
    go None q = true-false cc
    go (Some h) q = tag h.tag h.start h.end h.nests (eqb h.tag t) refl q

-- what a caller of `find` knows of an answer
pub found-sizes : (t : ℕ) (w : Bool) (s : List ℕ) (c : Content) → found_in t w s ≡ Some c → (1 < c.start) × (c.start ≤ c.end) × (c.end ≤ length s)
found-sizes t w s c p = head-sizes (subst (HeadIn (length s)) (found-header t w s c p) (header-in s))
