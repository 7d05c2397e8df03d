-- What was written is read, and what is read was written so: encoder and reader of a header are inverse to each other. Assumes nothing.
use Prim.Native.Nat.{ℕ, zero, suc, ◌+◌, ◌-◌, ◌*◌, ◌/◌, ◌%◌, ◌<◌, ◌≤◌}
use native.Mathlib.Nat.{div-add-mod'}
use native.Mathlib.Omega.{arith}
use mathlib.Core.Path.{◌≡◌, refl, sym, ap, subst, ◌∙◌}
use mathlib.Core.List.{List, [], ◌∷◌, ◌++◌, append_assoc}
use mathlib.Core.Bool.{Bool, true, false, cond, not, ◌&&◌}
use Rattle.std.specs.Prelude.{Option, Some, None}
use lib.Dec.{leb, ltb, eqb}
use lib.ListN.{length, drop, length-append, take-append-drop}
use lib.Seq.{drop-drop, drop-append_seam}
use borrow.Author.Tests.{ltb-true, ltb-false, leb-true, eqb-true, le-leb, lt-ltb, le-ltb, not-true}
use Rattle.laws.proofs.Bools.{and_l, and_r}
use Rattle.objects.specs.Objects.{label, extent, header as head, nest_bit, tag_of, second_tag_byte, len_of, length_after_81, length_after_82, placed, labelled, header_of, part}
use Rattle.objects.specs.declared.Label.{Label}
use Rattle.objects.specs.declared.Extent.{Extent}
use Rattle.objects.specs.declared.Header.{Header}
use Rattle.objects.proofs.Sizes.{part_length}
use Rattle.headers.specs.Encode.{Bytes, none, more, tag_bytes, is_tag, nests, length_bytes, longest_content, header, object}

-- ---- what was written is read

tag_read : (t : ℕ) (s : List ℕ) → is_tag t ≡ true → tag_of (tag_bytes t ++ s) ≡ label t (nests t) (length (tag_bytes t))
unfolding tag_of second_tag_byte tag_bytes is_tag nests
tag_read t s h = go (ltb t 256) h
  where
    go : (b : Bool) → cond b (not (eqb (t % 0x20) 0x1F)) (ltb t 65536 && (eqb (t / 256 % 0x20) 0x1F && (leb 0x1F (t % 256) && leb (t % 256) 0x7F))) ≡ true
        → tag_of (cond b (t ∷ []) (t / 256 ∷ t % 256 ∷ []) ++ s) ≡ label t (cond b (nest_bit t) (nest_bit (t / 256))) (length (cond b (t ∷ []) (t / 256 ∷ t % 256 ∷ [])))
    go true q = rw (not-true (eqb (t % 0x20) 0x1F) q)
    go false q =
        let r = and_r (ltb t 65536) _ q in
        rw (and_l (eqb (t / 256 % 0x20) 0x1F) _ r, and_r (eqb (t / 256 % 0x20) 0x1F) _ r, div-add-mod' t 256)

len_read : (n : ℕ) (s : List ℕ) → n ≤ longest_content → len_of (length_bytes n ++ s) ≡ extent n (length (length_bytes n))
unfolding len_of length_after_81 length_after_82 length_bytes
len_read n s h = go (ltb n 128) (ltb n 256) refl refl
  where
    go : (b c : Bool) → ltb n 128 ≡ b → ltb n 256 ≡ c
        → len_of (cond b (n ∷ []) (cond c (0x81 ∷ n ∷ []) (0x82 ∷ n / 256 ∷ n % 256 ∷ [])) ++ s) ≡ extent n (length (cond b (n ∷ []) (cond c (0x81 ∷ n ∷ []) (0x82 ∷ n / 256 ∷ n % 256 ∷ []))))
    go true c p q = rw p
    go false true p q = rw (le-leb 128 n (ltb-false n 128 p))
    go false false p q = rw (div-add-mod' n 256, le-leb 256 n (ltb-false n 256 q))

tag-size : (t : ℕ) (s : List ℕ) → drop (length (tag_bytes t)) (tag_bytes t ++ s) ≡ s
tag-size t s = drop-append_seam (tag_bytes t) s

header_read : (t n : ℕ) (s : List ℕ) → is_tag t ≡ true → n ≤ longest_content → n ≤ length s
    → header_of (header t n ++ s) ≡ head t (nests t) (length (header t n)) (length (header t n) + n)
unfolding header_of header
header_read t n s h k l =
    let f = length-append (tag_bytes t) (length_bytes n) in
    let z = length-append (tag_bytes t) (length_bytes n ++ s) in
    let y = length-append (length_bytes n) s in
    let i : length (tag_bytes t) + length (length_bytes n) + n ≤ length (tag_bytes t ++ (length_bytes n ++ s)) = omega arith in
    rw (append_assoc (tag_bytes t) (length_bytes n) s, tag_read t (length_bytes n ++ s) h, tag-size t (length_bytes n ++ s), len_read n s k, le-leb _ _ i, f)

-- ---- what is read was written: a header has one encoding

-- by cases on a test, with what it says
of-case : {A : Type 0} (P : A → Type 0) (b : Bool) {x y : A} → (b ≡ true → P x) → (b ≡ false → P y) → P (cond b x y)
of-case P true p q = p refl
of-case P false p q = q refl

data Tagged (s : List ℕ) : Option Label → Type 0 where
  no-tag : Tagged s None
  tag-of : {t k : ℕ} {b : Bool} → is_tag t ≡ true → b ≡ nests t → k ≡ length (tag_bytes t) → s ≡ tag_bytes t ++ drop k s → Tagged s (label t b k)

data Sized (s : List ℕ) : Option Extent → Type 0 where
  no-len : Sized s None
  len-of : {l k : ℕ} → l ≤ longest_content → k ≡ length (length_bytes l) → s ≡ length_bytes l ++ drop k s → Sized s (extent l k)

one_byte : (a : ℕ) (s : List ℕ) → a < 256 → eqb (a % 0x20) 0x1F ≡ false → Tagged (a ∷ s) (label a (nest_bit a) 1)
unfolding tag_bytes is_tag nests
one_byte a s h q = let z = lt-ltb a 256 h in tag-of {t = a} {k = 1} {b = nest_bit a} (rw (z, q)) (rw z) (rw z) (rw z)

two_bytes : (a b : ℕ) (s : List ℕ) → a < 256 → b < 256 → eqb (a % 0x20) 0x1F ≡ true → leb 0x1F b && leb b 0x7F ≡ true → Tagged (a ∷ b ∷ s) (label (a * 256 + b) (nest_bit a) 2)
unfolding tag_bytes is_tag nests
two_bytes a b s h k q r =
    let i = eqb-true (a % 0x20) 0x1F q in
    let z = le-ltb (a * 256 + b) 256 (omega arith) in
    let y = lt-ltb (a * 256 + b) 65536 (omega arith) in
    let d : (a * 256 + b) / 256 ≡ a = omega arith in
    let m : (a * 256 + b) % 256 ≡ b = omega arith in
    tag-of {t = a * 256 + b} {k = 2} {b = nest_bit a} (rw (z, y, d, m, q, r)) (rw (z, d)) (rw z) (rw (z, d, m))

tag_is : (s : List ℕ) → Bytes s → Tagged s (tag_of s)
unfolding tag_of second_tag_byte
tag_is [] none = no-tag
tag_is (a ∷ []) (more h r) = of-case (Tagged (a ∷ [])) (eqb (a % 0x20) 0x1F) (λ q. no-tag) (one_byte a [] h)
tag_is (a ∷ b ∷ s) (more h (more k r)) =
    of-case (Tagged (a ∷ b ∷ s)) (eqb (a % 0x20) 0x1F)
    (λ q. of-case (Tagged (a ∷ b ∷ s)) (leb 0x1F b && leb b 0x7F) (two_bytes a b s h k q) (λ e. no-tag)) (one_byte a (b ∷ s) h)

len-1 : (a : ℕ) (s : List ℕ) → ltb a 128 ≡ true → Sized (a ∷ s) (extent a 1)
unfolding length_bytes
len-1 a s q = let l = ltb-true a 128 q in len-of {l = a} {k = 1} (omega arith) (rw q) (rw q)

len-2 : (a b : ℕ) (s : List ℕ) → b < 256 → eqb a 0x81 ≡ true → leb 128 b ≡ true → Sized (a ∷ b ∷ s) (extent b 2)
unfolding length_bytes
len-2 a b s h q r =
    let l = leb-true 128 b r in
    let i = le-ltb b 128 l in
    let j = lt-ltb b 256 h in
    len-of {l = b} {k = 2} (omega arith) (rw (i, j)) (rw (i, j, eqb-true a 0x81 q))

len-3 : (a b c : ℕ) (s : List ℕ) → b < 256 → c < 256 → eqb a 0x82 ≡ true → leb 256 (b * 256 + c) ≡ true → Sized (a ∷ b ∷ c ∷ s) (extent (b * 256 + c) 3)
unfolding length_bytes
len-3 a b c s h k q r =
    let l = leb-true 256 (b * 256 + c) r in
    let i = le-ltb (b * 256 + c) 128 (omega arith) in
    let j = le-ltb (b * 256 + c) 256 l in
    let d : (b * 256 + c) / 256 ≡ b = omega arith in
    let m : (b * 256 + c) % 256 ≡ c = omega arith in
    len-of {l = b * 256 + c} {k = 3} (omega arith) (rw (i, j)) (rw (i, j, d, m, eqb-true a 0x82 q))

len_is : (s : List ℕ) → Bytes s → Sized s (len_of s)
unfolding len_of length_after_81 length_after_82
len_is [] none = no-len
len_is (a ∷ []) (more h r) =
    of-case (Sized (a ∷ [])) (ltb a 128) (len-1 a [])
    (λ p. of-case (Sized (a ∷ [])) (eqb a 0x81) (λ q. no-len) (λ q. of-case (Sized (a ∷ [])) (eqb a 0x82) (λ e. no-len) (λ e. no-len)))
len_is (a ∷ b ∷ []) (more h (more k r)) =
    of-case (Sized (a ∷ b ∷ [])) (ltb a 128) (len-1 a (b ∷ []))
    (λ p. of-case (Sized (a ∷ b ∷ [])) (eqb a 0x81)
    (λ q. of-case (Sized (a ∷ b ∷ [])) (leb 128 b) (len-2 a b [] k q) (λ e. no-len))
    (λ q. of-case (Sized (a ∷ b ∷ [])) (eqb a 0x82) (λ e. no-len) (λ e. no-len)))
len_is (a ∷ b ∷ c ∷ s) (more h (more k (more l r))) =
    of-case (Sized (a ∷ b ∷ c ∷ s)) (ltb a 128) (len-1 a (b ∷ c ∷ s))
    (λ p. of-case (Sized (a ∷ b ∷ c ∷ s)) (eqb a 0x81)
    (λ q. of-case (Sized (a ∷ b ∷ c ∷ s)) (leb 128 b) (len-2 a b (c ∷ s) k q) (λ e. no-len))
    (λ q. of-case (Sized (a ∷ b ∷ c ∷ s)) (eqb a 0x82)
    (λ e. of-case (Sized (a ∷ b ∷ c ∷ s)) (leb 256 (b * 256 + c)) (len-3 a b c s k l e) (λ f. no-len)) (λ e. no-len)))

bytes_drop : (n : ℕ) {s : List ℕ} → Bytes s → Bytes (drop n s)
bytes_drop zero h = h
bytes_drop (suc n) none = none
bytes_drop (suc n) (more b h) = bytes_drop n h

-- what a header says, and that it is the encoding of that
data Headed (s : List ℕ) : Option Header → Type 0 where
  no_header : Headed s None
  header_of_lem : {t a e : ℕ} {b : Bool} (n : ℕ) → is_tag t ≡ true → b ≡ nests t → n ≤ longest_content → a ≡ length (header t n) → e ≡ a + n → e ≤ length s
      → s ≡ header t n ++ drop a s → Headed s (head t b a e)

joined : {s : List ℕ} (t k n m : ℕ) → s ≡ tag_bytes t ++ drop k s → drop k s ≡ length_bytes n ++ drop m (drop k s) → s ≡ header t n ++ drop (k + m) s
unfolding header
joined {s} t k n m p q = p ∙ ap (λ (l : List ℕ). tag_bytes t ++ l) q ∙ rw (append_assoc (tag_bytes t) (length_bytes n) (drop (k + m) s), drop-drop m k s)

placed-is : {s : List ℕ} (t k : ℕ) (b : Bool) (x : Option Extent) → is_tag t ≡ true → b ≡ nests t → k ≡ length (tag_bytes t) → s ≡ tag_bytes t ++ drop k s
    → Sized (drop k s) x → Headed s (placed t b k x s)
unfolding header
placed-is {s} t k b None h i j f l = no_header
placed-is {s} t k b (Some x) h i j f (len-of {l = n} {k = m} p q g) =
    of-case (Headed s) (leb (k + m + n) (length s))
    (λ r. let z = length-append (tag_bytes t) (length_bytes n) in header_of_lem {t = t} {a = k + m} {e = k + m + n} {b = b} n h i p (omega arith) refl (leb-true (k + m + n) (length s) r) (joined t k n m f g)) (λ r. no_header)

header_is : {s : List ℕ} → Bytes s → Headed s (header_of s)
unfolding header_of
header_is {s} h = go (tag_of s) (tag_is s h)
  where
    go : (l : Option Label) → Tagged s l → Headed s (labelled l s)
    go None i = no_header
    go (Some l) (tag-of p q r f) = placed-is l.tag l.size l.nests (len_of (drop l.size s)) p q r f (len_is (drop l.size s) (bytes_drop l.size h))

-- ---- the two laws

-- an object that was written is read as its tag, its kind and its place, whatever follows it
pub object-reads : (tag : ℕ) (c rest : List ℕ) → is_tag tag ≡ true → length c ≤ longest_content
    → header_of (object tag c ++ rest) ≡ head tag (nests tag) (length (header tag (length c))) (length (object tag c))
unfolding object
object-reads t c rest h l =
    let f = length-append c rest in
    rw (append_assoc (header t (length c)) c rest, header_read t (length c) (c ++ rest) h l (omega arith), length-append (header t (length c)) c)

-- a header that reads is the encoding of what it says: of no tag and content are there two
pub record ObjectIs (s : List ℕ) (tag : ℕ) (nest : Bool) (a e : ℕ) : Type 0 where
  pub tagged : is_tag tag ≡ true
  pub kind : nest ≡ nests tag
  pub short : length (part a e s) ≤ longest_content
  pub start : a ≡ length (header tag (length (part a e s)))
  pub end : e ≡ length (object tag (part a e s))
  pub is : s ≡ object tag (part a e s) ++ drop e s

pub objects-are : (s : List ℕ) (tag a e : ℕ) (nest : Bool) → Bytes s → header_of s ≡ head tag nest a e → ObjectIs s tag nest a e
unfolding object
objects-are s t a e b y p = go (subst (Headed s) p (header_is y))
  where
    go : Headed s (head t b a e) → ObjectIs s t b a e
    go (header_of_lem n h i l x q z f) =
        let d : e - a ≡ n = omega arith in
        let m : length (part a e s) ≡ n = part_length a e s (omega arith) z ∙ d in
        let j = length-append (header t n) (part a e s) in
        let r : drop e s ≡ drop n (drop a s) = rw (drop-drop n a s, q) in
        record {
          tagged = h;
          kind = i;
          short = omega arith;
          start = rw m x;
          end = rw m (omega arith);
          is = f ∙ ap (λ (v : List ℕ). header t n ++ v) (sym (take-append-drop n (drop a s))) ∙ rw (m, append_assoc (header t n) (part a e s) (drop e s), d, r);
        }
