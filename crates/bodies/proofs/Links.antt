-- The links of the chain: at each object, what the code knows when it hands the rest on, or gives up, and what the definition
-- then says. Each law is over plain values, for a search to fit. Assumes nothing.
use Rattle.std.specs.Prelude.{Option, Some, None, Result, Ok, Err, IsErr}
use borrow.Author.Rules.{rules}
use Prim.Native.Nat.{ℕ, ◌+◌, ◌-◌, ◌≤◌, ◌<◌}
use native.Mathlib.Nat.{add-zero}
use native.Mathlib.Omega.{arith}
use mathlib.Core.Path.{◌≡◌, refl, sym, ap, ◌∙◌}
use mathlib.Core.Bool.{Bool, true, false, cond, not, ◌&&◌}
use mathlib.Core.List.{List, [], ◌∷◌}
use borrow.Author.Tests.{eq-eqb, ne_eqb, eqb-true, eqb-false, le-leb}
use mir.Val.{Fits}
use mir.Syntax.{w64}
use lib.Dec.{eqb}
use lib.ListN.{length, drop, get_or, length-drop}
use Rattle.objects.specs.Objects.{allowance, deepest, part, objects_at, objects_in, within, found_in}
use Rattle.objects.specs.Chain.{answered, counted, taken, taken_by, any}
use Rattle.objects.specs.declared.Content.{Content}
use Rattle.laws.proofs.Lists.{from}
use Rattle.objects.proofs.Sizes.{found-sizes, part_length}
use Rattle.objects.proofs.Counts.{kept-objects}
use Rattle.objects.proofs.Fuel.{objects-none}
use Rattle.objects.proofs.Chain.{rest, answered-counted, found-start, found-end, counted-no, counted-over, flat-counts, taken_is, not_taken, not-fit, flat-taken, nest-taken, nest-refused}
use Rattle.strings.specs.Bytes.{eqbs, among}
use Rattle.names.specs.Names.{is_name, name_of}
use Rattle.days.specs.Days.{is_date, day_of, dated, before}
use Rattle.rights.specs.Rights.{is_rights, rights_of, granted}
use Rattle.bodies.specs.Body.{Reading, At, Took, TookBy, named, is_last_day, is_public_key, key_objects, is_signature, unread, read, no_place, Pending, ended, place_of, body_then, signature, body_of, signed_of, is_signed, signs_by, version_then, key_then, own_then, ext_then}
use Rattle.names.specs.declared.Name.{Name}
use Rattle.days.specs.declared.Day.{Day}
use Rattle.rights.specs.declared.Rights.{Rights}
use Rattle.bodies.specs.declared.Place.{Place}
use Rattle.bodies.specs.declared.Cursor.{Cursor}
use Rattle.bodies.specs.declared.Taken.{Taken}
use Rattle.status.specs.declared.Unfit.{Unfit}
use Rattle.laws.proofs.Bools.{true-false, and_r, picked-l, picked-r}

-- ---- giving up
pub err-unread : (r : Reading) → IsErr r → r ≡ unread
unfolding unread
err-unread (Err u) h = refl
err-unread (Ok b) h = true-false cc

pub took-none : (t : ℕ) (w : Bool) (at : Cursor) (r : Result Taken Unfit) → IsErr r → found_in t w at.left.now ≡ None → TookBy t w at r
took-none t w at (Err u) h n = n
took-none t w at (Ok o) h n = true-false cc

module _ (used : ℕ) (c : Option ℕ) (t : ℕ) (w : Bool) (at : Cursor) (fits : List ℕ → Bool) (k : List ℕ → ℕ → List ℕ → ℕ → Reading) where
  -- the object is not there
  pub missing : (r : Reading) → IsErr r → found_in t w at.left.now ≡ None → r ≡ counted unread used c (taken unread t w fits at.left.now k)
  missing r h n = err-unread r h ∙ sym (not_taken unread used (deepest - 2) at.left.now t fits k w c n)

  -- or does not fit
  pub unfit : (o : Taken) (r : Reading) → Took t w at o → fits o.content.now ≡ false → r ≡ unread → r ≡ counted unread used c (taken unread t w fits at.left.now k)
  unfit o r m h u = u ∙ sym (not-fit unread used (deepest - 2) at.left.now t fits k w c m.inside m.here (rw m.content at h))

-- ---- handing the rest on
module _ (t : ℕ) (at : Cursor) (fits : List ℕ → Bool) (k : List ℕ → ℕ → List ℕ → ℕ → Reading) (o : Taken) where
  pub flat-on : (m : Took t false at o) → fits o.content.now ≡ true
      → counted unread o.next.used (objects_at 2 o.next.left.now) (k o.content.now m.inside.end o.next.left.now) ≡ counted unread at.used (objects_at 2 at.left.now) (taken unread t false fits at.left.now k)
  flat-on m h =
      rw (m.used, m.left, m.content, ← from at.left.now m.inside.end)
      (sym (flat-taken unread at.used (deepest - 2) at.left.now t fits k m.inside m.here (rw m.content at h)))

  pub nest-on : (n : ℕ) (m : Took t true at o) → fits o.content.now ≡ true → objects_at 3 o.content.now ≡ Some n
      → counted unread (o.next.used + n) (objects_at 2 o.next.left.now) (k o.content.now m.inside.end o.next.left.now) ≡ counted unread at.used (objects_at 2 at.left.now) (taken unread t true fits at.left.now k)
  nest-on n m h e =
      let p : at.used + 1 + n ≡ at.used + (n + 1) = omega arith in
      rw (m.used, m.left, m.content, p, ← from at.left.now m.inside.end)
      (sym (nest-taken unread at.used (deepest - 2) at.left.now t fits k m.inside n (omega arith) m.here (rw m.content at h) (rw m.content at e)))

-- a name
pub name-holds : (c : List ℕ) (n : Name) → ◌≡◌ {A = Result Name Unfit} (Ok n) (named c) → (is_name c ≡ true) × (n ≡ name_of c)
name-holds c n e = go (is_name c) refl e
  where
    go : (b : Bool) → is_name c ≡ b → ◌≡◌ {A = Result Name Unfit} (Ok n) (cond b (Ok (name_of c)) (Err (record {}))) → (b ≡ true) × (n ≡ name_of c)
    go true h p = (refl, cc)
    go false h p = true-false cc

pub name-fails : (c : List ℕ) (u : Unfit) → ◌≡◌ {A = Result Name Unfit} (Err u) (named c) → is_name c ≡ false
name-fails c u e = go (is_name c) e
  where
    go : (b : Bool) → ◌≡◌ {A = Result Name Unfit} (Err u) (cond b (Ok (name_of c)) (Err (record {}))) → b ≡ false
    go true p = true-false cc
    go false p = refl

-- a cursor past the object
pub took-at : (t : ℕ) (w : Bool) (n : ℕ) (at : Cursor) (o : Taken) → Took t w at o → At n at → (length o.next.left.now ≤ o.next.stop) × (o.next.used ≤ n + 1)
took-at t w n at o k h =
    let l : length o.next.left.now ≤ length at.left.now = rw k.left (simp length-drop (omega arith)) in
    (omega (arith, l, h.0, k.stop), omega (arith, h.1, k.used))

-- 5F29
pub zero-is : (c : List ℕ) → length c ≡ 1 → get_or c 0 0 ≡ 0 → eqbs c (0 ∷ []) ≡ true
zero-is [] l z = absurd (omega arith)
zero-is (a ∷ []) l z = rw z
zero-is (a ∷ b ∷ c) l z = absurd (omega arith)

pub zero-none : (c : List ℕ) → length c < 1 → eqbs c (0 ∷ []) ≡ false
zero-none [] l = refl
zero-none (a ∷ c) l = absurd (omega arith)

pub zero-more : (c : List ℕ) → 2 ≤ length c → eqbs c (0 ∷ []) ≡ false
zero-more [] l = absurd (omega arith)
zero-more (a ∷ []) l = absurd (omega arith)
zero-more (a ∷ b ∷ c) l = go (eqb a 0)
  where
    go : (t : Bool) → t && eqbs (b ∷ c) [] ≡ false
    go true = refl
    go false = refl

pub zero-other : (c : List ℕ) → 1 ≤ length c → (get_or c 0 0 ≡ 0 → ⊥) → eqbs c (0 ∷ []) ≡ false
zero-other [] l n = absurd (omega arith)
zero-other (a ∷ c) l n = rw (ne_eqb a 0 n)

pub ruleset zeros = (zero-none, zero-more, zero-other)

-- 7F49
pub key-holds : (left : ℕ) (c : List ℕ) (n : ℕ) → key_objects left c ≡ Some n → (is_public_key c ≡ true) × (objects_at 3 c ≡ Some n) × (n ≤ left)
unfolding key_objects
key-holds left c n e =
    let p = picked-l (is_public_key c) e (λ q. true-false cc) in
    let k = kept-objects left (objects_at 3 c) n p.1 in
    (p.0, k.0, k.1)

-- what a key's objects leave, and that the sum fits
pub key-room : (w : Option ℕ) (used : ℕ) (c : List ℕ) (n : ℕ) → w ≡ key_objects (allowance - 1 - used) c → w ≡ Some n → used ≤ 4 → used + 1 + n ≤ allowance
key-room w used c n v r l = omega (arith, (key-holds (allowance - 1 - used) c n (sym v ∙ r)).2)

pub key_fits_lem : (w : Option ℕ) (used : ℕ) (c : List ℕ) (n : ℕ) → w ≡ key_objects (allowance - 1 - used) c → w ≡ Some n → used ≤ 4 → Fits w64 (used + 1 + n)
key_fits_lem w used c n v r l = let h = key-room w used c n v r l in record { fits = omega arith }

pub key-off : (at : Cursor) (issuer : Name) (o : Taken) (r : Reading) → Took 0x7F49 true at o → at.used ≤ 4 → key_objects (allowance - 1 - at.used) o.content.now ≡ None → r ≡ unread
    → r ≡ counted unread at.used (objects_at 2 at.left.now) (key_then at.stop issuer at.left.now)
unfolding key_then key_objects
key-off at issuer o r m h e u = u ∙ sym (go (is_public_key o.content.now) refl e)
  where
    go : (b : Bool) → is_public_key o.content.now ≡ b → cond b (within (allowance - 1 - at.used) (objects_at 3 o.content.now)) None ≡ None
        → counted unread at.used (objects_at 2 at.left.now) (key_then at.stop issuer at.left.now) ≡ unread
    go true q j = nest-refused unread at.used (deepest - 2) at.left.now 0x7F49 m.inside (allowance - 1 - at.used) (key_then at.stop issuer at.left.now) (omega arith) m.here (omega arith) (rw m.content at j)
    go false q j = not-fit unread at.used (deepest - 2) at.left.now 0x7F49 is_public_key (λ c e. own_then at.stop issuer (place_of at.stop at.left.now e)) true (objects_at 2 at.left.now) m.inside m.here (rw m.content at q)

-- 7F4C
pub rights-hold : (c : List ℕ) (r : Rights) → granted c ≡ Some r → (is_rights c ≡ true) × (r ≡ record { 0 = rights_of c })
unfolding granted
rights-hold c r e =
    let p = picked-l (is_rights c) e (λ q. true-false cc) in
    let k = p.1 in
    (p.0, cc)

pub rights-fail : (c : List ℕ) → granted c ≡ None → is_rights c ≡ false
unfolding granted
rights-fail c e = (picked-r (is_rights c) e (λ q. true-false cc)).0

-- 5F25 and 5F24
pub day-holds : (c : List ℕ) (d : Day) → dated c ≡ Some d → (is_date c ≡ true) × (d ≡ record { 0 = day_of c })
unfolding dated
day-holds c d e =
    let p = picked-l (is_date c) e (λ q. true-false cc) in
    let k = p.1 in
    (p.0, cc)

pub day-fails : (c : List ℕ) → dated c ≡ None → is_date c ≡ false
unfolding dated
day-fails c e = (picked-r (is_date c) e (λ q. true-false cc)).0

pub in_order : (first d : Day) (c : List ℕ) (b : Bool) → dated c ≡ Some d → before d first ≡ b → is_last_day first c ≡ not b
in_order first d c b e h =
    let k = day-holds c d e in
    let m : before (record { 0 = day_of c }) first ≡ b = sym (ap (λ (y : Day). before y first) k.1) ∙ h in
    rw (k.0, m)

pub no-day : (first : Day) (c : List ℕ) → dated c ≡ None → is_last_day first c ≡ false
no-day first c e = rw (day-fails c e)

-- 65, and the end
pub over : (used : ℕ) (c : Option ℕ) (g : ℕ → Reading) (x : Reading) → allowance < used → x ≡ unread → x ≡ counted unread used c g
over used c g x h u = u ∙ sym (counted-over unread used c g h)

pub whole_is : (count : ℕ) (issuer : Name) (key : Place) (own : Name) (rights : Rights) (first last : Day) (ext : Option Place) → count ≤ allowance
    → read issuer key own rights first last ext count ≡ counted unread count (Some 0) (read issuer key own rights first last ext)
unfolding counted
whole_is count issuer key own rights first last ext h = rw (add-zero count, le-leb count allowance h)

module _ (at : Cursor) (issuer : Name) (key : Place) (own : Name) (rights : Rights) (first last : Day) (x : Reading) where
  abbrev done : Option Place → ℕ → Reading
  done = read issuer key own rights first last

  abbrev Done : Type 0
  Done = x ≡ counted unread at.used (objects_at 2 at.left.now) (ext_then at.stop issuer key own rights first last at.left.now)

  pub ext-none : length at.left.now ≡ 0 → x ≡ counted unread at.used (Some 0) (done no_place) → Done
  unfolding ext_then
  ext-none h g = g ∙ rw (objects-none (deepest - 2) at.left.now h, eq-eqb (length at.left.now) 0 h)

  module _ (some : length at.left.now ≡ 0 → ⊥) where
    pub ext-missing : IsErr x → found_in 0x65 true at.left.now ≡ None → Done
    unfolding ext_then
    ext-missing u p = err-unread x u ∙ rw (ne_eqb (length at.left.now) 0 some) (sym (not_taken unread at.used (deepest - 2) at.left.now 0x65 any _ true (objects_at 2 at.left.now) p))

    module _ (o : Taken) (m : Took 0x65 true at o) where
      pub ext-more : x ≡ unread → (length o.next.left.now ≡ 0 → ⊥) → Done
      unfolding ext_then taken
      ext-more u n =
          u ∙ rw (ne_eqb (length at.left.now) 0 some, m.here, ne_eqb (length (drop m.inside.end at.left.now)) 0 (λ z. n (ap length m.left ∙ z))) (sym (counted-no unread at.used (objects_at 2 at.left.now)))

      pub ext-refused : x ≡ unread → at.used ≤ allowance → within (allowance - at.used) (objects_at 3 o.content.now) ≡ None → Done
      ext-refused u r q =
          u ∙ sym (nest-refused unread at.used (deepest - 2) at.left.now 0x65 m.inside (allowance - at.used) (ext_then at.stop issuer key own rights first last at.left.now) (omega arith) m.here (omega arith) (rw m.content at q))

      pub ext-on : (n : ℕ) → at.used ≤ allowance → within (allowance - at.used) (objects_at 3 o.content.now) ≡ Some n → length o.next.left.now ≡ 0
          → x ≡ counted unread (o.next.used + n) (Some 0) (done (Some o.place)) → Done
      unfolding ext_then
      ext-on n r q l g =
          let k = kept-objects (allowance - at.used) (objects_at 3 o.content.now) n q in
          g ∙ rw (ne_eqb (length at.left.now) 0 some, ← nest-on 0x65 at any (λ c e rest. ended rest (done (Some (place_of at.stop at.left.now e)))) o n m refl k.0, objects-none (deepest - 2) o.next.left.now l, eq-eqb (length o.next.left.now) 0 l, m.place)

-- ---- the whole: the body, and what must follow it

module _ (after : List ℕ → Pending → Pending) (s : List ℕ) (f : Option Content) (is : f ≡ found_in 0x7F4E true s) (x : Reading) where
  whole-missing : x ≡ unread → f ≡ None → x ≡ answered unread (objects_in s) (body_then after s)
  unfolding body_then
  whole-missing u p =
      u ∙ sym (answered-counted unread s (body_then after s) ∙ not_taken unread 0 (deepest - 1) s 0x7F4E any (λ c e r. after r (version_then e c)) true (objects_at 1 s) (sym is ∙ p))

  module _ (o : Content) (p : f ≡ Some o) where
    -- what follows is not what must
    whole-off : x ≡ unread → after (drop o.end s) (version_then o.end (part o.start o.end s)) ≡ (λ n. unread) → x ≡ answered unread (objects_in s) (body_then after s)
    unfolding body_then
    whole-off u q =
        let t : counted unread 0 (objects_at 1 s) (body_then after s) ≡ unread =
        rw (taken_is unread 0 (deepest - 1) s 0x7F4E any (λ c e r. after r (version_then e c)) true o (sym is ∙ p) refl, q) (counted-no unread 0 (objects_at 1 s)) in
        u ∙ sym (answered-counted unread s (body_then after s) ∙ t)

    -- what follows is n objects, and is what must
    whole-on : (n : ℕ) → objects_at 1 (rest s o.end) ≡ Some n → after (rest s o.end) (version_then o.end (part o.start o.end s)) ≡ version_then o.end (part o.start o.end s)
        → x ≡ counted unread (1 + n) (objects_at 2 (part o.start o.end s)) (version_then o.end (part o.start o.end s)) → x ≡ answered unread (objects_in s) (body_then after s)
    unfolding body_then counted
    whole-on n z q g = g ∙ go (objects_at 2 (part o.start o.end s)) refl ∙ sym (answered-counted unread s (body_then after s))
      where
        go : (c : Option ℕ) → objects_at 2 (part o.start o.end s) ≡ c → counted unread (1 + n) c (version_then o.end (part o.start o.end s)) ≡ counted unread 0 (objects_at 1 s) (body_then after s)
        go None w = sym (nest-refused unread 0 (deepest - 1) s 0x7F4E o (allowance - 1) (body_then after s) (omega arith) (sym is ∙ p) (omega arith) (rw w))
        go (Some m) w =
            let k : 0 + (m + 1) + n ≡ 1 + n + m = omega arith in
            rw (nest-taken unread 0 (deepest - 1) s 0x7F4E any (λ c e r. after r (version_then e c)) o m (omega arith) (sym is ∙ p) refl w, z, q, k)

-- ---- the body alone

module _ (s : List ℕ) (f : Option Content) (is : f ≡ found_in 0x7F4E true s) (x : Reading) where
  pub body-missing : x ≡ unread → f ≡ None → x ≡ body_of s
  unfolding body_of
  body-missing = whole-missing ended s f is x

  module _ (o : Content) (p : f ≡ Some o) where
    pub body_more : x ≡ unread → (o.end ≡ length s → ⊥) → x ≡ body_of s
    unfolding body_of
    body_more u n =
        let z = found-end f 0x7F4E true s o is p in
        let l = length-drop o.end s in
        whole-off ended s f is x o p u (rw (ne_eqb (length (drop o.end s)) 0 (λ m. n (omega arith))))

    pub body-on : o.end ≡ length s → x ≡ counted unread 1 (objects_at 2 (part o.start o.end s)) (version_then o.end (part o.start o.end s)) → x ≡ body_of s
    unfolding body_of
    body-on l g =
        let y : length (rest s o.end) ≡ 0 = rw (from s o.end) (simp length-drop (omega arith)) in
        whole-on ended s f is x o p 0 (objects-none (deepest - 1) (rest s o.end) y) (rw (eq-eqb (length (rest s o.end)) 0 y)) g

-- ---- the body with its signature

same_end : (z : ℕ) (r : List ℕ) → z ≤ length r → eqb (length (drop z r)) 0 ≡ eqb z (length r)
same_end z r h = go (eqb z (length r)) refl
  where
    go : (b : Bool) → eqb z (length r) ≡ b → eqb (length (drop z r)) 0 ≡ b
    go true e = eq-eqb (length (drop z r)) 0 (simp length-drop (omega (arith, eqb-true z (length r) e)))
    go false e = ne_eqb (length (drop z r)) 0 (λ m. eqb-false z (length r) e (omega (arith, length-drop z r)))

-- the definition's test of a signature is the code's
sign-is : (k : Pending) (r : List ℕ) → signature r k ≡ cond (is_signed r) k (λ n. unread)
unfolding taken is_signed is_signature
sign-is k r = go (found_in 0x5F37 false r) refl
  where
    pick : (a b : Bool) → cond a (cond b k (λ n. unread)) (λ n. unread) ≡ cond (a && b) k (λ n. unread)
    pick true b = refl
    pick false b = refl

    go : (f : Option Content) → found_in 0x5F37 false r ≡ f → taken_by unread r is_signature (λ g f q. ended q k) f ≡ cond (signs_by r f) k (λ n. unread)
    go None p = refl
    go (Some o) p =
        let s = found-sizes 0x5F37 false r o p in
        rw (part_length o.start o.end r s.1 s.2, same_end o.end r s.2) (pick (among 1 256 (o.end - o.start)) (eqb o.end (length r)))

-- a signature alone is one object
signature-count : (r : List ℕ) → is_signed r ≡ true → objects_at 1 r ≡ Some 1
unfolding is_signed
signature-count r = go (found_in 0x5F37 false r) refl
  where
    go : (f : Option Content) → found_in 0x5F37 false r ≡ f → signs_by r f ≡ true → objects_at 1 r ≡ Some 1
    go None p h = true-false cc
    go (Some o) p h =
        let l = eqb-true o.end (length r) (and_r (among 1 256 (o.end - o.start)) (eqb o.end (length r)) h) in
        rw (flat-counts (deepest - 1) r 0x5F37 o p, objects-none (deepest - 1) (drop o.end r) (simp length-drop (omega arith)))

module _ (s : List ℕ) (f : Option Content) (is : f ≡ found_in 0x7F4E true s) (x : Reading) where
  pub signed-missing : x ≡ unread → f ≡ None → x ≡ signed_of s
  unfolding signed_of
  signed-missing = whole-missing signature s f is x

  module _ (o : Content) (p : f ≡ Some o) (b : Bool) (v : b ≡ is_signed (rest s o.end)) where
    pub signed-off : x ≡ unread → b ≡ false → x ≡ signed_of s
    unfolding signed_of
    signed-off u q =
        let n : is_signed (drop o.end s) ≡ false = rw (from s o.end) at (sym v ∙ q) in
        whole-off signature s f is x o p u (rw (sign-is (version_then o.end (part o.start o.end s)) (drop o.end s), n))

    pub signed-on : b ≡ true → x ≡ counted unread 2 (objects_at 2 (part o.start o.end s)) (version_then o.end (part o.start o.end s)) → x ≡ signed_of s
    unfolding signed_of
    signed-on q g =
        whole-on signature s f is x o p 1 (signature-count (rest s o.end) (sym v ∙ q)) (rw (sign-is (version_then o.end (part o.start o.end s)) (rest s o.end), sym v ∙ q)) g

-- ---- the test of a signature
module _ (r : List ℕ) (f : Option Content) (is : f ≡ found_in 0x5F37 false r) where
  pub sign-missing : f ≡ None → false ≡ is_signed r
  unfolding is_signed
  sign-missing p = rw (sym is ∙ p)

  pub sign-test : (o : Content) → f ≡ Some o → (among 1 256 (o.end - o.start) && eqb o.end (length r)) ≡ is_signed r
  unfolding is_signed
  sign-test o p = rw (sym is ∙ p)

pub ruleset signs = (sign-missing, sign-test, found-start, found-end, rules)
