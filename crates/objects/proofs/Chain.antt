-- What a reader that takes the objects as they pass goes by: each object taken is one more used, and the count of the rest
-- goes on from there. Assumes nothing.
use Rattle.std.specs.Prelude.{Option, Some, None}
use Prim.Native.Nat.{ℕ, ◌+◌, ◌-◌, ◌<◌, ◌≤◌}
use native.Mathlib.Nat.{add_assoc, zero-add}
use native.Mathlib.Omega.{arith}
use mathlib.Core.Path.{◌≡◌, refl, sym, ◌∙◌}
use mathlib.Core.List.{List}
use mathlib.Core.Bool.{Bool, true, false, cond}
use lib.Dec.{leb}
use lib.ListN.{length, drop, take}
use borrow.Author.Tests.{ne_eqb}
use Rattle.objects.specs.Objects.{part, objects, object, within, plus, closed, then_rest, allowance, objects_at, objects_in, found_in}
use Rattle.objects.specs.Chain.{answered, counted, taken, taken_by}
use Rattle.objects.specs.declared.Content.{Content}
use Rattle.laws.proofs.Lists.{from}
use Rattle.objects.proofs.Sizes.{found-header, found-sizes}
use Rattle.objects.proofs.Fuel.{objects-some}
use Rattle.objects.proofs.Counts.{plus-over, over-left}

-- ---- the count of a list that starts with an object that was found

module _ (d : ℕ) (s : List ℕ) (t : ℕ) (c : Content) where
  some : (w : Bool) → found_in t w s ≡ Some c → length s ≡ 0 → ⊥
  some w p z = let f = found-sizes t w s c p in omega arith

  pub flat-counts : found_in t false s ≡ Some c → objects d s ≡ plus 1 (objects d (drop c.end s))
  unfolding object
  flat-counts p = rw (objects-some d s (some false p), found-header t false s c p)

  pub nest-counts : 0 < d → found_in t true s ≡ Some c → objects d s ≡ then_rest (objects d) s (closed c.end (objects (d - 1) (part c.start c.end s)))
  unfolding object
  nest-counts h p = rw (objects-some d s (some true p), found-header t true s c p, ne_eqb d 0 (λ z. omega arith))

module _ {R : Type 0} (fail : R) where
  -- nothing is answered by a reader that has given up
  pub counted-no : (used : ℕ) (c : Option ℕ) → counted fail used c (λ n. fail) ≡ fail
  unfolding counted
  counted-no used None = refl
  counted-no used (Some n) = go (leb (used + n) allowance)
    where
      go : (b : Bool) → answered fail (cond b (Some (used + n)) None) (λ n. fail) ≡ fail
      go true = refl
      go false = refl

  -- what was counted is used
  pub counted-plus : (used m : ℕ) (c : Option ℕ) (k : ℕ → R) → counted fail used (plus m c) k ≡ counted fail (used + m) c k
  unfolding counted
  counted-plus used m None k = refl
  counted-plus used m (Some n) k = rw (add_assoc used m n)

  -- too many used already
  pub counted-over : (used : ℕ) (c : Option ℕ) (k : ℕ → R) → allowance < used → counted fail used c k ≡ fail
  unfolding counted
  counted-over used c k h = rw (plus-over allowance used c h)

  -- a reading starts with nothing used
  pub answered-counted : (s : List ℕ) (k : ℕ → R) → answered fail (objects_in s) k ≡ counted fail 0 (objects_at 1 s) k
  unfolding objects_in counted
  answered-counted s k = go (objects_at 1 s)
    where
      go : (c : Option ℕ) → answered fail (within allowance c) k ≡ answered fail (within allowance (plus 0 c)) k
      go None = refl
      go (Some n) = rw (zero-add n)

-- what a caller of `find` knows of the places, in the form that a search finds
module _ (f : Option Content) (t : ℕ) (w : Bool) (s : List ℕ) (c : Content) (is : f ≡ found_in t w s) (p : f ≡ Some c) where
  pub found-start : c.start ≤ c.end
  found-start = (found-sizes t w s c (sym is ∙ p)).1

  pub found-end : c.end ≤ length s
  found-end = (found-sizes t w s c (sym is ∙ p)).2

-- ---- the readers' equations, in the form that code has them: what follows an object is `&s[e..]`

abbrev pub rest : List ℕ → ℕ → List ℕ
rest s e = take (length s - e) (drop e s)

module _ {R : Type 0} (fail : R) (used d : ℕ) (s : List ℕ) (t : ℕ) (fits : List ℕ → Bool) (k : List ℕ → ℕ → List ℕ → ℕ → R) where
  -- the object is not there, or does not fit
  pub not_taken : (w : Bool) (n : Option ℕ) → found_in t w s ≡ None → counted fail used n (taken fail t w fits s k) ≡ fail
  unfolding taken
  not_taken w n p = rw p (counted-no fail used n)

  pub not-fit : (w : Bool) (n : Option ℕ) (c : Content) → found_in t w s ≡ Some c → fits (part c.start c.end s) ≡ false → counted fail used n (taken fail t w fits s k) ≡ fail
  unfolding taken
  not-fit w n c p q = rw (p, q) (counted-no fail used n)

  pub taken_is : (w : Bool) (c : Content) → found_in t w s ≡ Some c → fits (part c.start c.end s) ≡ true
      → taken fail t w fits s k ≡ k (part c.start c.end s) c.end (drop c.end s)
  unfolding taken
  taken_is w c p q = rw (p, q)

  module _ (c : Content) where
    -- one with no objects in it: one more is used
    pub flat-taken : found_in t false s ≡ Some c → fits (part c.start c.end s) ≡ true
        → counted fail used (objects d s) (taken fail t false fits s k) ≡ counted fail (used + 1) (objects d (rest s c.end)) (k (part c.start c.end s) c.end (rest s c.end))
    unfolding taken
    flat-taken p q = rw (flat-counts d s t c p, p, q, from s c.end) (counted-plus fail used 1 (objects d (drop c.end s)) (k (part c.start c.end s) c.end (drop c.end s)))

    -- one with m objects in it: m + 1 more are used
    pub nest-taken : (m : ℕ) → 0 < d → found_in t true s ≡ Some c → fits (part c.start c.end s) ≡ true → objects (d - 1) (part c.start c.end s) ≡ Some m
        → counted fail used (objects d s) (taken fail t true fits s k) ≡ counted fail (used + (m + 1)) (objects d (rest s c.end)) (k (part c.start c.end s) c.end (rest s c.end))
    unfolding taken
    nest-taken m h p q n =
        rw (nest-counts d s t c h p, p, q, n, from s c.end) (counted-plus fail used (m + 1) (objects d (drop c.end s)) (k (part c.start c.end s) c.end (drop c.end s)))

module _ {R : Type 0} (fail : R) (used d : ℕ) (s : List ℕ) (t : ℕ) (c : Content) where
  -- one whose objects cannot be read, or are more than may be left
  pub nest-refused : (left : ℕ) (g : ℕ → R) → 0 < d → found_in t true s ≡ Some c → allowance ≤ used + left + 1 → within left (objects (d - 1) (part c.start c.end s)) ≡ None
      → counted fail used (objects d s) g ≡ fail
  unfolding counted
  nest-refused left g h p l q = rw (nest-counts d s t c h p) (go (objects (d - 1) (part c.start c.end s)) q)
    where
      over : (m : ℕ) → left < m → counted fail used (plus (m + 1) (objects d (drop c.end s))) g ≡ fail
      over m i = counted-plus fail used (m + 1) (objects d (drop c.end s)) g ∙ counted-over fail (used + (m + 1)) (objects d (drop c.end s)) g (omega arith)

      go : (n : Option ℕ) → within left n ≡ None → counted fail used (then_rest (objects d) s (closed c.end n)) g ≡ fail
      go None j = refl
      go (Some m) j = over m (over-left left m j)

-- ---- what holds of every answer of a chain

module _ {R : Type 0} (fail : R) (P : R → Type 0) (never : P fail) where
  pub taken-all : (t : ℕ) (w : Bool) (fits : List ℕ → Bool) (s : List ℕ) (k : List ℕ → ℕ → List ℕ → ℕ → R)
      → ((a e : ℕ) → fits (part a e s) ≡ true → (n : ℕ) → P (k (part a e s) e (drop e s) n)) → (n : ℕ) → P (taken fail t w fits s k n)
  unfolding taken
  taken-all t w fits s k h n = go (found_in t w s)
    where
      fit : (a e : ℕ) (b : Bool) → fits (part a e s) ≡ b → P (cond b (k (part a e s) e (drop e s)) (λ n. fail) n)
      fit a e true q = h a e q n
      fit a e false q = never

      go : (f : Option Content) → P (taken_by fail s fits k f n)
      go None = never
      go (Some c) = fit c.start c.end (fits (part c.start c.end s)) refl

  pub answered-all : (c : Option ℕ) (k : ℕ → R) → ((n : ℕ) → P (k n)) → P (answered fail c k)
  answered-all None k h = never
  answered-all (Some n) k h = h n
