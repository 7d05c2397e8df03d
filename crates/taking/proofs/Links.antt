-- What the objects found say of the chain that takes them: each law is over plain values, for a search to fit.
-- Assumes nothing.
use Rattle.std.specs.Prelude.{Option, Some, None}
use Prim.Native.Nat.{ℕ, ◌+◌, ◌-◌, ◌≤◌, ◌<◌}
use native.Mathlib.Omega.{arith}
use mathlib.Core.Path.{◌≡◌, refl, sym, ap, ◌∙◌}
use mathlib.Core.Bool.{Bool, true, false, cond}
use mathlib.Core.List.{List}
use borrow.Author.Tests.{eq-eqb, ne_eqb, eqb-true, eqb-false, le-leb}
use lib.Dec.{eqb}
use lib.ListN.{length, drop, length-drop}
use Rattle.laws.proofs.Bools.{true-false, picked-l, picked-r}
use Rattle.laws.proofs.Lists.{from}
use Rattle.objects.specs.Objects.{allowance, part, objects, objects_at, found_in}
use Rattle.objects.specs.Chain.{counted, taken, taken_by, any}
use Rattle.objects.specs.declared.Content.{Content}
use Rattle.objects.proofs.Sizes.{found-sizes}
use Rattle.objects.proofs.Fuel.{objects-none}
use Rattle.objects.proofs.Chain.{rest, answered-counted, counted-no, counted-over, flat-counts, taken_is, flat-taken, nest-taken}
use Rattle.taking.specs.Taking.{reading, lastly, sized, fitted, fitted_by, last_of, there, holds}

-- ---- an object that was found and fits, and one that is the last

module _ (t : ℕ) (w : Bool) (fits : List ℕ → Bool) (s : List ℕ) where
  pub fitted-is : (c : Content) → fitted t w fits s ≡ Some c → (found_in t w s ≡ Some c) × (fits (part c.start c.end s) ≡ true)
  unfolding fitted
  fitted-is c = go (found_in t w s)
    where
      go : (f : Option Content) → fitted_by fits s f ≡ Some c → (f ≡ Some c) × (fits (part c.start c.end s) ≡ true)
      go None p = true-false cc
      go (Some x) p =
          let k = picked-l (fits (part x.start x.end s)) p (λ q. true-false cc) in
          let same : x ≡ c = cc (k.1) in
          (k.1, rw (← same) k.0)

  fitted-not : {R : Type 0} (fail : R) (k : List ℕ → ℕ → List ℕ → ℕ → R) → fitted t w fits s ≡ None → taken fail t w fits s k ≡ (λ n. fail)
  unfolding fitted taken
  fitted-not fail k = go (found_in t w s)
    where
      go : (f : Option Content) → fitted_by fits s f ≡ None → taken_by fail s fits k f ≡ (λ n. fail)
      go None p = refl
      go (Some x) p = rw (picked-r (fits (part x.start x.end s)) p (λ q. true-false cc)).0

-- an object that nests fits, whatever it holds
any-fits : (t : ℕ) (w : Bool) (s : List ℕ) → found_in t w s ≡ fitted t w any s
unfolding fitted
any-fits t w s = go (found_in t w s)
  where
    go : (f : Option Content) → f ≡ fitted_by any s f
    go None = refl
    go (Some c) = refl

pub last-is : (n : ℕ) (f : Option Content) (c : Content) → last_of n f ≡ Some c → (f ≡ Some c) × (c.end ≡ n)
unfolding last_of
last-is n None c p = true-false cc
last-is n (Some x) c p =
    let k = picked-l (eqb x.end n) p (λ q. true-false cc) in
    let same : x ≡ c = cc (k.1) in
    (k.1, rw (← same) (eqb-true x.end n k.0))

-- what follows the last object
ended : (s : List ℕ) (e : ℕ) → e ≡ length s → length (drop e s) ≡ 0
ended s e h = simp length-drop (omega arith)

module _ {R : Type 0} (fail : R) (t : ℕ) (w : Bool) (fits : List ℕ → Bool) (s : List ℕ) (k : List ℕ → R) where
  lastly-is : (c : Content) → found_in t w s ≡ Some c → fits (part c.start c.end s) ≡ true → c.end ≡ length s → lastly fail t w fits s k ≡ (λ n. k (part c.start c.end s))
  unfolding lastly
  lastly-is c p q h =
      rw (taken_is fail 0 0 s t fits (λ c e r n. cond (eqb (length r) 0) (k c) fail) w c p q, eq-eqb (length (drop c.end s)) 0 (ended s c.end h))

  lastly-not : last_of (length s) (fitted t w fits s) ≡ None → lastly fail t w fits s k ≡ (λ n. fail)
  unfolding lastly last_of
  lastly-not = go (fitted t w fits s) refl
    where
      go : (f : Option Content) → fitted t w fits s ≡ f → last_of (length s) f ≡ None → taken fail t w fits s (λ c e r n. cond (eqb (length r) 0) (k c) fail) ≡ (λ n. fail)
      go None q p = fitted-not t w fits s fail (λ c e r n. cond (eqb (length r) 0) (k c) fail) q
      go (Some c) q p =
          let f = fitted-is t w fits s c q in
          let z = found-sizes t w s c f.0 in
          let l = length-drop c.end s in
          let n = eqb-false c.end (length s) (picked-r (eqb c.end (length s)) p (λ m. true-false cc)).0 in
          rw (taken_is fail 0 0 s t fits (λ c e r n. cond (eqb (length r) 0) (k c) fail) w c f.0 f.1, ne_eqb (length (drop c.end s)) 0 (λ m. n (omega arith)))

-- ---- an answer that was counted: the failure, or one for which few objects stand

pub data Few {R : Type 0} (fail : R) (most : ℕ) (c : Option ℕ) : R → Type 0 where
  failed : Few fail most c fail
  few : {x : R} (m : ℕ) → c ≡ Some m → m ≤ most → Few fail most c x

module _ {R : Type 0} (fail : R) (used : ℕ) where
  counted-few : (m : ℕ) (x : R) → used + m ≤ allowance → counted fail used (Some m) (λ n. x) ≡ x
  unfolding counted
  counted-few m x h = rw (le-leb (used + m) allowance h)

  pub few-counted : (most : ℕ) (c : Option ℕ) (x : R) → Few fail most c x → used + most ≤ allowance → counted fail used c (λ n. x) ≡ x
  few-counted most c x failed h = counted-no fail used c
  few-counted most c x (few m e l) h = rw e (counted-few m x (omega arith))

-- what is picked by a test, where the test may be known to pass
pub when : {A : Type 0} (P : A → Type 0) (b : Bool) {x y : A} → (b ≡ true → P x) → P y → P (cond b x y)
when P true p q = p refl
when P false p q = q

-- ---- the reading starts with nothing used

pub reads : {R : Type 0} (fail : R) (s : List ℕ) (k : ℕ → R) (x : R) → x ≡ counted fail 0 (objects_at 1 s) k → x ≡ reading fail s k
unfolding reading
reads fail s k x g = g ∙ sym (answered-counted fail s k)

-- ---- an object with others after it

module _ {R : Type 0} (fail : R) (used d : ℕ) (s : List ℕ) (t : ℕ) (fits : List ℕ → Bool) (k : List ℕ → ℕ → List ℕ → ℕ → R)
    (f : Option Content) (is : f ≡ fitted t false fits s) (x : R) where
  pub link-off : x ≡ fail → f ≡ None → x ≡ counted fail used (objects d s) (taken fail t false fits s k)
  link-off u p = u ∙ rw (fitted-not t false fits s fail k (sym is ∙ p)) (sym (counted-no fail used (objects d s)))

  pub link_on : (c : Content) → f ≡ Some c → x ≡ counted fail (used + 1) (objects d (rest s c.end)) (k (part c.start c.end s) c.end (rest s c.end))
      → x ≡ counted fail used (objects d s) (taken fail t false fits s k)
  link_on c p g = let q = fitted-is t false fits s c (sym is ∙ p) in g ∙ sym (flat-taken fail used d s t fits k c q.0 q.1)

-- ---- the last object

module _ {R : Type 0} (fail : R) (used d : ℕ) (s : List ℕ) (t : ℕ) (k : List ℕ → R) (f g : Option Content) (ends : g ≡ last_of (length s) f) (x : R) where
  module _ (fits : List ℕ → Bool) (is : f ≡ fitted t false fits s) where
    pub last_off : x ≡ fail → g ≡ None → x ≡ counted fail used (objects d s) (lastly fail t false fits s k)
    last_off u p = u ∙ rw (lastly-not fail t false fits s k (ap (last_of (length s)) (sym is) ∙ sym ends ∙ p)) (sym (counted-no fail used (objects d s)))

    pub last_on : (c : Content) → g ≡ Some c → used < allowance → x ≡ k (part c.start c.end s) → x ≡ counted fail used (objects d s) (lastly fail t false fits s k)
    last_on c p h y =
        let l = last-is (length s) f c (sym ends ∙ p) in
        let q = fitted-is t false fits s c (sym is ∙ l.0) in
        let one : objects d s ≡ Some 1 = rw (flat-counts d s t c q.0, objects-none d (drop c.end s) (ended s c.end l.1)) in
        y ∙ rw (lastly-is fail t false fits s k c q.0 q.1 l.1, one) (sym (counted-few fail used 1 (k (part c.start c.end s)) (omega arith)))

  module _ (is : f ≡ found_in t true s) where
    pub nest-off : x ≡ fail → g ≡ None → x ≡ counted fail used (objects d s) (lastly fail t true any s k)
    nest-off u p =
        u ∙ rw (lastly-not fail t true any s k (ap (last_of (length s)) (sym (is ∙ any-fits t true s)) ∙ sym ends ∙ p)) (sym (counted-no fail used (objects d s)))

    pub nest-on : (most : ℕ) (c : Content) → g ≡ Some c → Few fail most (objects (d - 1) (part c.start c.end s)) (k (part c.start c.end s)) → 0 < d → used + most < allowance
        → x ≡ k (part c.start c.end s) → x ≡ counted fail used (objects d s) (lastly fail t true any s k)
    unfolding lastly
    nest-on most c p i o h y = y ∙ sym (go (k (part c.start c.end s)) refl i)
      where
        l : (f ≡ Some c) × (c.end ≡ length s)
        l = last-is (length s) f c (sym ends ∙ p)

        z : length (rest s c.end) ≡ 0
        z = rw (from s c.end) (ended s c.end l.1)

        go : (y : R) → k (part c.start c.end s) ≡ y → Few fail most (objects (d - 1) (part c.start c.end s)) y → counted fail used (objects d s) (lastly fail t true any s k) ≡ y
        go y j failed = rw (lastly-is fail t true any s k c (sym is ∙ l.0) refl l.1, j) (counted-no fail used (objects d s))
        go y j (few m is_m n) =
            rw (nest-taken fail used d s t any (λ c e r n. cond (eqb (length r) 0) (k c) fail) c m o (sym is ∙ l.0) refl is_m, objects-none d (rest s c.end) z, eq-eqb (length (rest s c.end)) 0 z, j)
            (counted-few fail (used + (m + 1)) 0 y (omega arith))

-- as many objects used as there may be: none is left for another
pub full : {R : Type 0} (fail : R) (used d : ℕ) (s : List ℕ) (t : ℕ) (fits : List ℕ → Bool) (k : List ℕ → R) (x : R) → x ≡ fail → allowance ≤ used
    → x ≡ counted fail used (objects d s) (lastly fail t false fits s k)
unfolding lastly
full {R} fail used d s t fits k x u h = u ∙ sym (go (fitted t false fits s) refl)
  where
    g : List ℕ → ℕ → List ℕ → ℕ → R
    g c e r n = cond (eqb (length r) 0) (k c) fail

    go : (f : Option Content) → fitted t false fits s ≡ f → counted fail used (objects d s) (taken fail t false fits s g) ≡ fail
    go None q = rw (fitted-not t false fits s fail g q) (counted-no fail used (objects d s))
    go (Some c) q =
        let f = fitted-is t false fits s c q in
        flat-taken fail used d s t fits g c f.0 f.1 ∙ counted-over fail (used + 1) (objects d (rest s c.end)) (g (part c.start c.end s) c.end (rest s c.end)) (omega arith)

-- ---- an object of so many bytes that is all there is

pub holds-count : (d t least most : ℕ) (s : List ℕ) → holds t least most s ≡ true → objects d s ≡ Some 1
unfolding holds
holds-count d t least most s = go (last_of (length s) (fitted t false (sized least most) s)) refl
  where
    go : (f : Option Content) → last_of (length s) (fitted t false (sized least most) s) ≡ f → there f ≡ true → objects d s ≡ Some 1
    go None q h = true-false (sym h)
    go (Some c) q h =
        let l = last-is (length s) (fitted t false (sized least most) s) c q in
        let p = fitted-is t false (sized least most) s c l.0 in
        rw (flat-counts d s t c p.0, objects-none d (drop c.end s) (ended s c.end l.1))
