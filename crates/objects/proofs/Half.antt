-- The count of objects is at most half the bytes.
-- Assumes nothing.
use Rattle.std.specs.Prelude.{Option, Some, None}
use Prim.Native.Nat.{ℕ, zero, suc, ◌+◌, ◌-◌, ◌<◌, ◌≤◌}
use mathlib.Core.Path.{◌≡◌}
use mathlib.Core.List.{List}
use native.Mathlib.Omega.{arith}
use lib.Dec.{eqb}
use lib.ListN.{length, drop, length-drop}
use Rattle.objects.specs.Objects.{header_of, object_by, objects_of, objects, closed, plus, then_rest, part}
use Rattle.objects.specs.declared.Header.{Header}
use Rattle.objects.specs.declared.Object.{Object}
use Rattle.laws.proofs.Bools.{of-both}
use Rattle.objects.proofs.Sizes.{HeadIn, head-sizes, header-in, part_length}

pub data CountIn (n : ℕ) : Option ℕ → Type 0 where
  refused-in : CountIn n None
  objects-in : (m : ℕ) → m + m ≤ n → CountIn n (Some m)

pub half : {n m : ℕ} → CountIn n (Some m) → m + m ≤ n
half (objects-in m h) = h

data HalfIn (n : ℕ) : Option Object → Type 0 where
  no-half : HalfIn n None
  half_of : {o : Object} → o.count + o.count ≤ o.end → o.end ≤ n → HalfIn n (Some o)

closed-half : {n m : ℕ} (a e : ℕ) (c : Option ℕ) → CountIn m c → m ≡ e - a → 1 < a → a ≤ e → e ≤ n → HalfIn n (closed e c)
closed-half a e None i l p q r = no-half
closed-half a e (Some m) i l p q r = let h = half i in half_of (omega arith) r

object-half : (inner : ℕ → List ℕ → Option ℕ) → ((d : ℕ) (s : List ℕ) → CountIn (length s) (inner d s))
    → (d : ℕ) (s : List ℕ) (h : Option Header) → HeadIn (length s) h → HalfIn (length s) (object_by inner d s h)
object-half inner i d s None k = no-half
object-half inner i d s (Some h) k =
    let z = head-sizes k in
    of-both (HalfIn (length s)) h.nests
    (of-both (HalfIn (length s)) (eqb d 0) no-half
    (closed-half h.start h.end (inner (d - 1) (part h.start h.end s)) (i (d - 1) (part h.start h.end s)) (part_length h.start h.end s z.1 z.2) z.0 z.1 z.2))
    (half_of (omega arith) z.2)

rest-half : {n l : ℕ} (e m : ℕ) (c : Option ℕ) → CountIn l c → l ≡ n - e → m + m ≤ e → e ≤ n → CountIn n (plus m c)
rest-half e m None i l p q = refused-in
rest-half e m (Some k) i l p q = let h = half i in objects-in (m + k) (omega arith)

list-half : (rest : List ℕ → Option ℕ) → ((s : List ℕ) → CountIn (length s) (rest s)) → (s : List ℕ) (o : Option Object) → HalfIn (length s) o
    → CountIn (length s) (then_rest rest s o)
list-half rest i s None h = refused-in
list-half rest i s (Some o) (half_of p q) = rest-half o.end o.count (rest (drop o.end s)) (i (drop o.end s)) (length-drop o.end s) p q

fuel-half : (k d : ℕ) (s : List ℕ) → CountIn (length s) (objects_of k d s)
unfolding objects_of
fuel-half zero d s = refused-in
fuel-half (suc k) d s =
    of-both (CountIn (length s)) (eqb (length s) 0) (objects-in 0 (omega arith))
    (list-half (objects_of k d) (fuel-half k d) s (object_by (objects_of k) d s (header_of s))
    (object-half (objects_of k) (fuel-half k) d s (header_of s) (header-in s)))

pub objects-half : (d : ℕ) (s : List ℕ) → CountIn (length s) (objects d s)
unfolding objects
objects-half d s = fuel-half (suc (length s)) d s
