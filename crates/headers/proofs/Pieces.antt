-- Headers and objects from the pieces that the writers put. Assumes nothing.
use Prim.Native.Nat.{ℕ, ◌+◌, ◌/◌, ◌%◌, ◌≤◌, ◌<◌}
use native.Mathlib.Omega.{arith}
use mathlib.Core.Path.{◌≡◌, sym}
use mathlib.Core.Bool.{Bool, true, false, cond}
use mathlib.Core.List.{List, [], ◌∷◌}
use lib.Dec.{leb, ltb}
use lib.ListN.{length, length-append}
use borrow.Author.Tests.{le-leb, lt-leb}
use Rattle.buffers.specs.declared.Sheet.{Sheet}
use Rattle.buffers.specs.Laid.{Laid}
use Rattle.buffers.proofs.Sheets.{laid-as, laid-none, laid-no-room, laid-asked}
use Rattle.headers.specs.Encode.{tag_bytes, length_bytes, longest_content, header, object, size_of, object_of}

-- ---- an object

pub object-size : (t : ℕ) (s : List ℕ) → length (object t s) ≡ size_of t (length s)
unfolding object
object-size t s = length-append (header t (length s)) s

-- one whose length can be said
pub object-is : (t : ℕ) (s : List ℕ) → length s ≤ longest_content → object_of t s ≡ object t s
unfolding object_of
object-is t s h = rw (le-leb (length s) longest_content h)

module _ (t : ℕ) (s : List ℕ) (x : Sheet) where
  pub object-too-long : longest_content < length s → Laid (object_of t s) x x
  unfolding object_of
  object-too-long h = rw (lt-leb (length s) longest_content h) (laid-none x)

  module _ (size n : ℕ) (b : Bool) (e : n ≡ length s) (l : n ≤ longest_content) (f : size ≡ size_of t n) (g : b ≡ leb (x.at + size) (length x.out.now)) where
    object-is-so : object_of t s ≡ object t s
    object-is-so = object-is t s (omega arith)

    object-so-long : size ≡ length (object t s)
    object-so-long = rw (f, e) (sym (object-size t s))

    pub object-laid : (y z : Sheet) → Laid (header t n) x y → Laid s y z → b ≡ true → Laid (object_of t s) x z
    unfolding object
    object-laid y z p q h = laid-as (object t s) (object_of t s) x z (sym object-is-so) (laid-asked (header t (length s)) s x y z size b (rw e at p) q object-so-long g h)

    pub object-no-room : b ≡ false → Laid (object_of t s) x x
    object-no-room h = rw object-is-so (laid-no-room (object t s) x size b object-so-long g h)

-- ---- how long a header is at most

tag-most : (t : ℕ) → length (tag_bytes t) ≤ 2
unfolding tag_bytes
tag-most t = go (ltb t 256)
  where
    go : (b : Bool) → length (cond b (t ∷ []) (t / 256 ∷ t % 256 ∷ [])) ≤ 2
    go true = omega arith
    go false = omega arith

len-most : (n : ℕ) → length (length_bytes n) ≤ 3
unfolding length_bytes
len-most n = go (ltb n 128) (ltb n 256)
  where
    go : (b c : Bool) → length (cond b (n ∷ []) (cond c (0x81 ∷ n ∷ []) (0x82 ∷ n / 256 ∷ n % 256 ∷ []))) ≤ 3
    go true c = omega arith
    go false true = omega arith
    go false false = omega arith

pub size-most : (t n : ℕ) → size_of t n ≤ 5 + n
unfolding header
size-most t n = omega (arith, length-append (tag_bytes t) (length_bytes n), tag-most t, len-most n)
