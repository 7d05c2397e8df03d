-- What a layout has written, and that the smallest buffer that is written to has room for it. Assumes nothing.
use Rattle.std.proofs.Common.{◌≡◌, ◌++◌, [], ◌+◌, ◌*◌, ◌≤◌, ◌<◌, ℕ, List, min, length, take, drop, refl, ap, ◌∙◌, length-append, append-nil, arith, inl, inr}
use Rattle.std.proofs.lemmas.List.{length-take}
use Rattle.std.specs.Prelude.{Some, None, ◌⊎◌}
use mathlib.Core.Bool.{true, false}
use borrow.Author.Tests.{lt-ltb, le-ltb}
use Rattle.laws.proofs.Lists.{take-clip, drop_min}
use Rattle.strings.specs.Bytes.{longest}
use Rattle.names.specs.Names.{places, name_bytes}
use Rattle.names.specs.declared.Name.{Name}
use Rattle.names.specs.declared.Listed.{Listed}
use Rattle.buffers.specs.declared.Sheet.{Sheet}
use Rattle.buffers.specs.Lay.{Written}
use Rattle.buffers.specs.Laid.{Laid}
use Rattle.buffers.proofs.Laying.{over_first}
use Rattle.buffers.proofs.Sheets.{laid-as, laid-none, laid-both, laid-whole}
use Rattle.headers.specs.Encode.{object}
use Rattle.headers.proofs.Pieces.{object-size, size-most}
use Rattle.reply.specs.declared.Layout.{Layout}
use Rattle.reply.specs.declared.Layout.TheVariants.{Silent, Bare, Flat, Nest, Confirmed, Pair}
use Rattle.reply.specs.Bytes.{word_bytes}
use Rattle.reply.specs.Reply.{room, nonce, silent, data_of, reply_of}

-- ---- how long the pieces are at most

object-most : (t : ℕ) (s : List ℕ) → length (object t s) ≤ 5 + length s
object-most t s = omega (arith, object-size t s, size-most t (length s))

-- a list of objects is so short that 7C and the word have room beside it
pub one-short : (t : ℕ) (a : List ℕ) → length a ≤ longest → length (object t a ++ []) ≤ 251
one-short t a h = omega (arith, ap length (append-nil (object t a)), object-most t a)

pub two-short : (t u : ℕ) (a b : List ℕ) → length a + length b ≤ longest + 2 * places → length (object t a ++ (object u b ++ [])) ≤ 251
two-short t u a b h = omega (arith, ap length (append-nil (object u b)), length-append (object t a) (object u b ++ []), object-most t a, object-most u b)

pub three-short : (t u v : ℕ) (a b c : List ℕ) → length a + length b + length c ≤ longest + 2 * places → length (object t a ++ (object u b ++ (object v c ++ []))) ≤ 251
three-short t u v a b c h =
    omega (arith, ap length (append-nil (object v c)), length-append (object u b) (object v c ++ []), length-append (object t a) (object u b ++ (object v c ++ [])), object-most t a, object-most u b, object-most v c)

pub under-room : (s : List ℕ) → length s ≤ 251 → length s ≤ room
under-room s h = omega arith

pub nest-fits : (s : List ℕ) (x : Sheet) → (x.at ≡ 0) × (room ≤ length x.out.now) → length s ≤ 251 → x.at + length (object 0x7C s) ≤ length x.out.now
nest-fits s x h l = omega (arith, object-most 0x7C s, h.0, h.1)

pub name-short : (n : Name) (s : List ℕ) → s ≡ name_bytes n → length n.0.bytes ≡ places → length s ≤ places
name-short n s e h = omega (arith, ap length e, length-take n.0.len n.0.bytes)

front-is : (k : ℕ) (s t : List ℕ) → k ≡ min nonce (length s) → t ≡ take k s → t ≡ take nonce s
front-is k s t e f = f ∙ rw e (take-clip s (length s) nonce _ refl refl)

back-is : (k : ℕ) (s t : List ℕ) → k ≡ min nonce (length s) → t ≡ drop k s → t ≡ drop nonce s
back-is k s t e f = f ∙ rw e (drop_min nonce s)

-- ---- the data of each layout

module _ (layout : Layout) (first : List ℕ) (listed : Listed) where
  pub no-data : (x : Sheet) → (layout ≡ Silent) ⊎ (layout ≡ Bare) → Laid (data_of layout first listed) x x × (length (data_of layout first listed) + 2 ≤ room)
  unfolding data_of
  no-data x (inl e) = rw e (laid-none x, omega arith)
  no-data x (inr e) = rw e (laid-none x, omega arith)

  pub flat-data : (x y : Sheet) → layout ≡ Flat → length first ≤ longest → Laid first x y → Laid (data_of layout first listed) x y × (length (data_of layout first listed) + 2 ≤ room)
  unfolding data_of
  flat-data x y e h p = rw e (p, omega arith)

  -- what 7C holds
  pub nest-data : (x y : Sheet) (s : List ℕ) → object 0x7C s ≡ data_of layout first listed → length s ≤ 251 → Laid (object 0x7C s) x y
      → Laid (data_of layout first listed) x y × (length (data_of layout first listed) + 2 ≤ room)
  nest-data x y s e h p = (laid-as _ _ x y e p, omega (arith, ap length e, object-most 0x7C s))

  pub one-is : (tag : ℕ) → layout ≡ Nest tag → object 0x7C (object tag first ++ []) ≡ data_of layout first listed
  unfolding data_of
  one-is tag e = rw (e, append-nil (object tag first))

  pub name-is : (s : List ℕ) → layout ≡ Confirmed → listed.second ≡ None → s ≡ name_bytes listed.first
      → object 0x7C (object 0x86 first ++ (object 0x87 s ++ [])) ≡ data_of layout first listed
  unfolding data_of
  name-is s e f g = rw (e, f, g)

  pub names-are : (s t : List ℕ) (n : Name) → layout ≡ Confirmed → listed.second ≡ Some n → s ≡ name_bytes listed.first → t ≡ name_bytes n
      → object 0x7C (object 0x86 first ++ (object 0x87 s ++ (object 0x88 t ++ []))) ≡ data_of layout first listed
  unfolding data_of
  names-are s t n e f g h = rw (e, f, g, h, append-nil (object 0x88 (name_bytes n)))

  pub pair-is : (k : ℕ) (s t : List ℕ) → layout ≡ Pair → k ≡ min nonce (length first) → s ≡ take k first → t ≡ drop k first
      → object 0x7C (object 0x81 s ++ (object 0x82 t ++ [])) ≡ data_of layout first listed
  unfolding data_of
  pair-is k s t e m f g = rw (e, front-is k first s m f, back-is k first t m g, append-nil (object 0x82 (drop nonce first)))

-- ---- the data, then the word

-- nothing is written where there is no room, where the first string is too long, or where the layout is silent
module _ (size word : ℕ) (layout : Layout) (first : List ℕ) (listed : Listed) where
  pub no-room : size < room → reply_of size layout word first listed ≡ []
  unfolding reply_of
  no-room h = rw (lt-ltb size room h)

  pub too-long : room ≤ size → longest < length first → reply_of size layout word first listed ≡ []
  unfolding reply_of
  too-long l h = rw (le-ltb size room l, lt-ltb longest (length first) h)

  module _ (l : room ≤ size) (h : length first ≤ longest) where
    pub held-back : silent layout ≡ true → reply_of size layout word first listed ≡ []
    unfolding reply_of
    held-back e = rw (le-ltb size room l, le-ltb longest (length first) h, e)

    pub reply-is : silent layout ≡ false → reply_of size layout word first listed ≡ data_of layout first listed ++ word_bytes word
    unfolding reply_of
    reply-is e = rw (le-ltb size room l, le-ltb longest (length first) h, e)

pub nothing-written : (s o : List ℕ) → s ≡ [] → Written s o o 0
nothing-written s o e = rw e (refl, refl)

pub whole-reply : (word : ℕ) (s d b o₀ o₁ : List ℕ) (x y z : Sheet) → s ≡ d ++ word_bytes word → x.at ≡ 0 → x.out.now ≡ o₀ → room ≤ length o₀
    → Laid d x y × (length d + 2 ≤ room) → Laid b y z → b ≡ word_bytes word → o₁ ≡ z.out.now → Written s o₀ o₁ z.at
whole-reply word s d b o₀ o₁ x y z i e f l p q j g =
    let n = length-append d (word_bytes word) in
    let m = ap length f in
    let u = laid-both d (word_bytes word) x y z (omega (arith, p.1)) p.0 (laid-as b (word_bytes word) y z j q) in
    let w = laid-whole (d ++ word_bytes word) x z (omega (arith, p.1)) u in
    rw i (omega (arith, w.0), g ∙ w.1 ∙ rw (e, f) (over_first (d ++ word_bytes word) o₀))
