-- How pieces written one after the other add up; a piece written a byte at a time, from the first on or from the last back; pieces that have room, and those that have none. Assumes nothing.
use Prim.Native.Nat.{ℕ, suc, ◌+◌, ◌≤◌, ◌<◌}
use mathlib.Core.Path.{◌≡◌, refl, sym, ap, ◌∙◌}
use mathlib.Core.Bool.{Bool, true, false}
use mathlib.Core.List.{List, [], ◌∷◌, ◌++◌, append_assoc}
use native.Mathlib.Nat.{zero-add, add-zero}
use native.Mathlib.Numerals.{add-one}
use native.Mathlib.Omega.{arith}
use lib.Dec.{leb}
use lib.ListN.{length, take, drop, set, length-append, length-drop, take-append-drop}
use lib.Seq.{take_at, drop_at, drop-drop, drop-append-add, set_split, take-set-le, length-take-le}
use borrow.Author.Tests.{le-leb, lt-leb, leb-true, leb-false}
use Rattle.buffers.specs.Lay.{over, Put}
use Rattle.buffers.specs.Room.{fitting}

pub over_first : (s l : List ℕ) → over 0 s l ≡ s ++ drop (length s) l
unfolding over
over_first s l = ap (λ (k : ℕ). s ++ drop k l) (zero-add (length s))

pub over_none : (at : ℕ) (l : List ℕ) → l ≡ over at [] l
unfolding over
over_none at l = rw (add-zero, take-append-drop)

pub over-one : (at b : ℕ) (l : List ℕ) → at < length l → set l at b ≡ over at (b ∷ []) l
unfolding over
over-one at b l h = set_split l at b h ∙ ap (λ (k : ℕ). take at l ++ b ∷ drop k l) (sym (add-one at))

pub over-length : (at : ℕ) (s l : List ℕ) → at + length s ≤ length l → length (over at s l) ≡ length l
unfolding over
over-length at s l h = simp (length-append, length-take-le at l (omega arith), length-drop) (omega arith)

-- two pieces, one after the other, are one piece
pub over-over : (at k : ℕ) (s t l : List ℕ) → k ≡ at + length s → k ≤ length l → over k t (over at s l) ≡ over at (s ++ t) l
unfolding over
over-over at k s t l e h =
    let hp : length (take at l ++ s) ≡ k = simp (length-append, length-take-le at l (omega arith)) (sym e) in
    let hk : k + length t ≡ at + length (s ++ t) = omega (arith, length-append s t) in
    rw (← e, ← append_assoc (take at l) s (drop k l), take_at (take at l ++ s) (drop k l) k hp, append_assoc (take at l) s)
    (ap (λ (r : List ℕ). take at l ++ (s ++ (t ++ r)))
    (ap (λ (m : ℕ). drop (m + length t) ((take at l ++ s) ++ drop k l)) (sym hp)
    ∙ drop-append-add (take at l ++ s) (drop k l) (length t)
    ∙ drop-drop (length t) k l
    ∙ ap (λ (m : ℕ). drop m l) hk)
    ∙ ap (λ (r : List ℕ). take at l ++ r) (sym (append_assoc s t (drop (at + length (s ++ t)) l))))

-- the first byte of a piece, then the rest of it
pub over-front : (at b : ℕ) (s l : List ℕ) → at < length l → over at (b ∷ s) l ≡ over (at + 1) s (set l at b)
over-front at b s l h = sym (rw (over-one at b l h) (over-over at (at + 1) (b ∷ []) s l refl (omega arith)))

drop-one : (k b : ℕ) (l : List ℕ) → k < length l → drop k (set l k b) ≡ b ∷ drop (suc k) l
drop-one k b l h = rw (set_split l k b h) (drop_at (take k l) (b ∷ drop (suc k) l) k (length-take-le k l (omega arith)))

-- the last byte of a piece, then what stands before it
pub over-back : (at b : ℕ) (s l : List ℕ) → at + length s < length l → over at (s ++ (b ∷ [])) l ≡ over at s (set l (at + length s) b)
unfolding over
over-back at b s l h =
    let e : at + length (s ++ (b ∷ [])) ≡ suc (at + length s) = omega (arith, length-append s (b ∷ [])) in
    rw (e, append_assoc s (b ∷ []) (drop (suc (at + length s)) l), take-set-le at l (at + length s) b (omega arith), drop-one (at + length s) b l h)

-- ---- room

-- a piece that has room is written whole
pub fitting-all : (at : ℕ) (s l : List ℕ) → at + length s ≤ length l → fitting at s l ≡ s
unfolding fitting
fitting-all at s l h = rw (le-leb (at + length s) (length l) h)

pub in-room : (at n size : ℕ) (b : Bool) → b ≡ leb (at + n) size → b ≡ true → at + n ≤ size
in-room at n size b f t = leb-true (at + n) size (sym f ∙ t)

pub unplaced : (at n : ℕ) (b : Bool) (s l : List ℕ) → n ≡ length s → b ≡ leb (at + n) (length l) → b ≡ false → Put at (fitting at s l) l l at
unfolding fitting
unplaced at n b s l e f t =
    let k : length l < at + length s = rw e at (leb-false (at + n) (length l) (sym f ∙ t)) in
    rw (lt-leb (at + length s) (length l) k) (sym (add-zero at), over_none at l)
