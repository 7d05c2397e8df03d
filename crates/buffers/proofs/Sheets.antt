-- Pieces on a sheet: one that has no room, one that has, and two that follow each other. Assumes nothing.
use Prim.Native.Nat.{ℕ, ◌+◌, ◌≤◌}
use mathlib.Core.Path.{◌≡◌, refl, sym, ap, ◌∙◌}
use mathlib.Core.Bool.{Bool, true, false, cond}
use mathlib.Core.List.{List, [], ◌++◌}
use native.Mathlib.Nat.{add-zero}
use native.Mathlib.Omega.{arith}
use lib.Dec.{leb}
use lib.ListN.{length, take, length-append}
use lib.Seq.{drop-drop}
use borrow.Author.Tests.{leb-true}
use borrow.Rule.Slice.PartMut.{put_mid}
use Rattle.buffers.specs.declared.Sheet.{Sheet}
use Rattle.buffers.specs.Lay.{over, Put}
use Rattle.buffers.specs.Room.{fitting}
use Rattle.buffers.specs.Laid.{Laid}
use Rattle.buffers.proofs.Laying.{over_none, over-length, over-over, fitting-all, unplaced}

-- a piece that was copied over a part of a list
pub copied : (at k : ℕ) (s t l : List ℕ) → t ≡ s → k ≡ length s → put_mid at k l t ≡ over at s l
unfolding over
copied at k s t l e f = rw (e, f) (ap (λ (r : List ℕ). take at l ++ (s ++ r)) (drop-drop (length s) at l))

-- a piece by another name
pub laid-as : (s t : List ℕ) (x y : Sheet) → s ≡ t → Laid s x y → Laid t x y
laid-as s t x y e p = rw (← e) p

-- a piece that has room is written whole
pub laid-whole : (s : List ℕ) (x y : Sheet) → x.at + length s ≤ length x.out.now → Laid s x y → Put x.at s x.out.now y.out.now y.at
laid-whole s x y h p = rw (fitting-all x.at s x.out.now h) at p.written

-- what was written whole, on the same buffer
pub whole-laid : (s : List ℕ) (x y : Sheet) → x.at + length s ≤ length x.out.now → Put x.at s x.out.now y.out.now y.at → y.out.ghost_name ≡ x.out.ghost_name → Laid s x y
whole-laid s x y h p q = record { written = rw (fitting-all x.at s x.out.now h) p; same_buffer = q }

-- the same, of one that was copied
pub laid-copied : (s t : List ℕ) (x y : Sheet) (b : Bool) (k : ℕ) → y.out.now ≡ put_mid x.at k x.out.now t → b ≡ leb (x.at + length s) (length x.out.now) → b ≡ true
    → t ≡ s → k ≡ length s → y.at ≡ x.at + length s → y.out.ghost_name ≡ x.out.ghost_name → Laid s x y
laid-copied s t x y b k j f h e g i m = whole-laid s x y (leb-true _ _ (sym f ∙ h)) (i, j ∙ copied x.at k s t x.out.now e g) m

-- one that has none leaves the sheet as it was
pub laid-no-room : (s : List ℕ) (x : Sheet) (n : ℕ) (b : Bool) → n ≡ length s → b ≡ leb (x.at + n) (length x.out.now) → b ≡ false → Laid s x x
laid-no-room s x n b e f h = record { written = unplaced x.at n b s x.out.now e f h; same_buffer = refl }

pub fitting-none : (at : ℕ) (l : List ℕ) → fitting at [] l ≡ []
unfolding fitting
fitting-none at l = go (leb (at + 0) (length l)) []
  where
    go : (b : Bool) (s : List ℕ) → cond b s s ≡ s
    go true s = refl
    go false s = refl

pub laid-none : (x : Sheet) → Laid [] x x
laid-none x = record { written = rw (fitting-none x.at x.out.now) (sym (add-zero x.at), over_none x.at x.out.now); same_buffer = refl }

-- the buffer stays as long as it was
pub laid-length : (s : List ℕ) (x y : Sheet) → Laid s x y → length y.out.now ≡ length x.out.now
unfolding fitting
laid-length s x y p = ap length p.written.1 ∙ go (leb (x.at + length s) (length x.out.now)) refl
  where
    go : (b : Bool) → leb (x.at + length s) (length x.out.now) ≡ b → length (over x.at (cond b s []) x.out.now) ≡ length x.out.now
    go true h = over-length x.at s x.out.now (leb-true _ _ h)
    go false h = ap length (sym (over_none x.at x.out.now))

-- two pieces, one after the other, are one
pub laid-both : (s t : List ℕ) (x y z : Sheet) → x.at + length (s ++ t) ≤ length x.out.now → Laid s x y → Laid t y z → Laid (s ++ t) x z
laid-both s t x y z h p q =
    let a = length-append s t in
    let u = laid-whole s x y (omega arith) p in
    let l = laid-length s x y p in
    let v = laid-whole t y z (omega (arith, u.0)) q in
    whole-laid (s ++ t) x z h (omega (arith, u.0, v.0), rw (v.1, u.1) (over-over x.at y.at s t x.out.now u.0 (omega (arith, u.0)))) (q.same_buffer ∙ p.same_buffer)

-- the same, where the room for both was asked for
pub laid-asked : (s t : List ℕ) (x y z : Sheet) (n : ℕ) (b : Bool) → Laid s x y → Laid t y z → n ≡ length (s ++ t) → b ≡ leb (x.at + n) (length x.out.now) → b ≡ true → Laid (s ++ t) x z
laid-asked s t x y z n b p q e f h = laid-both s t x y z (rw e at (leb-true (x.at + n) (length x.out.now) (sym f ∙ h))) p q
