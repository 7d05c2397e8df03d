-- The objects inside another one, one more at a time. Assumes nothing.
use Rattle.std.proofs.Common.{◌≡◌, ◌++◌, ◌∷◌, [], ◌+◌, ◌≤◌, ◌<◌, ℕ, List, length, take, drop, get_or, refl, sym, ap, ◌∙◌, append_assoc, length-append, add-one, arith, Fits, w16, w64}
use Rattle.std.proofs.lemmas.List.{take-append-drop}
use Rattle.std.proofs.Math.Seq.{take-suc}
use Rattle.std.proofs.Common.{append-nil}
use lib.Seq.{take_all}
use Rattle.buffers.specs.declared.Sheet.{Sheet}
use Rattle.buffers.specs.Laid.{Laid}
use Rattle.buffers.proofs.Sheets.{laid-as, laid-both}
use Rattle.headers.specs.Encode.{header, object, object_of, size_of}
use Rattle.headers.proofs.Pieces.{object-size, object-is}
use Rattle.reply.specs.declared.parts.Part.{Part}
use Rattle.reply.specs.Parts.{parts_bytes}
use Rattle.reply.specs.Reply.{room}

parts-append : (ps qs : List Part) → parts_bytes (ps ++ qs) ≡ parts_bytes ps ++ parts_bytes qs
parts-append [] qs = refl
parts-append (p ∷ ps) qs = ap (λ s. object p.0 p.1.now ++ s) (parts-append ps qs) ∙ sym (append_assoc (object p.0 p.1.now) (parts_bytes ps) (parts_bytes qs))

-- some of them are no longer than all
parts-le : (ps : List Part) (j : ℕ) → length (parts_bytes (take j ps)) ≤ length (parts_bytes ps)
parts-le ps j =
    let e = ap (λ (l : List Part). length (parts_bytes l)) (take-append-drop j ps) in
    let f = ap length (parts-append (take j ps) (drop j ps)) in
    let g = length-append (parts_bytes (take j ps)) (parts_bytes (drop j ps)) in
    omega arith

module _ (ps : List Part) (i : ℕ) (d : Part) (h : i < length ps) where
  abbrev one : Part
  one = get_or ps i d

  one-more : parts_bytes (take (i + 1) ps) ≡ parts_bytes (take i ps) ++ object one.0 one.1.now
  one-more =
      rw (add-one i, take-suc ps i d h, parts-append (take i ps) (one ∷ []))
      (ap (λ (s : List ℕ). parts_bytes (take i ps) ++ s) (append-nil (object one.0 one.1.now)))

  long : length (parts_bytes (take (i + 1) ps)) ≡ length (parts_bytes (take i ps)) + size_of one.0 (length one.1.now)
  long = ap length one-more ∙ length-append _ _ ∙ ap (λ k. length (parts_bytes (take i ps)) + k) (object-size one.0 one.1.now)

  module _ (l : length (parts_bytes ps) ≤ room) where
    pub part-fits : Fits w16 (length one.1.now)
    part-fits = let e = long in let f = parts-le ps (i + 1) in record { fits = omega arith }

    module _ (n k : ℕ) (e : n ≡ length (parts_bytes (take i ps))) (f : k ≡ size_of one.0 (length one.1.now)) where
      pub size-fits : Fits w64 (n + k)
      size-fits = let x = long in let y = parts-le ps (i + 1) in record { fits = omega arith }

      pub size-more : n + k ≡ length (parts_bytes (take (i + 1) ps))
      size-more = let x = long in omega arith

    -- a header and the objects so far, and one object more
    pub put-more : (s : List ℕ) (x y z : Sheet) → x.at + length (s ++ parts_bytes ps) ≤ length x.out.now → Laid (s ++ parts_bytes (take i ps)) x y
        → Laid (object_of one.0 one.1.now) y z → Laid (s ++ parts_bytes (take (i + 1) ps)) x z
    put-more s x y z m p q =
        let t = one-more in
        let e = long in
        let f = parts-le ps (i + 1) in
        let a = append_assoc s (parts_bytes (take i ps)) (object one.0 one.1.now) in
        let b = length-append s (parts_bytes (take (i + 1) ps)) in
        let c = length-append s (parts_bytes ps) in
        let w : (s ++ parts_bytes (take i ps)) ++ object one.0 one.1.now ≡ s ++ parts_bytes (take (i + 1) ps) = a ∙ ap (λ (r : List ℕ). s ++ r) (sym t) in
        let g = ap length w in
        laid-as _ _ x z w (laid-both (s ++ parts_bytes (take i ps)) (object one.0 one.1.now) x y z (omega arith) p
        (laid-as _ _ y z (object-is one.0 one.1.now (omega arith)) q))

-- all of them
pub put-all : (ps : List Part) (i : ℕ) (x y : Sheet) → length ps ≤ i → Laid (header 0x7C (length (parts_bytes ps)) ++ parts_bytes (take i ps)) x y → Laid (object 0x7C (parts_bytes ps)) x y
unfolding object
put-all ps i x y h p = rw (take_all i ps h) at p

pub all-room : (ps : List Part) (x : Sheet) → x.at + length (object 0x7C (parts_bytes ps)) ≤ length x.out.now
    → x.at + length (header 0x7C (length (parts_bytes ps)) ++ parts_bytes ps) ≤ length x.out.now
unfolding object
all-room ps x h = h
