-- The five bytes after the template are the number.
use Rattle.std.proofs.Common.{ℕ, ◌+◌, ◌<◌, ◌%◌, ◌^◌, ◌≡◌, ◌∙◌, refl, sym, ap, List, [], ◌∷◌, length, take, drop, get_or, Bool, true, Some, arith, drop_of_length-le}
use native.Mathlib.Numerals.{add-one}
use lib.Seq.{drop-cons}
use borrow.Author.Tests.{eq-eqb}
use Rattle.std.proofs.Math.Nat.{mod-mod_of_dvd, dvd-mul_left}
use Rattle.laws.proofs.Lists.{from}
use Rattle.strings.specs.Bytes.{eqbs, number}
use Rattle.rights.specs.Rights.{width, template, is_rights, granted}
use Rattle.rights.proofs.rights_of.Goals as goal

-- the five bytes, by their places
module _ (s : List ℕ) (h : length s ≡ 18) where
  at-place : (i : ℕ) → i < 18 → drop i s ≡ get_or s i 0 ∷ drop (i + 1) s
  at-place i k = rw (add-one i) (drop-cons s i 0 (omega arith))

  pub five : get_or s 13 0 ∷ get_or s 14 0 ∷ get_or s 15 0 ∷ get_or s 16 0 ∷ get_or s 17 0 ∷ [] ≡ drop 13 s
  five =
      sym (rw (
        at-place 13 (omega arith),
        at-place 14 (omega arith),
        at-place 15 (omega arith),
        at-place 16 (omega arith),
        at-place 17 (omega arith),
        drop_of_length-le s {i = 18} (omega arith),
      ) refl)

rights-are : (s u : List ℕ) (t : Bool) (n : ℕ) → length s ≡ 18 → t ≡ eqbs (take 13 s) template → t ≡ true → n ≡ number 256 0 u % 2 ^ 64 → u ≡ drop 13 s
    → Some (record { 0 = n % 2 ^ width }) ≡ granted s
unfolding granted is_rights
rights-are s u t n h is e f d =
    let m : ℕ = number 256 0 u in
    let g : n % 2 ^ width ≡ m % 2 ^ width = ap (λ (x : ℕ). x % 2 ^ width) f ∙ mod-mod_of_dvd (2 ^ width) m (dvd-mul_left (2 ^ width) (2 ^ 24)) in
    rw (eq-eqb (length s) 18 h, sym is ∙ e, g ∙ ap (λ (x : List ℕ). number 256 0 x % 2 ^ width) d)

-- the bytes from a place on, or each by its place: a wrong order is no other form of them (`must-fail/`)
pub returns-then-eq : goal.returns-then-eq
returns-then-eq c = search (rights-are, from, five)
