-- A word's number and the way back agree. Assumes nothing.
use Rattle.std.specs.Prelude.{Some, None}
use Prim.Native.Nat.{ℕ, ◌+◌, ◌/◌, ◌%◌, ◌<◌}
use mathlib.Core.Bool.{Bool, true, false, cond}
use mathlib.Core.Path.{◌≡◌, refl, sym, ap, ◌∙◌}
use native.Mathlib.Omega.{arith}
use borrow.Author.Tests.{eqb-true, eq-eqb}
use lib.Dec.{eqb}
use Rattle.status.specs.Numbered.{value_at}
use Rattle.status.specs.Words.{word_number, words, word_at}
use Rattle.status.specs.declared.Word.{Word}
use Rattle.status.specs.declared.Word.TheVariants.{Done, Tries, NotPassed, Length, Lacking, Blocked, Unusable, Moment, Unprotected, Broken, Data, Parameters, NotFound, Instruction, Class, Outside}
use Rattle.status.proofs.Numbered.{value-is}

-- the number of a word is read as that word, tries under 16
pub word_back : (w : Word) → ((k : ℕ) → w ≡ Tries k → k < 16) → word_at (word_number w) ≡ Some w
unfolding word_at word_number
word_back Done h = refl
word_back (Tries k) h =
    let l : k < 16 = h k refl in
    let q : (0x63C0 + k) / 16 ≡ 0x63C = omega arith in
    let r : (0x63C0 + k) % 16 ≡ k = omega arith in
    rw (eq-eqb ((0x63C0 + k) / 16) 0x63C q, r)
word_back NotPassed h = refl
word_back Length h = refl
word_back Lacking h = refl
word_back Blocked h = refl
word_back Unusable h = refl
word_back Moment h = refl
word_back Unprotected h = refl
word_back Broken h = refl
word_back Data h = refl
word_back Parameters h = refl
word_back NotFound h = refl
word_back Instruction h = refl
word_back Class h = refl
word_back Outside h = refl

-- a word that was read has that number
pub word-is : (n : ℕ) (w : Word) → word_at n ≡ Some w → word_number w ≡ n
unfolding word_at word_number
word-is n w e = go (eqb (n / 16) 0x63C) refl e
  where
    go : (b : Bool) → eqb (n / 16) 0x63C ≡ b → cond b (Some (Tries (n % 16))) (value_at word_number Some words n None) ≡ Some w → word_number w ≡ n
    go true q f =
        let t : Tries (n % 16) ≡ w = cc in
        let h : n / 16 ≡ 0x63C = eqb-true (n / 16) 0x63C q in
        let z : 0x63C0 + n % 16 ≡ n = omega arith in
        ap word_number (sym t) ∙ z
    go false q f = value-is word_number Some (λ v x p. cc) n w words None (λ p. cc) f
