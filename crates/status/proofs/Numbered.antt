-- What was read by its number has that number. Assumes nothing.
use Prim.Native.Nat.{ℕ}
use mathlib.Core.Bool.{Bool, true, false, cond}
use mathlib.Core.Path.{◌≡◌, refl, sym, ap, ◌∙◌}
use mathlib.Core.List.{List, [], ◌∷◌}
use borrow.Author.Tests.{eqb-true}
use lib.Dec.{eqb}
use Rattle.status.specs.Numbered.{value_at}

module _ {X A : Type 0} (number : X → ℕ) (answer : X → A) (apart : (v w : X) → answer v ≡ answer w → v ≡ w) (n : ℕ) (w : X) where
  pub value-is : (vs : List X) (other : A) → (other ≡ answer w → number w ≡ n) → value_at number answer vs n other ≡ answer w → number w ≡ n
  value-is [] other h e = h e
  value-is (v ∷ vs) other h e = go (eqb n (number v)) refl (value-is vs other h) e
    where
      go : (b : Bool) → eqb n (number v) ≡ b → (value_at number answer vs n other ≡ answer w → number w ≡ n) → cond b (answer v) (value_at number answer vs n other) ≡ answer w → number w ≡ n
      go true q rest f = ap number (sym (apart v w f)) ∙ sym (eqb-true n (number v) q)
      go false q rest f = rest f
