-- Laws on numbers by their digits. Assumes nothing.
use Rattle.std.proofs.Common.{ℕ, ◌+◌, ◌*◌, ◌%◌, ◌≡◌, ◌∙◌, sym, ap, List, [], ◌∷◌}
use Rattle.std.proofs.Math.Nat.{mod-add-mod, mod-mod}
use Rattle.std.proofs.lemmas.Nat.{mul-mod}
use Rattle.strings.specs.Bytes.{number}

-- what a digit more does to a number that was cut
pub digit-cut : (m base n b : ℕ) → (n % m * base + b) % m ≡ (n * base + b) % m
digit-cut m base n b =
    sym (mod-add-mod (n % m * base) m b)
    ∙ ap (λ (x : ℕ). (x + b) % m) (mul-mod (n % m) base m ∙ ap (λ (x : ℕ). x * (base % m) % m) (mod-mod n m) ∙ sym (mul-mod n base m))
    ∙ mod-add-mod (n * base) m b

-- a number may be cut at any digit
pub number-cut : (m base n : ℕ) (s : List ℕ) → number base (n % m) s % m ≡ number base n s % m
number-cut m base n [] = mod-mod n m
number-cut m base n (b ∷ s) =
    sym (number-cut m base (n % m * base + b) s)
    ∙ ap (λ (x : ℕ). number base x s % m) (digit-cut m base n b)
    ∙ number-cut m base (n * base + b) s
