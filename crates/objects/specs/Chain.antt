-- Taking the expected objects of a list, in order, and counting all that the list holds. Assumes nothing: these are definitions.
use Rattle.std.specs.Prelude.{ℕ, List, Bool, true, cond, drop, Option, Some, None}
use Rattle.objects.specs.Objects.{found_in, part, plus, within, allowance}
use Rattle.objects.specs.declared.Content.{Content}

-- what `k` answers of the count, if there is one
abbrev pub answered : {R : Type 0} → R → Option ℕ → (ℕ → R) → R
answered fail None k = fail
answered fail (Some n) k = k n

-- the same, where `used` objects stood before these: at most the allowance in all
unfoldable pub counted : {R : Type 0} → R → ℕ → Option ℕ → (ℕ → R) → R
counted fail used c k = answered fail (within allowance (plus used c)) k

-- a content that is not judged
abbrev pub any : List ℕ → Bool
any c = true

abbrev pub taken_by : {R : Type 0} → (fail : R) (s : List ℕ) (fits : List ℕ → Bool) (k : List ℕ → ℕ → List ℕ → ℕ → R) → Option Content → ℕ → R
taken_by fail s fits k None = λ n. fail
taken_by fail s fits k (Some c) = cond (fits (part c.start c.end s)) (k (part c.start c.end s) c.end (drop c.end s)) (λ n. fail)

-- the object at the start of s, of this tag, nesting or not, with a content that fits: `k` goes on with its content, its end, and
-- what follows it
unfoldable pub taken : {R : Type 0} → (fail : R) (t : ℕ) (nests : Bool) (fits : List ℕ → Bool) (s : List ℕ) (k : List ℕ → ℕ → List ℕ → ℕ → R) → ℕ → R
taken fail t nests fits s k = taken_by fail s fits k (found_in t nests s)
