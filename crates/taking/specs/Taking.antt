-- The objects of a command's data: "Every field is filled exactly; objects stand in the order listed." Assumes nothing: these
-- are definitions.
use Rattle.std.specs.Prelude.{ℕ, List, Bool, true, false, cond, length, eqb, Option, Some, None}
use Rattle.objects.specs.Objects.{part, objects_in, found_in}
use Rattle.objects.specs.Chain.{answered, taken}
use Rattle.objects.specs.declared.Content.{Content}
use Rattle.strings.specs.Bytes.{eqbs, among}

-- one reading, within the depth and the allowance, of the whole data field
unfoldable pub reading : {R : Type 0} → R → List ℕ → (ℕ → R) → R
reading fail s k = answered fail (objects_in s) k

-- the last object, with nothing after it: `k` answers by its content
unfoldable pub lastly : {R : Type 0} → (fail : R) (t : ℕ) (nests : Bool) (fits : List ℕ → Bool) (s : List ℕ) (k : List ℕ → R) → ℕ → R
lastly fail t nests fits s k = taken fail t nests fits s (λ c e rest n. cond (eqb (length rest) 0) (k c) fail)

-- contents: these bytes; so many bytes
abbrev pub is_all : List ℕ → List ℕ → Bool
is_all id c = eqbs c id

abbrev pub sized : (least most : ℕ) → List ℕ → Bool
sized least most c = among least most (length c)

-- ---- an object found at the start of s, and tested

-- if its content fits
abbrev pub fitted_by : (List ℕ → Bool) → List ℕ → Option Content → Option Content
fitted_by fits s None = None
fitted_by fits s (Some c) = cond (fits (part c.start c.end s)) (Some c) None

unfoldable pub fitted : (t : ℕ) (nests : Bool) (fits : List ℕ → Bool) (s : List ℕ) → Option Content
fitted t nests fits s = fitted_by fits s (found_in t nests s)

-- if it ends where the bytes end
unfoldable pub last_of : ℕ → Option Content → Option Content
last_of stop None = None
last_of stop (Some c) = cond (eqb c.end stop) (Some c) None

abbrev pub there : Option Content → Bool
there None = false
there (Some c) = true

-- an object of this tag with so many bytes is all there is
unfoldable pub holds : (t least most : ℕ) → List ℕ → Bool
holds t least most s = there (last_of (length s) (fitted t false (sized least most) s))
