-- What is kept of a good name is good, and is its bytes. Assumes nothing.
use Prim.Native.Nat.{ℕ, ◌≤◌, min}
use native.Mathlib.Omega.{arith}
use mathlib.Core.Path.{◌≡◌, refl, sym, ◌∙◌}
use mathlib.Core.Bool.{Bool, true, false}
use mathlib.Core.List.{List}
use borrow.Author.Tests.{le-leb}
use lib.Dec.{leb}
use lib.ListN.{length, replicate}
use Rattle.laws.proofs.Bools.{and_l}
use Rattle.strings.specs.Bytes.{among}
use Rattle.names.specs.Names.{places, is_name, name_of, name_bytes, name_fits, same_name}
use Rattle.names.specs.declared.Name.{Name}
use Rattle.strings.proofs.Strings.{eqbs-true, eqbs-refl, among-high, kept}

name-room : (c : List ℕ) → is_name c ≡ true → length c ≤ places
unfolding is_name
name-room c h = among-high 8 places (length c) (and_l (among 8 places (length c)) _ h)

pub name-bytes : (c : List ℕ) → is_name c ≡ true → name_bytes (name_of c) ≡ c
unfolding name_of
name-bytes c h = kept (replicate places 0) c (name-room c h)

name-short : (c : List ℕ) → is_name c ≡ true → leb (name_of c).0.len places ≡ true
unfolding name_of
name-short c h = le-leb (min (length c) places) places (omega arith)

pub name-good : (c : List ℕ) → is_name c ≡ true → name_fits (name_of c) ≡ true
unfolding name_fits
name-good c h = rw (name-short c h, name-bytes c h) h

-- ---- the test on names: it is that of their bytes, so one name may stand for another that is the same

pub same_self : (a : Name) → same_name a a ≡ true
unfolding same_name
same_self a = eqbs-refl (name_bytes a)

pub same-for : (a b c : Name) → same_name a b ≡ true → same_name a c ≡ same_name b c
unfolding same_name
same-for a b c e = rw (eqbs-true (name_bytes a) (name_bytes b) e)

pub same-turned : (a b : Name) → same_name a b ≡ same_name b a
same-turned a b = go (same_name a b) (same_name b a) refl refl
  where
    go : (p q : Bool) → same_name a b ≡ p → same_name b a ≡ q → p ≡ q
    go true true e f = refl
    go true false e f = sym (same_self a) ∙ same-for a b a e ∙ f
    go false true e f = sym (sym (same_self b) ∙ same-for b a b f ∙ e)
    go false false e f = refl
