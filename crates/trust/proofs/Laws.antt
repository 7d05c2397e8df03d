-- What is known of trust points that are within their limits, found by a name, or followed by a link. Assumes nothing.
use Rattle.std.specs.Prelude.{Option, Some, None}
use Prim.Native.Nat.{ℕ}
use mathlib.Core.Bool.{Bool, true, false, cond, not}
use mathlib.Core.Path.{◌≡◌, refl, subst, ◌∙◌}
use mathlib.Core.List.{List, [], ◌∷◌}
use borrow.Author.Tests.{not-true}
use Rattle.laws.proofs.Bools.{true-false, and_l, and_r, or_l, both}
use Rattle.names.specs.Names.{same_name}
use Rattle.names.proofs.Kept.{same-for, same-turned}
use Rattle.names.specs.declared.Name.{Name}
use Rattle.rights.specs.Rights.{role_of}
use Rattle.roles.specs.declared.Role.TheVariants.{Cvca}
use Rattle.certificate.specs.Certificate.{certificate_fits, with_key}
use Rattle.certificate.specs.declared.Certificate.{Certificate}
use Rattle.event.specs.declared.Issuer.{Issuer}
use Rattle.event.specs.declared.Issuer.TheVariants.{Newest, Previous}
use Rattle.trust.specs.Trust.{trust_point_fits, previous_fits, points_fit, previous_named, knows, found, holds, points_held, linked}
use Rattle.trust.specs.declared.Points.{Points}

-- a trust point that is held
pub data Holds (h : Points) : Certificate → Type 0 where
  as-newest : Holds h h.newest
  as-previous : {p : Certificate} → h.previous ≡ Some p → Holds h p

-- what is found by a name is there to be selected
pub found-holds : (h : Points) (n : Name) (i : Issuer) (stands : Bool) → found h n ≡ Some i → holds h i stands ≡ true
unfolding found
found-holds h n i stands = go (same_name n h.newest.name) h.previous refl
  where
    go : (x : Bool) (o : Option Certificate) → h.previous ≡ o → cond x (Some Newest) (cond (previous_named o n) (Some Previous) None) ≡ Some i → holds h i stands ≡ true
    go true o e q = subst (λ (j : Issuer). holds h j stands ≡ true) (let z : Newest ≡ i = cc in z) refl
    go false (Some p) e q = at-name (same_name n p.name) q
      where
        at-name : (y : Bool) → cond y (Some Previous) None ≡ Some i → holds h i stands ≡ true
        at-name true q = subst (λ (j : Issuer). holds h j stands ≡ true) (let z : Previous ≡ i = cc in z) (rw e)
        at-name false q = true-false (cc)
    go false None e q = true-false (cc)

-- what the first of a list that has this name gives, or another answer
abbrev pub first_named : {A : Type 0} → Name → (Certificate → A) → A → List Certificate → A
first_named n give other [] = other
first_named n give other (p ∷ rest) = cond (same_name n p.name) (give p) (first_named n give other rest)

module _ (h : Points) (e : points_fit h ≡ true) where
  -- the previous one, where it is held
  previous-fits : {p : Certificate} → h.previous ≡ Some p → previous_fits (Some p) h.newest.name ≡ true
  unfolding points_fit
  previous-fits {p = p} q = let z : previous_fits h.previous h.newest.name ≡ true = and_r (trust_point_fits h.newest) _ e in rw q at z

  -- two that are held have two names
  apart : (p : Certificate) → h.previous ≡ Some p → same_name p.name h.newest.name ≡ false
  apart p q = not-true (same_name p.name h.newest.name) (and_r (trust_point_fits p) (not (same_name p.name h.newest.name)) (previous-fits q))

  -- so each is the first of its name
  pub by_name : {A : Type 0} {p : Certificate} (n : Name) (give : Certificate → A) (other : A) → Holds h p → same_name n p.name ≡ true → first_named n give other (points_held h) ≡ give p
  by_name n give other as-newest f = rw f
  by_name {p = p} n give other (as-previous q) f = rw (same-for n p.name h.newest.name f ∙ apart p q, q, f)

  newest-fits : trust_point_fits h.newest ≡ true
  unfolding points_fit
  newest-fits = and_l (trust_point_fits h.newest) _ e

  -- each that is held is one
  pub held_fits : {p : Certificate} → Holds h p → trust_point_fits p ≡ true
  unfolding points_fit
  held_fits as-newest = newest-fits
  held_fits {p = p} (as-previous q) = and_l (trust_point_fits p) (not (same_name p.name h.newest.name)) (previous-fits q)

  -- a link of another name among them
  pub linked-fits : (p : Certificate) (n : ℕ) → certificate_fits p ≡ true → role_of p.rights ≡ Cvca → knows h p.name ≡ false → points_fit (linked h (with_key p n)) ≡ true
  unfolding points_fit trust_point_fits linked with_key certificate_fits knows
  linked-fits p n f g k =
      let d : same_name h.newest.name p.name ≡ false = same-turned h.newest.name p.name ∙ or_l (same_name p.name h.newest.name) (previous_named h.previous p.name) k in
      rw (g, d) (both _ _ (both _ _ f refl) (both _ _ newest-fits refl))
