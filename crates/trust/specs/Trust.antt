-- "newest trust point and perhaps a previous one". Assumes nothing: these are definitions.
use Rattle.std.specs.Prelude.{Bool, true, false, cond, not, ◌&&◌, ◌||◌, List, ◌∷◌, Option, Some, None, is_some, unwrap_or, option_map, option_to_list}
use Rattle.names.specs.Names.{same_name}
use Rattle.rights.specs.Rights.{role_of}
use Rattle.roles.specs.Roles.{is_cvca}
use Rattle.certificate.specs.Certificate.{no_certificate, certificate_fits}
use Rattle.names.specs.declared.Name.{Name}
use Rattle.names.specs.declared.Listed.{Listed}
use Rattle.certificate.specs.declared.Certificate.{Certificate}
use Rattle.event.specs.declared.Issuer.{Issuer}
use Rattle.event.specs.declared.Issuer.TheVariants.{Newest, Previous, Dv}
use Rattle.trust.specs.declared.Points.{Points}

-- a good name, good dates, rights of 40 bits, role CVCA
unfoldable pub trust_point_fits : Certificate → Bool
trust_point_fits p = certificate_fits p && is_cvca (role_of p.rights)

unfoldable pub one_point : Certificate → Points
one_point newest = record { newest = newest; previous = None }

unfoldable pub two_points : Certificate → Certificate → Points
two_points newest previous = record { newest = newest; previous = Some previous }

abbrev pub previous_fits : Option Certificate → (newest : Name) → Bool
previous_fits None newest = true
previous_fits (Some p) newest = trust_point_fits p && not (same_name p.name newest)

-- each is good, and their names differ; what is not held is not judged
unfoldable pub points_fit : Points → Bool
points_fit h = trust_point_fits h.newest && previous_fits h.previous h.newest.name

-- a previous point is held, and has this name
abbrev pub previous_named : Option Certificate → Name → Bool
previous_named None n = false
previous_named (Some p) n = same_name n p.name

-- a trust point has this name
unfoldable pub knows : Points → Name → Bool
knows h n = same_name n h.newest.name || previous_named h.previous n

-- the trust point of this name
unfoldable pub found : Points → Name → Option Issuer
found h n = cond (same_name n h.newest.name) (Some Newest) (cond (previous_named h.previous n) (Some Previous) None)

-- the certificate of an issuer, where the chain's DV is this one; an empty one of a previous point that is not held
abbrev pub issuer_of : Points → Issuer → Certificate → Certificate
issuer_of h Newest dv = h.newest
issuer_of h Previous dv = unwrap_or h.previous no_certificate
issuer_of h Dv dv = dv

-- an issuer is there to be selected: "trust points and the chain's DV", if that stands
abbrev pub holds : Points → Issuer → (stands : Bool) → Bool
holds h Newest stands = true
holds h Previous stands = is_some h.previous
holds h Dv stands = stands

-- the points held, newest first
abbrev pub points_held : Points → List Certificate
points_held h = h.newest ∷ option_to_list h.previous

-- their names, as a reply shows them: the newest, then the previous if held
abbrev pub names_of : Points → Listed
names_of h = record { first = h.newest.name; second = option_map (λ (p : Certificate). p.name) h.previous }

-- "a link becomes newest, newest becomes previous"
unfoldable pub linked : Points → Certificate → Points
linked h p = record { newest = p; previous = Some h.newest }
