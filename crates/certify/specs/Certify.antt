-- Select issuer and verify certificate. Assumes nothing: these are definitions.
use Rattle.std.specs.Prelude.{Bool, cond, not, ◌&&◌, ◌||◌, Option, Some, None}
use Rattle.names.specs.Names.{same_name}
use Rattle.certificate.specs.Certificate.{expired}
use Rattle.rights.specs.Rights.{role_of}
use Rattle.roles.specs.Roles.{is_cvca, is_terminal}
use Rattle.days.specs.declared.Day.{Day}
use Rattle.names.specs.declared.Name.{Name}
use Rattle.certificate.specs.declared.Certificate.{Certificate}
use Rattle.brought.specs.declared.Brought.{Brought}
use Rattle.rights.specs.declared.Rights.{Rights}
use Rattle.roles.specs.declared.Role.{Role}
use Rattle.roles.specs.declared.Role.TheVariants.{Cvca, OfficialDv, OtherDv, Terminal}
use Rattle.event.specs.declared.Refusal.TheVariants.{Unusable, Moment, Data, NotFound}
use Rattle.event.specs.declared.Issuer.{Issuer}
use Rattle.event.specs.declared.Issuer.TheVariants.{Newest, Previous, Dv}
use Rattle.event.specs.declared.Event.{Event}
use Rattle.event.specs.declared.Event.TheVariants.{Refused, Selected as IsSelected, LinkTaken, DvTaken, TerminalTaken, NotPassed}
use Rattle.plans.specs.declared.Job.TheVariants.{Certificate as CertificateJob}
use Rattle.plans.specs.declared.Ending.{Ending}
use Rattle.plans.specs.declared.Ending.TheVariants.{Settled, Awaits}
use Rattle.plans.specs.declared.Plan.{Plan}
use Rattle.plans.specs.Plans.{settled_by}
use Rattle.trust.specs.Trust.{found, knows, issuer_of}
use Rattle.trust.specs.declared.Points.{Points}
use Rattle.standing.specs.declared.Chain.{Chain}
use Rattle.standing.specs.Standing.{has_dv}

-- "Selectable: trust points and the chain's DV"; a name that is neither's is 6A88
abbrev pub select_by : Chain → Name → Option Issuer → Plan
select_by chain n (Some i) = settled_by (IsSelected i)
select_by chain n None = cond (has_dv chain && same_name n chain.dv.name) (settled_by (IsSelected Dv)) (settled_by (Refused NotFound))

unfoldable pub select_plan : Points → Chain → Name → Plan
select_plan h chain n = select_by chain n (found h n)

-- ---- the tests of verify certificate

-- "CVCA issues CVCA (link) or DV; DV issues terminal"
abbrev pub issues : Issuer → Role → Bool
issues Newest role = not (is_terminal role)
issues Previous role = not (is_terminal role)
issues Dv role = is_terminal role

-- "A new name differs from both trust points', a terminal's also from its DV's"
unfoldable pub repeats : Points → (dv : Certificate) → Name → Role → Bool
repeats h dv n role = knows h n || (is_terminal role && same_name n dv.name)

-- "Unless it is a link, neither certificate nor issuer may have its last day before today"
unfoldable pub late : Day → (certificate issuer : Certificate) → Role → Bool
late today p issuer role = not (is_cvca role) && (expired p today || expired issuer today)

-- "a link becomes newest ..; a DV replaces the chain; a terminal its terminal"
abbrev pub taken_event : Role → Rights → Event
taken_event Cvca trusted = LinkTaken
taken_event OfficialDv trusted = DvTaken trusted
taken_event OtherDv trusted = DvTaken trusted
taken_event Terminal trusted = TerminalTaken

-- a certificate of this role that was brought, under an issuer that has this certificate of its own: each check a line with its refusal
unfoldable pub issued_ending : Points → (dv : Certificate) → Day → Issuer → (issuer : Certificate) → Brought → Role → Ending
issued_ending h dv today which issuer b role =
    -- "CVCA issues CVCA (link) or DV; DV issues terminal; else 6A80"
    cond (not (issues which role)) (Settled (Refused Data))
    -- "A new name differs from both trust points', a terminal's also from its DV's (6A80)"
    (cond (repeats h dv b.certificate.name role) (Settled (Refused Data))
    -- "whose name must equal 42 (6A88)"
    (cond (not (same_name b.name issuer.name)) (Settled (Refused NotFound))
    -- "neither certificate nor issuer may have its last day before today (6984)"
    (cond (late today b.certificate issuer role) (Settled (Refused Unusable))
    -- "Not passed: 6300"
    (Awaits CertificateJob (taken_event role issuer.rights) NotPassed))))

unfoldable pub under_plan : Points → (dv : Certificate) → Day → Issuer → Brought → Plan
under_plan h dv today i b = record { ending = issued_ending h dv today i (issuer_of h i dv) b (role_of b.certificate.rights); brought = b }

-- under the selected issuer
unfoldable pub verify_plan : Points → (dv : Certificate) → Day → Option Issuer → Brought → Plan
-- the moment has refused this before
verify_plan h dv today None b = settled_by (Refused Moment)
verify_plan h dv today (Some i) b = under_plan h dv today i b
