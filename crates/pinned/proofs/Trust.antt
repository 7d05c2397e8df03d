-- Two permitted outcomes of each public function are equal. Assumes nothing.
use Rattle.std.specs.Prelude.{Option}
use mathlib.Core.Bool.{Bool}
use Rattle.laws.proofs.Pinned.{Pinned, pinned}
use Rattle.names.specs.declared.Name.{Name}
use Rattle.names.specs.declared.Listed.{Listed}
use Rattle.certificate.specs.declared.Certificate.{Certificate}
use Rattle.event.specs.declared.Issuer.{Issuer}
use Rattle.trust.specs.Trust.{one_point, two_points, points_fit, knows, found, issuer_of, holds, names_of, linked}
use Rattle.trust.specs.declared.Points.{Points}

pub one-pinned : (newest : Certificate) → Pinned Points (one_point newest)
one-pinned newest = pinned _

pub both-pinned : (newest previous : Certificate) → Pinned Points (two_points newest previous)
both-pinned newest previous = pinned _

pub fit-pinned : (h : Points) → Pinned Bool (points_fit h)
fit-pinned h = pinned _

pub knows-pinned : (h : Points) (n : Name) → Pinned Bool (knows h n)
knows-pinned h n = pinned _

pub find-pinned : (h : Points) (n : Name) → Pinned (Option Issuer) (found h n)
find-pinned h n = pinned _

pub issuer-pinned : (h : Points) (i : Issuer) (dv : Certificate) → Pinned Certificate (issuer_of h i dv)
issuer-pinned h i dv = pinned _

pub linked-pinned : (h : Points) (link : Certificate) → Pinned Points (linked h link)
linked-pinned h link = pinned _

pub holds-pinned : (h : Points) (i : Issuer) (stands : Bool) → Pinned Bool (holds h i stands)
holds-pinned h i stands = pinned _

pub names-pinned : (h : Points) → Pinned Listed (names_of h)
names-pinned h = pinned _
