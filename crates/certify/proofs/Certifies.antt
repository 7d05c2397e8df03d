-- A repeated name, over plain values. Assumes nothing.
use mathlib.Core.Bool.{Bool, ◌&&◌, ◌||◌}
use mathlib.Core.Path.{◌≡◌}
use Rattle.names.specs.Names.{same_name}
use Rattle.roles.specs.Roles.{is_terminal}
use Rattle.names.specs.declared.Name.{Name}
use Rattle.certificate.specs.declared.Certificate.{Certificate}
use Rattle.roles.specs.declared.Role.{Role}
use Rattle.trust.specs.Trust.{knows}
use Rattle.trust.specs.declared.Points.{Points}
use Rattle.certify.specs.Certify.{repeats}

pub repeats-is : (h : Points) (dv : Certificate) (n : Name) (o : Role) (a b l : Bool) → a ≡ knows h n → b ≡ same_name n dv.name → l ≡ is_terminal o → a || (l && b) ≡ repeats h dv n o
unfolding repeats
repeats-is h dv n o a b l e f g = rw (e, f, g)
