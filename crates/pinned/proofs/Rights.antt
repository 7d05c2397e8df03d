-- Two permitted outcomes of each public function are equal. Assumes nothing.
use Rattle.std.specs.Prelude.{Option}
use Prim.Native.Nat.{ℕ}
use mathlib.Core.Bool.{Bool}
use mathlib.Core.List.{List}
use Rattle.laws.proofs.Pinned.{Pinned, pinned}
use Rattle.rights.specs.Rights.{granted, rights_fit, role_of, common, has_right, reads_group, can_allowed, pin_management}
use Rattle.roles.specs.Roles.{role_number, is_cvca, is_official, is_terminal, is_dv}
use Rattle.rights.specs.declared.Rights.{Rights}
use Rattle.roles.specs.declared.Role.{Role}

pub rights-of-pinned : (s : List ℕ) → Pinned (Option Rights) (granted s)
rights-of-pinned s = pinned _

pub rights-fits-pinned : (r : Rights) → Pinned Bool (rights_fit r)
rights-fits-pinned r = pinned _

pub role-pinned : (r : Rights) → Pinned Role (role_of r)
role-pinned r = pinned _

pub common-pinned : (a b c d : Rights) → Pinned Rights (common a b c d)
common-pinned a b c d = pinned _

pub allows-can-pinned : (r : Rights) → Pinned Bool (has_right can_allowed r)
allows-can-pinned r = pinned _

pub manages-pin-pinned : (r : Rights) → Pinned Bool (has_right pin_management r)
manages-pin-pinned r = pinned _

pub reads-pinned : (r : Rights) (n : ℕ) → Pinned Bool (reads_group r n)
reads-pinned r n = pinned _

pub role-number-pinned : (r : Role) → Pinned ℕ (role_number r)
role-number-pinned r = pinned _

pub is-cvca-pinned : (r : Role) → Pinned Bool (is_cvca r)
is-cvca-pinned r = pinned _

pub is-official-pinned : (r : Role) → Pinned Bool (is_official r)
is-official-pinned r = pinned _

pub is-terminal-pinned : (r : Role) → Pinned Bool (is_terminal r)
is-terminal-pinned r = pinned _

pub is-dv-pinned : (r : Role) → Pinned Bool (is_dv r)
is-dv-pinned r = pinned _
