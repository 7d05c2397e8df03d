-- A certificate as the token keeps it: "name, 40-bit rights, two dates, key number". Assumes nothing: these are definitions.
use Rattle.std.specs.Prelude.{ℕ, Bool, cond, not, ◌&&◌}
use Rattle.names.specs.Names.{no_name, name_fits}
use Rattle.days.specs.Days.{day_fits, before, later}
use Rattle.rights.specs.Rights.{rights_fit, role_of}
use Rattle.roles.specs.Roles.{is_official}
use Rattle.days.specs.declared.Day.{Day}
use Rattle.certificate.specs.declared.Certificate.{Certificate}

unfoldable pub no_certificate : Certificate
no_certificate = record { name = no_name; rights = record { 0 = 0 }; first = record { 0 = 0 }; last = record { 0 = 0 }; key = 0 }

-- a good name, rights of 40 bits, good dates, "first day not after last"
unfoldable pub certificate_fits : Certificate → Bool
certificate_fits p = name_fits p.name && rights_fit p.rights && day_fits p.first && day_fits p.last && not (before p.last p.first)

-- "its last day before today"
unfoldable pub expired : Certificate → Day → Bool
expired p today = before p.last today

unfoldable pub with_key : Certificate → ℕ → Certificate
with_key p k = record { name = p.name; rights = p.rights; first = p.first; last = p.last; key = k }

-- "Today becomes the first day if later, for .. terminals of a domestic official DV"
abbrev pub today_after : (dv terminal : Certificate) (today : Day) → Day
today_after dv terminal today = cond (is_official (role_of dv.rights)) (later today terminal.first) today
