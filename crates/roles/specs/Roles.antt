-- "Top two bits: 11 CVCA, 10 domestic official DV, 01 other DV, 00 terminal". Assumes nothing: these are definitions.
use Rattle.std.specs.Prelude.{ℕ, Bool, ◌||◌, eqb}
use Rattle.roles.specs.declared.Role.{Role}
use Rattle.roles.specs.declared.Role.TheVariants.{Cvca, OfficialDv, OtherDv, Terminal}

abbrev pub role_number : Role → ℕ
role_number Cvca = 3
role_number OfficialDv = 2
role_number OtherDv = 1
role_number Terminal = 0

abbrev pub is_cvca : Role → Bool
is_cvca r = eqb (role_number r) (role_number Cvca)

abbrev pub is_official : Role → Bool
is_official r = eqb (role_number r) (role_number OfficialDv)

abbrev pub is_terminal : Role → Bool
is_terminal r = eqb (role_number r) (role_number Terminal)

-- either DV
abbrev pub is_dv : Role → Bool
is_dv r = is_official r || eqb (role_number r) (role_number OtherDv)
