-- "Effective authorization is the bitwise AND of the low 38 bits of trust point, DV, terminal and confirmed rights, once
-- authenticated; zero otherwise, and zero if the CAN opened and bit 4 is missing from it." Assumes nothing: these are definitions.
use Rattle.std.specs.Prelude.{cond, not, ◌&&◌, Option, Some, None}
use Rattle.rights.specs.Rights.{common, has_right, can_allowed}
use Rattle.rights.specs.declared.Rights.{Rights}
use Rattle.standing.specs.declared.Reach.{Reach}
use Rattle.standing.specs.declared.Reach.TheVariants.{Empty, ToDv, ToTerminal}
use Rattle.standing.specs.declared.Chain.{Chain}
use Rattle.session.specs.declared.Context.{Context}
use Rattle.standing.specs.Standing.{opened_by_can, is_authenticated}

abbrev pub nothing : Rights
nothing = record { 0 = 0 }

abbrev pub trusted_of : Reach → Rights
trusted_of Empty = nothing
trusted_of (ToDv r) = r
trusted_of (ToTerminal r) = r

abbrev pub confirmed_of : Option Rights → Rights
confirmed_of (Some r) = r
confirmed_of None = nothing

unfoldable pub shared_by : Chain → Option Rights → Rights
shared_by c g = common (trusted_of c.reach) c.dv.rights c.terminal.rights (confirmed_of g)

unfoldable pub authorization : Context → Rights
authorization c =
    cond (not (is_authenticated c.stage)) nothing
    (cond (opened_by_can c.opened && not (has_right can_allowed (shared_by c.chain c.confirmed))) nothing
    (shared_by c.chain c.confirmed))
