-- The limits, as the documents name them. Assumes nothing.
use mathlib.Core.Bool.{Bool, not, ◌&&◌}
use mathlib.Core.Path.{◌≡◌}
use lib.Dec.{leb}
use Rattle.days.specs.Days.{day_fits}
use Rattle.trust.specs.Trust.{points_fit, knows}
use Rattle.standing.specs.Standing.{has_dv}
use Rattle.session_limits.specs.SessionLimits.{context_fits}
use Rattle.token.specs.declared.state.Token.{Token}
use Rattle.token.specs.State.{uses}
use Rattle.run.specs.Run.{tries}
use Rattle.token.specs.Limits.{selectable, in_limits}

pub limits-all : (t : Token) (dated trusted parts held known chosen : Bool) → dated ≡ day_fits t.today → trusted ≡ points_fit t.points
    → parts ≡ context_fits t.session.context t.pin → held ≡ has_dv t.session.context.chain → known ≡ knows t.points t.session.context.chain.dv.name
    → chosen ≡ selectable t.session.selected t.points held
    → leb t.pin tries && leb t.puk uses && dated && trusted && parts && not (held && known) && chosen ≡ in_limits t
unfolding in_limits
limits-all t dated trusted parts held known chosen a b c d e f = rw (f, a, b, c, d, e)
