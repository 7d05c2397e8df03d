-- "A state is outside its limits exactly when ..". Assumes nothing: these are definitions.
use Rattle.std.specs.Prelude.{Bool, true, not, ◌&&◌, leb, Option, Some, None}
use Rattle.days.specs.Days.{day_fits}
use Rattle.trust.specs.Trust.{points_fit, knows, holds}
use Rattle.trust.specs.declared.Points.{Points}
use Rattle.standing.specs.Standing.{has_dv}
use Rattle.session_limits.specs.SessionLimits.{context_fits}
use Rattle.token.specs.declared.state.Token.{Token}
use Rattle.token.specs.State.{uses, context_of, chain_of}
use Rattle.run.specs.Run.{tries}
use Rattle.event.specs.declared.Issuer.{Issuer}

-- "Selectable: trust points and the chain's DV"
abbrev pub selectable : Option Issuer → Points → (dv : Bool) → Bool
selectable None h dv = true
selectable (Some i) h dv = holds h i dv

-- "a counter, name, date, rights value or stored length breaks this paper, two names among trust points and chain DV are equal,
-- the selection is not selectable, a PIN run stands at counter 0, confirmed rights stand outside a session opened by PIN or CAN,
-- a chain or a stage from announced on lacks them, or such a stage lacks its terminal or announced key"
unfoldable pub in_limits : Token → Bool
in_limits t =
    -- "a counter"
    leb t.pin tries
    && leb t.puk uses
    -- "date"
    && day_fits t.today
    -- the trust points' names, dates, rights, and "two names .. are equal"
    && points_fit t.points
    -- what a session has of these: session_limits
    && context_fits (context_of t) t.pin
    -- "two names among trust points and chain DV are equal"
    && not (has_dv (chain_of t) && knows t.points (chain_of t).dv.name)
    -- "the selection is not selectable"
    && selectable t.session.selected t.points (has_dv (chain_of t))
