-- Two permitted outcomes of each public function are equal. Assumes nothing.
use Rattle.std.specs.Prelude.{Option}
use Rattle.laws.proofs.Pinned.{Pinned, pinned}
use Rattle.keys.specs.declared.Key.{Key}
use Rattle.event.specs.declared.Issuer.{Issuer}
use Rattle.session.specs.Session.{no_session, bare_session, rechosen, at_stage, announced_with, chained_to, selecting}
use Rattle.run.specs.declared.Choice.{Choice}
use Rattle.standing.specs.declared.Chain.{Chain}
use Rattle.standing.specs.declared.Stage.{Stage}
use Rattle.session.specs.declared.Session.{Session}
use Prim.Native.Nat.{ℕ}
use mathlib.Core.Bool.{Bool}
use Rattle.rights.specs.declared.Rights.{Rights}
use Rattle.command.specs.declared.kind.Kind.{Kind}
use Rattle.moment.specs.Moment.{moment_of}
use Rattle.session_limits.specs.SessionLimits.{context_fits}
use Rattle.authorization.specs.Authorization.{authorization}
use Rattle.session.specs.declared.Context.{Context}
use Rattle.standing.specs.Standing.{no_chain}
use Rattle.standing.specs.declared.Stage.TheVariants.{Announced}
use Rattle.run.specs.declared.Password.{Password}

pub bare-pinned : (o : Option Password) (g : Option Rights) (s : Stage) → Pinned Session (bare_session o g s)
bare-pinned o g s = pinned _

pub none-pinned : Pinned Session no_session
none-pinned = pinned _

pub rechosen-pinned : (z : Session) (c : Choice) → Pinned Session (rechosen z c)
rechosen-pinned z c = pinned _

pub at-pinned : (z : Session) (s : Stage) → Pinned Session (at_stage z s)
at-pinned z s = pinned _

pub announced-pinned : (z : Session) (k : Key) → Pinned Session (announced_with z k)
announced-pinned z k = pinned _

pub chained-pinned : (z : Session) (c : Chain) → Pinned Session (chained_to z c)
chained-pinned z c = pinned _

pub selecting-pinned : (z : Session) (i : Issuer) → Pinned Session (selecting z i)
selecting-pinned z i = pinned _

pub proof-lost-pinned : (z : Session) → Pinned Session (at_stage z Announced)
proof-lost-pinned z = pinned _

pub unchained-pinned : (z : Session) → Pinned Session (chained_to z no_chain)
unchained-pinned z = pinned _

-- ---- moment, limits, authorization

pub moment-pinned : (z : Session) (k : Kind) (chained : Bool) → Pinned Bool (moment_of z k chained)
moment-pinned z k chained = pinned _

pub fits-pinned : (c : Context) (pin : ℕ) → Pinned Bool (context_fits c pin)
fits-pinned c pin = pinned _

pub authorization-pinned : (c : Context) → Pinned Rights (authorization c)
authorization-pinned c = pinned _
