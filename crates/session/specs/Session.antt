-- "The session holds which password opened it, the confirmed rights, the chain so far, the selected issuer and one stage."
-- Among the definitions, record literals of a session stand here alone. Assumes nothing: these are definitions.
use Rattle.std.specs.Prelude.{Option, Some, None}
use Rattle.keys.specs.Keys.{no_key}
use Rattle.keys.specs.declared.Key.{Key}
use Rattle.event.specs.declared.Issuer.{Issuer}
use Rattle.run.specs.declared.Choice.{Choice}
use Rattle.run.specs.declared.Step.TheVariants.{Nonce}
use Rattle.standing.specs.declared.Chain.{Chain}
use Rattle.standing.specs.declared.Stage.{Stage}
use Rattle.standing.specs.declared.Stage.TheVariants.{Idle, Run, Announced}
use Rattle.standing.specs.Standing.{no_chain}
use Rattle.session.specs.declared.Session.{Session}
use Rattle.rights.specs.declared.Rights.{Rights}
use Rattle.run.specs.declared.Password.{Password}

-- nothing but who opened it, its rights and its stage
abbrev pub bare_session : Option Password → Option Rights → Stage → Session
bare_session o g s = record { context = record { opened = o; confirmed = g; chain = no_chain; stage = s; key = no_key }; selected = None }

abbrev pub no_session : Session
no_session = bare_session None None Idle

-- "opens a run and drops confirmed rights, chain, selection and stage, but not which password opened the session"
abbrev pub rechosen : Session → Choice → Session
rechosen z c = bare_session z.context.opened None (Run c Nonce)

-- the same opener and rights, with this chain, stage, announced key and selection
abbrev pub renewed : Session → Chain → Stage → Key → Option Issuer → Session
renewed z c s k i = record { context = record { opened = z.context.opened; confirmed = z.context.confirmed; chain = c; stage = s; key = k }; selected = i }

-- nothing but the stage changes
abbrev pub at_stage : Session → Stage → Session
at_stage z s = renewed z z.context.chain s z.context.key z.selected

-- "Any challenge falls"
abbrev pub announced_with : Session → Key → Session
announced_with z k = renewed z z.context.chain Announced k z.selected

-- "Accepted: selection and announcement fall"
abbrev pub chained_to : Session → Chain → Session
chained_to z c = renewed z c Idle no_key None

-- an issuer is selected; a selection keeps a challenge
abbrev pub selecting : Session → Issuer → Session
selecting z i = record { context = z.context; selected = Some i }
