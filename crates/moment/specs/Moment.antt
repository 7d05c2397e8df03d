-- When each command may come. Assumes nothing: these are definitions.
use Rattle.std.specs.Prelude.{Bool, true, false, cond, not, ◌&&◌, ◌||◌}
use Rattle.command.specs.declared.kind.Kind.{Kind}
use Rattle.command.specs.declared.kind.Kind.TheVariants.{ChoosePassword, General, SelectIssuer, VerifyCertificate, Announce, Challenge, ProveTerminal, ChooseChipKey, Read, ChangePin, Unblock, Activate, Deactivate}
use Rattle.run.specs.Run.{is_last}
use Rattle.standing.specs.declared.Stage.{Stage}
use Rattle.standing.specs.declared.Stage.TheVariants.{Idle, Run, Announced as AtAnnounced, Challenged as AtChallenged, Proven as AtProven, ChipKeyChosen as AtChosen, Authenticated as AtAuthenticated}
use Rattle.session.specs.declared.Session.{Session}
use Rattle.standing.specs.Standing.{has_rights, has_terminal, is_selected, no_run, unproven, is_announced, is_challenged, is_proven, is_chosen}

-- "CLA 10 for steps 1 to 3, 00 for the fourth (else 6985)"; the chip key's "86 0000, CLA 00 (else 6985)"
abbrev pub general_moment : Stage → Bool → Bool
general_moment (Run c p) chained = cond (is_last p) (not chained) chained
general_moment Idle chained = false
general_moment AtAnnounced chained = false
general_moment AtChallenged chained = false
general_moment AtProven chained = false
general_moment AtChosen chained = not chained
general_moment AtAuthenticated chained = false

-- "While a run is open every other command but 86 is 6985"
unfoldable pub moment_of : Session → Kind → Bool → Bool
-- "Allowed any time, in a run too"
moment_of z ChoosePassword chained = true
moment_of z General chained = general_moment z.context.stage chained
-- "Both need confirmed rights and terminal not yet proven; verify also a selected issuer"
moment_of z SelectIssuer chained = has_rights z.context.confirmed && unproven z.context.stage
moment_of z VerifyCertificate chained = has_rights z.context.confirmed && unproven z.context.stage && is_selected z.selected
-- "Needs a terminal in the chain, not proven"
moment_of z Announce chained = has_terminal z.context.chain && unproven z.context.stage
-- "from announced or challenged"
moment_of z Challenge chained = is_announced z.context.stage || is_challenged z.context.stage
-- "from challenged"
moment_of z ProveTerminal chained = is_challenged z.context.stage
-- "when proven or chosen"
moment_of z ChooseChipKey chained = is_proven z.context.stage || is_chosen z.context.stage
moment_of z (Read n) chained = no_run z.context.stage
moment_of z ChangePin chained = no_run z.context.stage
moment_of z Unblock chained = no_run z.context.stage
moment_of z Activate chained = no_run z.context.stage
moment_of z Deactivate chained = no_run z.context.stage
