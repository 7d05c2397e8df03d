-- What stands in a session, and the questions about it. Assumes nothing: these are definitions.
use Rattle.std.specs.Prelude.{ℕ, Bool, true, false, ◌&&◌, leb, eqb, Option, Some, None}
use Rattle.certificate.specs.Certificate.{no_certificate}
use Rattle.run.specs.Run.{password_number}
use Rattle.run.specs.declared.Password.TheVariants.{Can, Pin, Puk}
use Rattle.standing.specs.declared.Reach.{Reach}
use Rattle.standing.specs.declared.Reach.TheVariants.{Empty, ToDv, ToTerminal}
use Rattle.standing.specs.declared.Chain.{Chain}
use Rattle.standing.specs.declared.Stage.{Stage}
use Rattle.standing.specs.declared.Stage.TheVariants.{Run, Idle, Announced as AtAnnounced, Challenged as AtChallenged, Proven as AtProven, ChipKeyChosen as AtChosen, Authenticated as AtAuthenticated}
use Rattle.rights.specs.declared.Rights.{Rights}
use Rattle.run.specs.declared.Password.{Password}
use Rattle.event.specs.declared.Issuer.{Issuer}

-- ---- who opened it: a session is open when, and only when, a password opened it

abbrev pub is_open : Option Password → Bool
is_open None = false
is_open (Some p) = true

-- the number of the password that opened it, 0 of none
abbrev pub opener_number : Option Password → ℕ
opener_number None = 0
opener_number (Some p) = password_number p

abbrev pub opened_by_pin : Option Password → Bool
opened_by_pin o = eqb (opener_number o) (password_number Pin)

abbrev pub opened_by_can : Option Password → Bool
opened_by_can o = eqb (opener_number o) (password_number Can)

abbrev pub opened_by_puk : Option Password → Bool
opened_by_puk o = eqb (opener_number o) (password_number Puk)

-- ---- what stands in it

abbrev pub has_rights : Option Rights → Bool
has_rights (Some r) = true
has_rights None = false

abbrev pub reaches_dv : Reach → Bool
reaches_dv Empty = false
reaches_dv (ToDv r) = true
reaches_dv (ToTerminal r) = true

abbrev pub reaches_terminal : Reach → Bool
reaches_terminal Empty = false
reaches_terminal (ToDv r) = false
reaches_terminal (ToTerminal r) = true

abbrev pub has_dv : Chain → Bool
has_dv c = reaches_dv c.reach

abbrev pub has_terminal : Chain → Bool
has_terminal c = reaches_terminal c.reach

abbrev pub is_selected : Option Issuer → Bool
is_selected None = false
is_selected (Some i) = true

unfoldable pub no_chain : Chain
no_chain = record { reach = Empty; dv = no_certificate; terminal = no_certificate }

-- ---- the stage

-- "one stage: no run, password run with its step, announced, challenged, terminal proven, chip key chosen, authenticated":
-- how far a session has come, a run apart from the others
abbrev pub rank : Stage → ℕ
rank (Run c p) = 0
rank Idle = 1
rank AtAnnounced = 2
rank AtChallenged = 3
rank AtProven = 4
rank AtChosen = 5
rank AtAuthenticated = 6

-- no run is open
abbrev pub no_run : Stage → Bool
no_run s = leb (rank Idle) (rank s)

-- no run is open, and the terminal is not yet proven
abbrev pub unproven : Stage → Bool
unproven s = no_run s && leb (rank s) (rank AtChallenged)

-- the stages from announced on, one by one
abbrev pub is_announced : Stage → Bool
is_announced s = eqb (rank s) (rank AtAnnounced)

abbrev pub is_challenged : Stage → Bool
is_challenged s = eqb (rank s) (rank AtChallenged)

abbrev pub is_proven : Stage → Bool
is_proven s = eqb (rank s) (rank AtProven)

abbrev pub is_chosen : Stage → Bool
is_chosen s = eqb (rank s) (rank AtChosen)

abbrev pub is_authenticated : Stage → Bool
is_authenticated s = eqb (rank s) (rank AtAuthenticated)

-- "a stage from announced on", and from challenged and from proven on
abbrev pub from_announced : Stage → Bool
from_announced s = leb (rank AtAnnounced) (rank s)

abbrev pub from_challenged : Stage → Bool
from_challenged s = leb (rank AtChallenged) (rank s)

abbrev pub from_proven : Stage → Bool
from_proven s = leb (rank AtProven) (rank s)
