-- "A state is outside its limits exactly when": the rungs that a session has. Assumes nothing: these are definitions.
use Rattle.std.specs.Prelude.{ℕ, Bool, true, not, ◌&&◌, ◌||◌, eqb, Option, Some, None}
use Rattle.rights.specs.Rights.{rights_fit, role_of}
use Rattle.roles.specs.Roles.{is_cvca, is_dv, is_terminal}
use Rattle.certificate.specs.Certificate.{certificate_fits}
use Rattle.keys.specs.Keys.{key_fits, key_stands}
use Rattle.certificate.specs.declared.Certificate.{Certificate}
use Rattle.rights.specs.declared.Rights.{Rights}
use Rattle.run.specs.declared.Choice.{Choice}
use Rattle.run.specs.declared.Step.{Step}
use Rattle.run.specs.Run.{password_of, rights_named, is_pin}
use Rattle.standing.specs.declared.Reach.{Reach}
use Rattle.standing.specs.declared.Reach.TheVariants.{Empty, ToDv, ToTerminal}
use Rattle.standing.specs.declared.Chain.{Chain}
use Rattle.standing.specs.declared.Stage.{Stage}
use Rattle.standing.specs.declared.Stage.TheVariants.{Idle, Run, Announced, Challenged, Proven, ChipKeyChosen, Authenticated}
use Rattle.session.specs.declared.Context.{Context}
use Rattle.standing.specs.Standing.{opened_by_pin, opened_by_can, has_rights, has_dv, has_terminal, from_announced}

-- "rights value": confirmed rights, and those that a running choice names, have at most 40 bits
abbrev pub granted_fits : Option Rights → Bool
granted_fits (Some r) = rights_fit r
granted_fits None = true

-- each certificate that stands has its role
unfoldable pub trusted_fits : Rights → Bool
trusted_fits r = rights_fit r && is_cvca (role_of r)

unfoldable pub dv_fits : Certificate → Bool
dv_fits p = certificate_fits p && is_dv (role_of p.rights)

unfoldable pub terminal_fits : Certificate → Bool
terminal_fits p = certificate_fits p && is_terminal (role_of p.rights)

abbrev pub reach_fits : Reach → (dv terminal : Certificate) → Bool
reach_fits Empty dv terminal = true
reach_fits (ToDv trusted) dv terminal = trusted_fits trusted && dv_fits dv
reach_fits (ToTerminal trusted) dv terminal = trusted_fits trusted && dv_fits dv && terminal_fits terminal

unfoldable pub chain_fits : Chain → Bool
chain_fits c = reach_fits c.reach c.dv c.terminal

-- "a PIN run stands at counter 0", whatever its step
abbrev pub run_fits : Choice → Step → ℕ → Bool
run_fits c p pin = not (is_pin (password_of c) && eqb pin 0) && granted_fits (rights_named c)

abbrev pub stage_fits : Stage → ℕ → Bool
stage_fits Idle pin = true
stage_fits (Run c p) pin = run_fits c p pin
stage_fits Announced pin = true
stage_fits Challenged pin = true
stage_fits Proven pin = true
stage_fits ChipKeyChosen pin = true
stage_fits Authenticated pin = true

abbrev pub implies : Bool → Bool → Bool
implies a b = not a || b

unfoldable pub ground_fits : Context → Bool
ground_fits c =
    -- "confirmed rights stand outside a session opened by PIN or CAN"
    implies (has_rights c.confirmed) (opened_by_pin c.opened || opened_by_can c.opened)
    -- "a chain .. lacks them"
    && implies (has_dv c.chain) (has_rights c.confirmed)
    -- "or a stage from announced on lacks them, or such a stage lacks its terminal or announced key"
    && implies (from_announced c.stage) (has_rights c.confirmed && has_terminal c.chain && key_stands c.key)

unfoldable pub context_fits : Context → ℕ → Bool
context_fits c pin = granted_fits c.confirmed && chain_fits c.chain && stage_fits c.stage pin && key_fits c.key && ground_fits c
