-- "Commands": the checks of each after moment and the data's form, certificates apart, over the parts of the token that they look at. Assumes nothing: these are definitions.
use Rattle.std.specs.Prelude.{ℕ, Bool, false, cond, not, ◌&&◌, ◌||◌, eqb, Option}
use Rattle.names.specs.Names.{same_name}
use Rattle.brought.specs.Brought.{brought_none, with_announced}
use Rattle.rights.specs.Rights.{has_right, reads_group, pin_management}
use Rattle.names.specs.declared.Name.{Name}
use Rattle.keys.specs.declared.Key.{Key}
use Rattle.brought.specs.declared.Brought.{Brought}
use Rattle.run.specs.declared.Choice.{Choice}
use Rattle.run.specs.declared.Step.{Step}
use Rattle.run.specs.Run.{step_number}
use Rattle.event.specs.declared.Refusal.TheVariants.{Lacking, Moment, Data, NotFound}
use Rattle.event.specs.declared.Event.{Event}
use Rattle.event.specs.declared.Event.TheVariants.{Refused, Announced as IsAnnounced, Authenticated as IsAuthenticated, ChipLost, ReadAllowed, PinChanged, NotPassed}
use Rattle.plans.specs.declared.Job.TheVariants.{Step as StepJob, ChipKey, PinChange}
use Rattle.plans.specs.declared.Ending.TheVariants.{Settled, Awaits}
use Rattle.plans.specs.declared.Plan.{Plan}
use Rattle.plans.specs.Plans.{settled_by, awaits_by}
use Rattle.outcome.specs.Outcome.{choose_event, passed_event, other_event, grounded, unblock_event}
use Rattle.fields.specs.declared.asked.Content.{Content}
use Rattle.fields.specs.declared.asked.Content.TheVariants.{Step as StepData, Chip}
use Rattle.standing.specs.declared.Stage.{Stage}
use Rattle.standing.specs.declared.Stage.TheVariants.{Idle, Run, Announced, Challenged, Proven, ChipKeyChosen, Authenticated}
use Rattle.session.specs.declared.Context.{Context}
use Rattle.standing.specs.Standing.{opened_by_pin}
use Rattle.authorization.specs.Authorization.{authorization}
use Rattle.run.specs.declared.Password.{Password}

-- "Bit 5 is that of the effective authorization"
abbrev pub manages_pin : Context → Bool
manages_pin z = has_right pin_management (authorization z)

-- ---- Choose password

unfoldable pub choose_plan : (pin : ℕ) (active : Bool) (puk : ℕ) → Option Password → Choice → Plan
choose_plan pin active puk opened c = settled_by (choose_event pin active puk opened c)

-- ---- Run step

-- "7C holding nothing, 81, 83, 85": the data of this step
abbrev pub is_for : Content → Step → Bool
is_for (StepData q) p = eqb (step_number q) (step_number p)
is_for Chip p = false

unfoldable pub run_plan : ℕ → Choice → Step → Content → Plan
run_plan pin c p x = cond (not (is_for x p)) (settled_by (Refused Data)) (awaits_by (StepJob p) (passed_event c p) (other_event c p pin))

-- ---- the chip key: "7C holding 80 (1 to 140)"; "compared whole with 91"

unfoldable pub chip_plan : Key → Content → Plan
chip_plan announced (StepData q) = settled_by (Refused Data)
chip_plan announced Chip = record { ending = Awaits ChipKey IsAuthenticated ChipLost; brought = with_announced brought_none announced }

-- 86 is a run step in a run, and the chip key's when one is chosen
unfoldable pub general_plan : Key → ℕ → Stage → Content → Plan
general_plan announced pin (Run c p) x = run_plan pin c p x
general_plan announced pin ChipKeyChosen x = chip_plan announced x
-- the moment has refused these before
general_plan announced pin Idle x = settled_by (Refused Moment)
general_plan announced pin Announced x = settled_by (Refused Moment)
general_plan announced pin Challenged x = settled_by (Refused Moment)
general_plan announced pin Proven x = settled_by (Refused Moment)
general_plan announced pin Authenticated x = settled_by (Refused Moment)

-- ---- Announce: "83 the chain's terminal (6A88)"

unfoldable pub announce_plan : Name → Brought → Plan
announce_plan terminal b = cond (same_name b.name terminal) (record { ending = Settled IsAnnounced; brought = b }) (settled_by (Refused NotFound))

-- ---- Read: "9000 without data, or 6982"

unfoldable pub read_plan : Context → ℕ → Plan
read_plan z n = settled_by (grounded (reads_group (authorization z) n) ReadAllowed)

-- ---- Change PIN: "session opened by PIN and PIN active, or authenticated with bit 5. Not passed 6300, same state"

unfoldable pub change_plan : Context → Bool → Plan
change_plan z active = cond ((opened_by_pin z.opened && active) || manages_pin z) (awaits_by PinChange PinChanged NotPassed) (settled_by (Refused Lacking))

-- ---- Unblock: "opened by PUK (takes one use; none left 6983), or bit 5. Counter 3 is 6985, after 6983"

unfoldable pub unblock_plan : Context → (pin puk : ℕ) → Plan
unblock_plan z pin puk = settled_by (unblock_event z.opened (manages_pin z) pin puk)

-- ---- Activate, deactivate: "bit 5; repeating is 9000"

unfoldable pub active_plan : Context → Event → Plan
active_plan z done = settled_by (grounded (manages_pin z) done)
