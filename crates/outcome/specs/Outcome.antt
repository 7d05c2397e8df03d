-- What a command comes to once its data is read: the order of its own checks, "6982; 6A88; 6983; 6984; verdict" with the exceptions
-- that stand with the commands, each check a line with its refusal; and what a run step leads to. Verify certificate is in certify.
-- Assumes nothing: these are definitions.
use Rattle.std.specs.Prelude.{ℕ, ◌-◌, Bool, cond, not, ◌&&◌, ◌||◌, eqb, Option}
use Rattle.run.specs.declared.Choice.{Choice}
use Rattle.run.specs.declared.Step.{Step}
use Rattle.run.specs.Run.{password_of, is_pin, is_puk, is_last, tries}
use Rattle.event.specs.declared.Refusal.TheVariants.{Lacking, Blocked, Unusable, Moment}
use Rattle.event.specs.declared.Event.{Event}
use Rattle.event.specs.declared.Event.TheVariants.{Refused, Chosen, StepPassed, Opened as IsOpened, RunClosed, TrialLost, UnblockedByPuk, UnblockedByRight}
use Rattle.standing.specs.Standing.{opened_by_can, opened_by_puk}
use Rattle.run.specs.declared.Password.{Password}

-- ---- Choose password

abbrev pub choose_event : (pin : ℕ) (active : Bool) (puk : ℕ) → Option Password → Choice → Event
choose_event pin active puk opened c =
    -- "PIN: counter 0 is 6983"
    cond (is_pin (password_of c) && eqb pin 0) (Refused Blocked)
    -- "inactive 6984"
    (cond (is_pin (password_of c) && not active) (Refused Unusable)
    -- "then counter 1 unless the CAN opened this session is 6985"
    (cond (is_pin (password_of c) && eqb pin 1 && not (opened_by_can opened)) (Refused Moment)
    -- "PUK with no uses is 6983"
    (cond (is_puk (password_of c) && eqb puk 0) (Refused Blocked)
    (Chosen c pin))))

-- ---- Run step

-- "Fourth: passed opens the session afresh"
abbrev pub passed_event : Choice → Step → Event
passed_event c p = cond (is_last p) (IsOpened c) (StepPassed c p)

-- "otherwise PIN counter down one and 63CX, other passwords 6300, run closed"
abbrev pub trial_of : Choice → ℕ → Event
trial_of c pin = cond (is_pin (password_of c)) (TrialLost (pin - 1)) RunClosed

-- "Steps 1 to 3 not passed: 6300, run closed"
abbrev pub other_event : Choice → Step → ℕ → Event
other_event c p pin = cond (is_last p) (trial_of c pin) RunClosed

-- ---- Read, activate, deactivate: "With no such ground: 6982"

abbrev pub grounded : Bool → Event → Event
grounded has_ground done = cond has_ground done (Refused Lacking)

-- ---- Unblock

abbrev pub unblock_event : Option Password → (right : Bool) (pin puk : ℕ) → Event
unblock_event opened right pin puk =
    -- "opened by PUK .., or bit 5"; "With no such ground: 6982"
    cond (not (opened_by_puk opened || right)) (Refused Lacking)
    -- "takes one use; none left 6983"
    (cond (opened_by_puk opened && eqb puk 0) (Refused Blocked)
    -- "Counter 3 is 6985, after 6983"
    (cond (eqb pin tries) (Refused Moment)
    -- with both grounds the PUK pays
    (cond (opened_by_puk opened) UnblockedByPuk UnblockedByRight)))
