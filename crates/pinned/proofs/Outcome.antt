-- Two permitted outcomes of each public function are equal. Assumes nothing.
use Rattle.std.specs.Prelude.{Option}
use Prim.Native.Nat.{ℕ, ◌-◌}
use mathlib.Core.Bool.{Bool}
use Rattle.laws.proofs.Pinned.{Pinned, pinned}
use Rattle.run.specs.declared.Choice.{Choice}
use Rattle.run.specs.declared.Step.{Step}
use Rattle.event.specs.declared.Event.{Event}
use Rattle.outcome.specs.Outcome.{choose_event, passed_event, other_event, grounded, unblock_event}
use Rattle.run.specs.declared.Password.{Password}

pub choose-pinned : (pin : ℕ) (active : Bool) (puk : ℕ) (opened : Option Password) (c : Choice) → Pinned Event (choose_event pin active puk opened c)
choose-pinned pin active puk opened c = pinned _

pub passed-pinned : (c : Choice) (p : Step) → Pinned Event (passed_event c p)
passed-pinned c p = pinned _

pub less-one-pinned : (n : ℕ) → Pinned ℕ (n - 1)
less-one-pinned n = pinned _

pub otherwise-pinned : (c : Choice) (p : Step) (pin : ℕ) → Pinned Event (other_event c p pin)
otherwise-pinned c p pin = pinned _

pub on-pinned : (has_ground : Bool) (done : Event) → Pinned Event (grounded has_ground done)
on-pinned has_ground done = pinned _

pub unblock-pinned : (opened : Option Password) (right : Bool) (pin puk : ℕ) → Pinned Event (unblock_event opened right pin puk)
unblock-pinned opened right pin puk = pinned _
