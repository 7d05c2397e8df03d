-- Two permitted outcomes of each public function are equal. Assumes nothing.
use Rattle.std.specs.Prelude.{Option}
use Prim.Native.Nat.{ℕ}
use mathlib.Core.Bool.{Bool}
use Rattle.laws.proofs.Pinned.{Pinned, pinned}
use Rattle.run.specs.Run.{password_number, password_of, rights_named, is_pin, is_can, is_puk, step_number, is_last, next_step}
use Rattle.run.specs.declared.Password.{Password}
use Rattle.run.specs.declared.Choice.{Choice}
use Rattle.run.specs.declared.Step.{Step}
use Rattle.rights.specs.declared.Rights.{Rights}

pub password-number-pinned : (p : Password) → Pinned ℕ (password_number p)
password-number-pinned p = pinned _

pub is-pin-pinned : (p : Password) → Pinned Bool (is_pin p)
is-pin-pinned p = pinned _

pub is-can-pinned : (p : Password) → Pinned Bool (is_can p)
is-can-pinned p = pinned _

pub is-puk-pinned : (p : Password) → Pinned Bool (is_puk p)
is-puk-pinned p = pinned _

pub password-pinned : (c : Choice) → Pinned Password (password_of c)
password-pinned c = pinned _

pub rights-pinned : (c : Choice) → Pinned (Option Rights) (rights_named c)
rights-pinned c = pinned _

pub step-number-pinned : (p : Step) → Pinned ℕ (step_number p)
step-number-pinned p = pinned _

pub is-last-pinned : (p : Step) → Pinned Bool (is_last p)
is-last-pinned p = pinned _

pub next-pinned : (p : Step) → Pinned Step (next_step p)
next-pinned p = pinned _
