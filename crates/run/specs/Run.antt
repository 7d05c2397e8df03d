-- A password run: its choice and its steps. Assumes nothing: these are definitions.
use Rattle.std.specs.Prelude.{ℕ, Bool, eqb, Option, Some, None}
use Rattle.run.specs.declared.Password.{Password}
use Rattle.run.specs.declared.Password.TheVariants.{Mrz, Can, Pin, Puk}
use Rattle.run.specs.declared.Choice.{Choice}
use Rattle.run.specs.declared.Choice.TheVariants.{Mrz as ChooseMrz, Can as ChooseCan, CanFor, Pin as ChoosePin, PinFor, Puk as ChoosePuk}
use Rattle.run.specs.declared.Step.{Step}
use Rattle.run.specs.declared.Step.TheVariants.{Nonce, Map, Agree, Confirm}
use Rattle.rights.specs.declared.Rights.{Rights}

-- "83 with 01 MRZ, 02 CAN, 03 PIN or 04 PUK"
abbrev pub password_number : Password → ℕ
password_number Mrz = 0x01
password_number Can = 0x02
password_number Pin = 0x03
password_number Puk = 0x04

abbrev pub is_pin : Password → Bool
is_pin p = eqb (password_number p) (password_number Pin)

abbrev pub is_can : Password → Bool
is_can p = eqb (password_number p) (password_number Can)

abbrev pub is_puk : Password → Bool
is_puk p = eqb (password_number p) (password_number Puk)

-- the password of a choice, and the rights that it names
abbrev pub password_of : Choice → Password
password_of ChooseMrz = Mrz
password_of ChooseCan = Can
password_of (CanFor r) = Can
password_of ChoosePin = Pin
password_of (PinFor r) = Pin
password_of ChoosePuk = Puk

abbrev pub rights_named : Choice → Option Rights
rights_named ChooseMrz = None
rights_named ChooseCan = None
rights_named (CanFor r) = Some r
rights_named ChoosePin = None
rights_named (PinFor r) = Some r
rights_named ChoosePuk = None

abbrev pub step_number : Step → ℕ
step_number Nonce = 1
step_number Map = 2
step_number Agree = 3
step_number Confirm = 4

abbrev pub is_last : Step → Bool
is_last p = eqb (step_number p) (step_number Confirm)

abbrev pub next_step : Step → Step
next_step Nonce = Map
next_step Map = Agree
next_step Agree = Confirm
-- the fourth has none after it
next_step Confirm = Confirm

-- "PIN counter 0..3 (start 3)"
abbrev pub tries : ℕ
tries = 3
