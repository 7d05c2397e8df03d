-- Two permitted outcomes of each public function are equal. Assumes nothing.
use Rattle.std.specs.Prelude.{Option}
use Prim.Native.Nat.{ℕ}
use mathlib.Core.Bool.{Bool}
use Rattle.laws.proofs.Pinned.{Pinned, pinned}
use Rattle.days.specs.declared.Day.{Day}
use Rattle.brought.specs.declared.Brought.{Brought}
use Rattle.names.specs.declared.Name.{Name}
use Rattle.certificate.specs.declared.Certificate.{Certificate}
use Rattle.run.specs.declared.Choice.{Choice}
use Rattle.event.specs.declared.Event.{Event}
use Rattle.plans.specs.declared.Plan.{Plan}
use Rattle.fields.specs.declared.asked.Content.{Content}
use Rattle.trust.specs.declared.Points.{Points}
use Rattle.standing.specs.declared.Chain.{Chain}
use Rattle.session.specs.declared.Context.{Context}
use Rattle.checks.specs.Checks.{choose_plan, general_plan, announce_plan, read_plan, change_plan, unblock_plan, active_plan}
use Rattle.certify.specs.Certify.{select_plan, verify_plan}
use Rattle.run.specs.declared.Password.{Password}
use Rattle.event.specs.declared.Issuer.{Issuer}

pub choose-pinned : (pin puk : ℕ) (active : Bool) (opened : Option Password) (c : Choice) → Pinned Plan (choose_plan pin active puk opened c)
choose-pinned pin puk active opened c = pinned _

pub general-pinned : (z : Context) (pin : ℕ) (x : Content) → Pinned Plan (general_plan z.key pin z.stage x)
general-pinned z pin x = pinned _

pub announce-pinned : (terminal : Name) (b : Brought) → Pinned Plan (announce_plan terminal b)
announce-pinned terminal b = pinned _

pub read-pinned : (z : Context) (n : ℕ) → Pinned Plan (read_plan z n)
read-pinned z n = pinned _

pub change-pin-pinned : (z : Context) (active : Bool) → Pinned Plan (change_plan z active)
change-pin-pinned z active = pinned _

pub unblock-pinned : (z : Context) (pin puk : ℕ) → Pinned Plan (unblock_plan z pin puk)
unblock-pinned z pin puk = pinned _

pub set-active-pinned : (z : Context) (done : Event) → Pinned Plan (active_plan z done)
set-active-pinned z done = pinned _

pub select-pinned : (h : Points) (chain : Chain) (n : Name) → Pinned Plan (select_plan h chain n)
select-pinned h chain n = pinned _

pub verify-pinned : (h : Points) (dv : Certificate) (today : Day) (selected : Option Issuer) (b : Brought) → Pinned Plan (verify_plan h dv today selected b)
verify-pinned h dv today selected b = pinned _
