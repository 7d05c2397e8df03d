-- Two permitted outcomes of each public function are equal. Assumes nothing.
use Rattle.std.specs.Prelude.{Option}
use Prim.Native.Nat.{ℕ}
use mathlib.Core.Bool.{Bool}
use Rattle.laws.proofs.Pinned.{Pinned, pinned}
use Rattle.standing.specs.Standing.{no_chain, is_open, opener_number, opened_by_pin, opened_by_can, opened_by_puk, has_rights, has_dv, has_terminal, is_selected, rank, no_run, unproven, from_announced}
use Rattle.standing.specs.declared.Chain.{Chain}
use Rattle.standing.specs.declared.Stage.{Stage}
use Rattle.rights.specs.declared.Rights.{Rights}
use Rattle.run.specs.declared.Password.{Password}
use Rattle.event.specs.declared.Issuer.{Issuer}
use lib.Dec.{eqb}
use Rattle.run.specs.Run.{password_number}

pub is-open-pinned : (o : Option Password) → Pinned Bool (is_open o)
is-open-pinned o = pinned _

pub by-pin-pinned : (o : Option Password) → Pinned Bool (opened_by_pin o)
by-pin-pinned o = pinned _

pub by-can-pinned : (o : Option Password) → Pinned Bool (opened_by_can o)
by-can-pinned o = pinned _

pub by-puk-pinned : (o : Option Password) → Pinned Bool (opened_by_puk o)
by-puk-pinned o = pinned _

pub chain-none-pinned : Pinned Chain no_chain
chain-none-pinned = pinned _

pub has-dv-pinned : (c : Chain) → Pinned Bool (has_dv c)
has-dv-pinned c = pinned _

pub has-terminal-pinned : (c : Chain) → Pinned Bool (has_terminal c)
has-terminal-pinned c = pinned _

pub has-rights-pinned : (g : Option Rights) → Pinned Bool (has_rights g)
has-rights-pinned g = pinned _

pub stands-pinned : (s : Option Issuer) → Pinned Bool (is_selected s)
stands-pinned s = pinned _

pub rank-pinned : (s : Stage) → Pinned ℕ (rank s)
rank-pinned s = pinned _

pub no-run-pinned : (s : Stage) → Pinned Bool (no_run s)
no-run-pinned s = pinned _

pub unproven-pinned : (s : Stage) → Pinned Bool (unproven s)
unproven-pinned s = pinned _

pub from-announced-pinned : (s : Stage) → Pinned Bool (from_announced s)
from-announced-pinned s = pinned _

pub opened-by-pinned : (o : Option Password) (p : Password) → Pinned Bool (eqb (opener_number o) (password_number p))
opened-by-pinned o p = pinned _
