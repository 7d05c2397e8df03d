-- The limits of a session's parts, over plain values. Assumes nothing.
use Rattle.std.specs.Prelude.{Option}
use Prim.Native.Nat.{ℕ}
use mathlib.Core.Bool.{Bool, not, ◌&&◌, ◌||◌}
use mathlib.Core.Path.{◌≡◌}
use lib.Dec.{leb, eqb}
use Rattle.keys.specs.Keys.{key_stands}
use Rattle.rights.specs.declared.Rights.{Rights}
use Rattle.run.specs.declared.Choice.{Choice}
use Rattle.run.specs.declared.Password.{Password}
use Rattle.run.specs.declared.Step.{Step}
use Rattle.run.specs.Run.{password_of, rights_named, is_pin}
use Rattle.session.specs.declared.Context.{Context}
use Rattle.standing.specs.Standing.{opened_by_pin, opened_by_can, has_rights, has_dv, has_terminal, rank}
use Rattle.session_limits.specs.SessionLimits.{granted_fits, run_fits, ground_fits}

pub ground-is : (c : Context) (k : ℕ) (r p n d t a : Bool) → r ≡ has_rights c.confirmed → p ≡ opened_by_pin c.opened → n ≡ opened_by_can c.opened → k ≡ rank c.stage
    → d ≡ has_dv c.chain → t ≡ has_terminal c.chain → a ≡ key_stands c.key
    → (not r || (p || n)) && (not d || r) && (not (leb 2 k) || (r && t && a)) ≡ ground_fits c
unfolding ground_fits
ground-is c k r p n d t a e f g h i j l = rw (e, f, g, h, i, j, l)

pub run_fits_lem : (c : Choice) (p : Step) (pin : ℕ) (w : Password) (g : Option Rights) (a b : Bool) → w ≡ password_of c → a ≡ is_pin w → g ≡ rights_named c → b ≡ granted_fits g
    → not (a && eqb pin 0) && b ≡ run_fits c p pin
run_fits_lem c p pin w g a b e f h i = rw (f, e, i, h)
