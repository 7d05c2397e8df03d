-- Changes that the documents name, over plain values. Assumes nothing.
use Rattle.std.specs.Prelude.{Option, Some}
use Prim.Native.Nat.{ℕ, ◌-◌}
use mathlib.Core.Path.{◌≡◌}
use Rattle.rights.specs.declared.Rights.{Rights}
use Rattle.run.specs.declared.Choice.{Choice}
use Rattle.run.specs.declared.Password.{Password}
use Rattle.run.specs.Run.{password_of, rights_named, tries}
use Rattle.standing.specs.declared.Stage.TheVariants.{Idle}
use Rattle.session.specs.declared.Session.{Session}
use Rattle.session.specs.Session.{bare_session}
use Rattle.token.specs.declared.state.Token.{Token}
use Rattle.token.specs.State.{with_session, with_pin, with_puk}
use Rattle.token.specs.After.{tries_after, opened, unblocked_by_puk}

module _ (t : Token) where
  pub opened-is : (c : Choice) (w : Password) (g : Option Rights) (n : ℕ) (z : Session) → w ≡ password_of c → g ≡ rights_named c → n ≡ tries_after c t.pin
      → z ≡ bare_session (Some w) g Idle → with_pin (with_session t z) n ≡ opened t c
  unfolding opened
  opened-is c w g n z e f h i = rw (i, e, f, h)

  pub by-puk-is : (n : ℕ) → n ≡ t.puk - 1 → with_puk (with_pin t tries) n ≡ unblocked_by_puk t
  unfolding unblocked_by_puk
  by-puk-is n e = rw e
