-- Sessions, over plain values. Assumes nothing.
use Rattle.std.specs.Prelude.{None}
use mathlib.Core.Path.{◌≡◌}
use Rattle.keys.specs.Keys.{no_key}
use Rattle.keys.specs.declared.Key.{Key}
use Rattle.standing.specs.declared.Chain.{Chain}
use Rattle.standing.specs.declared.Stage.TheVariants.{Idle}
use Rattle.session.specs.declared.Session.{Session}
use Rattle.session.specs.Session.{renewed, chained_to}

pub chained-is : (z : Session) (c : Chain) (k : Key) → k ≡ no_key
    → renewed z c Idle k None ≡ chained_to z c
chained-is z c k e = rw e
