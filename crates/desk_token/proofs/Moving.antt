-- What may become of a desk. Assumes nothing.
use Rattle.std.specs.Prelude.{Result, Ok, Err}
use mathlib.Core.Path.{◌≡◌, refl}
use Rattle.days.specs.declared.Day.{Day}
use Rattle.status.specs.declared.Unfit.{Unfit}
use Rattle.trust.specs.declared.Points.{Points}
use Rattle.token.specs.declared.state.Token.{Token}
use Rattle.token.specs.State.{made_of}
use Rattle.token.specs.Step.{Exchange}
use Rattle.desk_token.specs.declared.Desk.{Desk}
use Rattle.desk_token.specs.Moves.{personalised_of, stepped_desk, Made, unmade, made, Stepped, stepped}

-- what is laid there is made
made-by : (d : Desk) (p : Points) (today : Day) (m : Result Token Unfit) → made_of p today ≡ m → Made d (personalised_of d m)
unfolding personalised_of
made-by d p today (Ok t) h = made p today h
made-by d p today (Err unfit) h = unmade

pub made_as : (d r : Desk) (q : Result Token Unfit) (p : Points) (today : Day) → q ≡ made_of p today → r ≡ personalised_of d q → Made d r
made_as d r q p today e f = rw (f, e) (made-by d p today (made_of p today) refl)

pub stepped-as : (d r : Desk) (x : Exchange) → r ≡ stepped_desk d x → Stepped d r
stepped-as d r x e = rw e (stepped x)
