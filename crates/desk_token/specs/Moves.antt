-- What may be done with what lies on the desk. Assumes nothing: these are definitions.
use Rattle.std.specs.Prelude.{◌≡◌, ℕ, List, [], Option, Some, None, Result, Ok, Err, option_map}
use Rattle.days.specs.declared.Day.{Day}
use Rattle.status.specs.declared.Unfit.{Unfit}
use Rattle.trust.specs.declared.Points.{Points}
use Rattle.token.specs.declared.state.Token.{Token}
use Rattle.token.specs.State.{reset_of, made_of}
use Rattle.token.specs.Step.{Exchange, step_of}
use Rattle.desk_token.specs.declared.Desk.{Desk}

-- no token lies there
abbrev pub empty_desk : Desk
empty_desk = record { token = None }

-- this token lies there
abbrev pub holding : Token → Desk
holding t = record { token = Some t }

-- another token in its token's place, if there is one
abbrev pub with_token : Desk → (Token → Token) → Desk
with_token d f = record { token = option_map f d.token }

-- the token of a personalisation that was accepted; one that was not leaves the desk as it was
unfoldable pub personalised_of : Desk → Result Token Unfit → Desk
personalised_of d (Ok t) = holding t
personalised_of d (Err unfit) = d

unfoldable pub reset_desk : Desk → Desk
reset_desk d = with_token d reset_of

unfoldable pub stepped_desk : Desk → Exchange → Desk
stepped_desk d x = with_token d (λ t. (step_of t x).token)

-- the reply of its token; nothing where there is none
abbrev pub reply_by : Option Token → Exchange → List ℕ
reply_by None x = []
reply_by (Some t) x = (step_of t x).bytes

unfoldable pub reply_from : Desk → Exchange → List ℕ
reply_from d x = reply_by d.token x

-- a personalisation: a token that one accepts, or as it was
pub data Made (d : Desk) : Desk → Type 0 where
  unmade : Made d d
  made : (p : Points) (today : Day) {t : Token} → made_of p today ≡ Ok t → Made d (holding t)

-- a command: its token after one step, or as it was
pub data Stepped (d : Desk) : Desk → Type 0 where
  unstepped : Stepped d d
  stepped : (x : Exchange) → Stepped d (stepped_desk d x)
