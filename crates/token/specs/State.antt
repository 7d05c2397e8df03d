-- The state: "Kept over reset" and "Lost at reset". Record literals of the token stand here alone. Assumes nothing: these are definitions.
use Rattle.std.specs.Prelude.{ℕ, Bool, true, false, cond, ◌&&◌, Result, Ok, Err}
use Rattle.days.specs.Days.{day_fits}
use Rattle.certificate.specs.Certificate.{no_certificate}
use Rattle.days.specs.declared.Day.{Day}
use Rattle.trust.specs.Trust.{one_point, points_fit}
use Rattle.trust.specs.declared.Points.{Points}
use Rattle.standing.specs.declared.Chain.{Chain}
use Rattle.run.specs.Run.{tries}
use Rattle.session.specs.declared.Context.{Context}
use Rattle.session.specs.declared.Session.{Session}
use Rattle.session.specs.Session.{no_session}
use Rattle.token.specs.declared.state.Token.{Token}
use Rattle.status.specs.declared.Unfit.{Unfit}

-- "PUK uses left 0..10 (start 10)"; the PIN's tries stand with its run
abbrev pub uses : ℕ
uses = 10

-- what stands in the session
abbrev pub context_of : Token → Context
context_of t = t.session.context

abbrev pub chain_of : Token → Chain
chain_of t = (context_of t).chain

-- ---- a token with one part changed

abbrev pub with_session : Token → Session → Token
with_session t s = record { pin = t.pin; active = t.active; puk = t.puk; today = t.today; points = t.points; session = s }

abbrev pub with_pin : Token → ℕ → Token
with_pin t k = record { pin = k; active = t.active; puk = t.puk; today = t.today; points = t.points; session = t.session }

abbrev pub with_puk : Token → ℕ → Token
with_puk t k = record { pin = t.pin; active = t.active; puk = k; today = t.today; points = t.points; session = t.session }

abbrev pub with_active : Token → Bool → Token
with_active t b = record { pin = t.pin; active = b; puk = t.puk; today = t.today; points = t.points; session = t.session }

abbrev pub with_today : Token → Day → Token
with_today t d = record { pin = t.pin; active = t.active; puk = t.puk; today = d; points = t.points; session = t.session }

abbrev pub with_points : Token → Points → Token
with_points t h = record { pin = t.pin; active = t.active; puk = t.puk; today = t.today; points = h; session = t.session }

-- ---- reset and personalisation

-- "Lost at reset: the session"
unfoldable pub reset_of : Token → Token
reset_of t = with_session t no_session

-- "makes the start values, PIN active"
unfoldable pub start_of : Points → Day → Token
start_of h d = record { pin = tries; active = true; puk = uses; today = d; points = h; session = no_session }

unfoldable pub no_token : Token
no_token = record { pin = 0; active = false; puk = 0; today = record { 0 = 0 }; points = one_point no_certificate; session = no_session }

-- "Personalise takes one or two trust points and a date (newest point first), refuses bad names, bad dates, roles other than
-- CVCA or equal names with 6A80"
unfoldable pub made_of : Points → Day → Result Token Unfit
made_of h d = cond (points_fit h && day_fits d) (Ok (start_of h d)) (Err (record {}))

-- the token that is made, and none where it is refused
abbrev pub made_token : Result Token Unfit → Token
made_token (Ok t) = t
made_token (Err unfit) = no_token
