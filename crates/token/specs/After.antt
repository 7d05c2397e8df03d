-- The token after each event: every state change of a step. Assumes nothing: these are definitions.
use Rattle.std.specs.Prelude.{ℕ, ◌-◌, true, false, cond, Some, None}
use Rattle.days.specs.Days.{later}
use Rattle.certificate.specs.Certificate.{no_certificate, today_after}
use Rattle.keys.specs.declared.Key.{Key}
use Rattle.certificate.specs.declared.Certificate.{Certificate}
use Rattle.brought.specs.declared.Brought.{Brought}
use Rattle.rights.specs.declared.Rights.{Rights}
use Rattle.run.specs.declared.Choice.{Choice}
use Rattle.run.specs.declared.Step.{Step}
use Rattle.run.specs.Run.{password_of, rights_named, is_pin, next_step, tries}
use Rattle.event.specs.declared.Issuer.{Issuer}
use Rattle.event.specs.declared.Event.{Event}
use Rattle.event.specs.declared.Event.TheVariants.{Refused, Lost, Chosen, StepPassed, Opened as IsOpened, RunClosed, TrialLost, Selected, LinkTaken, DvTaken, TerminalTaken, Announced as IsAnnounced, Challenged as IsChallenged, Proven as IsProven, ProofLost, ChipKeyChosen as IsChosen, Authenticated as IsAuthenticated, ChipLost, ReadAllowed, PinChanged, UnblockedByPuk, UnblockedByRight, Activated, Deactivated, NotPassed}
use Rattle.trust.specs.Trust.{linked}
use Rattle.standing.specs.declared.Reach.{Reach}
use Rattle.standing.specs.declared.Reach.TheVariants.{Empty, ToDv, ToTerminal}
use Rattle.standing.specs.declared.Stage.{Stage}
use Rattle.standing.specs.declared.Stage.TheVariants.{Idle, Run, Announced, Challenged, Proven, ChipKeyChosen, Authenticated}
use Rattle.standing.specs.Standing.{no_chain}
use Rattle.session.specs.Session.{bare_session, rechosen, at_stage, announced_with, chained_to, selecting}
use Rattle.token.specs.declared.state.Token.{Token}
use Rattle.token.specs.State.{with_session, with_pin, with_puk, with_active, with_today, with_points, reset_of, context_of, chain_of}

-- "opens a run and drops confirmed rights, chain, selection and stage, but not which password opened the session"
unfoldable pub choice_taken : Token → Choice → Token
choice_taken t c = with_session t (rechosen t.session c)

-- the same session at another stage
unfoldable pub staged : Token → Stage → Token
staged t s = with_session t (at_stage t.session s)

-- the next step of the run
unfoldable pub step_passed : Token → Choice → Step → Token
step_passed t c p = staged t (Run c (next_step p))

-- "with the PIN also counter to 3"
abbrev pub tries_after : Choice → ℕ → ℕ
tries_after c pin = cond (is_pin (password_of c)) tries pin

-- "passed opens the session afresh with that password and its rights"
unfoldable pub opened : Token → Choice → Token
opened t c = with_pin (with_session t (bare_session (Some (password_of c)) (rights_named c) Idle)) (tries_after c t.pin)

-- "An old session stays open without rights"
unfoldable pub run_closed : Token → Token
run_closed t = with_session t (bare_session (context_of t).opened None Idle)

-- "otherwise PIN counter down one .., run closed"
unfoldable pub trial_lost : Token → ℕ → Token
trial_lost t left = with_pin (run_closed t) left

-- "Select issuer"
unfoldable pub issuer_selected : Token → Issuer → Token
issuer_selected t i = with_session t (selecting t.session i)

-- "a link becomes newest, newest becomes previous, chain empty"; "Today becomes the first day if later"
unfoldable pub link_taken : Token → Certificate → Token
link_taken t p = with_today (with_session (with_points t (linked t.points p)) (chained_to t.session no_chain)) (later t.today p.first)

-- "a DV replaces the chain"
unfoldable pub dv_taken : Token → Certificate → Rights → Token
dv_taken t p trusted = with_today (with_session t (chained_to t.session (record { reach = ToDv trusted; dv = p; terminal = no_certificate }))) (later t.today p.first)

-- a chain's reach with a terminal under its DV; no plan comes here without a DV
abbrev pub extended : Reach → Reach
extended Empty = Empty
extended (ToDv trusted) = ToTerminal trusted
extended (ToTerminal trusted) = ToTerminal trusted

-- "a terminal its terminal"
unfoldable pub terminal_taken : Token → Certificate → Token
terminal_taken t p =
    with_today
    (with_session t (chained_to t.session (record { reach = extended (chain_of t).reach; dv = (chain_of t).dv; terminal = p })))
    (today_after (chain_of t).dv p t.today)

-- "Any challenge falls"
unfoldable pub announced : Token → Key → Token
announced t k = with_session t (announced_with t.session k)

-- "Counter becomes 3", "takes one use"
unfoldable pub unblocked : Token → Token
unblocked t = with_pin t tries

unfoldable pub unblocked_by_puk : Token → Token
unblocked_by_puk t = with_puk (with_pin t tries) (t.puk - 1)

unfoldable pub after_of : Token → Event → Brought → Token
after_of t (Refused w) b = t
after_of t (Lost l) b = reset_of t
after_of t (Chosen c left) b = choice_taken t c
after_of t (StepPassed c s) b = step_passed t c s
after_of t (IsOpened c) b = opened t c
after_of t RunClosed b = run_closed t
after_of t (TrialLost left) b = trial_lost t left
after_of t (Selected i) b = issuer_selected t i
after_of t LinkTaken b = link_taken t b.certificate
after_of t (DvTaken trusted) b = dv_taken t b.certificate trusted
after_of t TerminalTaken b = terminal_taken t b.certificate
after_of t IsAnnounced b = announced t b.key
after_of t IsChallenged b = staged t Challenged
after_of t IsProven b = staged t Proven
-- "Not passed: 6300, back to announced"
after_of t ProofLost b = staged t Announced
after_of t IsChosen b = staged t ChipKeyChosen
after_of t IsAuthenticated b = staged t Authenticated
-- "Failure: 6300, back to proven"
after_of t ChipLost b = staged t Proven
after_of t ReadAllowed b = t
after_of t PinChanged b = t
after_of t UnblockedByPuk b = unblocked_by_puk t
after_of t UnblockedByRight b = unblocked t
after_of t Activated b = with_active t true
after_of t Deactivated b = with_active t false
-- "Not passed: 6300, nothing changes", "same state"
after_of t NotPassed b = t
