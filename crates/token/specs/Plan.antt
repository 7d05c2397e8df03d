-- "Order: 6F00; protection; command form; CLA ..; INS; P1-P2; presence of data and Le (6700); moment; data (6A80, wrong length too);
-- 6982; 6A88; 6983; 6984; verdict." Read from the end upwards: plan_of (6F00; protection), requested_of (form to presence), timed_of
-- (moment), given_of (data), command_of (the rest). Assumes nothing: these are definitions.
use Rattle.std.specs.Prelude.{cond, not, List, ℕ, Option, Some, None, Result, Ok, Err, ⊤}
use Rattle.brought.specs.declared.Brought.{Brought}
use Rattle.event.specs.declared.Loss.{Loss}
use Rattle.event.specs.declared.Refusal.{Refusal}
use Rattle.event.specs.declared.Refusal.TheVariants.{Moment, Data, Outside}
use Rattle.event.specs.declared.Event.TheVariants.{Refused, Lost, Challenged, Proven, ProofLost, ChipKeyChosen, Activated, Deactivated, NotPassed}
use Rattle.plans.specs.declared.Note.{Note}
use Rattle.plans.specs.declared.Job.TheVariants.{Challenge as ChallengeJob, Proof}
use Rattle.plans.specs.declared.Plan.{Plan}
use Rattle.plans.specs.Plans.{settled_by, awaits_by, guard_of}
use Rattle.fields.specs.declared.asked.Ask.{Ask}
use Rattle.fields.specs.declared.asked.Ask.TheVariants.{Choose, General, Select, Verify, Announce, Challenge, Prove, ChooseChipKey, Read, ChangePin, Unblock, Activate, Deactivate}
use Rattle.fields.specs.declared.given.Given.{Given}
use Rattle.fields.specs.declared.asked.Asked.{Asked}
use Rattle.fields.specs.Asked.{asked_of}
use Rattle.standing.specs.Standing.{is_open}
use Rattle.moment.specs.Moment.{moment_of}
use Rattle.checks.specs.Checks.{choose_plan, general_plan, announce_plan, read_plan, change_plan, unblock_plan, active_plan}
use Rattle.certify.specs.Certify.{select_plan, verify_plan}
use Rattle.token.specs.declared.state.Token.{Token}
use Rattle.token.specs.State.{context_of, chain_of}
use Rattle.token.specs.Limits.{in_limits}

-- the command's own checks, with what it brought
unfoldable pub command_of : Token → Brought → Ask → Plan
command_of t b (Choose c) = choose_plan t.pin t.active t.puk (context_of t).opened c
command_of t b (General x) = general_plan (context_of t).key t.pin (context_of t).stage x
command_of t b Select = select_plan t.points (chain_of t) b.name
command_of t b Verify = verify_plan t.points (chain_of t).dv t.today t.session.selected b
command_of t b Announce = announce_plan (chain_of t).terminal.name b
-- "eight bytes; not passed 6300, same state"
command_of t b Challenge = awaits_by ChallengeJob Challenged NotPassed
-- "Not passed: 6300, back to announced"
command_of t b Prove = awaits_by Proof Proven ProofLost
command_of t b ChooseChipKey = settled_by ChipKeyChosen
command_of t b (Read n) = read_plan (context_of t) n
command_of t b ChangePin = change_plan (context_of t) t.active
command_of t b Unblock = unblock_plan (context_of t) t.pin t.puk
command_of t b Activate = active_plan (context_of t) Activated
command_of t b Deactivate = active_plan (context_of t) Deactivated

-- data (6A80, wrong length too)
unfoldable pub given_of : Token → Option Given → Plan
given_of t None = settled_by (Refused Data)
given_of t (Some g) = command_of t g.brought g.ask

-- moment
unfoldable pub timed_of : Token → Asked → Plan
timed_of t a = cond (not (moment_of t.session a.kind a.chained)) (settled_by (Refused Moment)) (given_of t a.given)

-- command form; CLA ..; INS; P1-P2; presence of data and Le
unfoldable pub requested_of : Token → Result Asked Refusal → Plan
requested_of t (Err w) = settled_by (Refused w)
requested_of t (Ok a) = timed_of t a

-- protection
unfoldable pub guarded : Result ⊤ Loss → Plan → Plan
guarded (Err l) p = settled_by (Lost l)
guarded (Ok passes) p = p

-- 6F00; protection; ..
unfoldable pub plan_of : Token → List ℕ → Note → Plan
plan_of t s note =
    cond (not (in_limits t)) (settled_by (Refused Outside))
    (guarded (guard_of note (is_open (context_of t).opened))
    (requested_of t (asked_of s)))
