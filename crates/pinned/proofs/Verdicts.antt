-- Two permitted outcomes of each public function are equal. Assumes nothing.
use Rattle.std.specs.Prelude.{Option, Result, ⊤}
use Prim.Native.Nat.{ℕ}
use mathlib.Core.Bool.{Bool}
use mathlib.Core.List.{List}
use Rattle.laws.proofs.Pinned.{Pinned, pinned}
use Rattle.plans.specs.Plans.{settled_by, awaits_by, guard_of, ending_job, job_number}
use Rattle.plans.specs.Numbers.{note_number, note_at, note_read, job_at, job_read}
use Rattle.verdicts.specs.Verdicts.{decided_of}
use Rattle.verdicts.specs.Numbers.{verdict_number, verdict_at}
use Rattle.event.specs.declared.Event.{Event}
use Rattle.plans.specs.declared.Note.{Note}
use Rattle.plans.specs.declared.Job.{Job}
use Rattle.plans.specs.declared.Ending.{Ending}
use Rattle.plans.specs.declared.Plan.{Plan}
use Rattle.event.specs.declared.Loss.{Loss}
use Rattle.verdicts.specs.declared.Verdict.{Verdict}
use Rattle.verdicts.specs.declared.Answered.{Answered}
use Rattle.verdicts.specs.declared.Happened.{Happened}
use Rattle.plans.specs.declared.UnknownNumber.{UnknownNumber}

-- ---- plans

pub guard-pinned : (note : Note) (opened : Bool) → Pinned (Result ⊤ Loss) (guard_of note opened)
guard-pinned note opened = pinned _

pub job-pinned : (c : Ending) → Pinned Job (ending_job c)
job-pinned c = pinned _

pub settled-pinned : (e : Event) → Pinned Plan (settled_by e)
settled-pinned e = pinned _

pub awaits-pinned : (job : Job) (passed otherwise : Event) → Pinned Plan (awaits_by job passed otherwise)
awaits-pinned job passed otherwise = pinned _

pub job-number-pinned : (j : Job) → Pinned ℕ (job_number j)
job-number-pinned j = pinned _

pub job-of-pinned : (n : ℕ) → Pinned (Option Job) (job_at n)
job-of-pinned n = pinned _

pub note-number-pinned : (x : Note) → Pinned ℕ (note_number x)
note-number-pinned x = pinned _

pub note-of-pinned : (n : ℕ) → Pinned (Option Note) (note_at n)
note-of-pinned n = pinned _

-- ---- verdicts

pub verdict-number-pinned : (v : Verdict) → Pinned ℕ (verdict_number v)
verdict-number-pinned v = pinned _

pub verdict-of-pinned : (n key : ℕ) → Pinned (Option Verdict) (verdict_at n key)
verdict-of-pinned n key = pinned _

pub decide-pinned : (p : Plan) (r : Answered) (first : ℕ) (second : List ℕ) → Pinned Happened (decided_of p r first second)
decide-pinned p r first second = pinned _

pub note-read-pinned : (n : ℕ) → Pinned (Result Note UnknownNumber) (note_read n)
note-read-pinned n = pinned _

pub job-read-pinned : (n : ℕ) → Pinned (Result Job UnknownNumber) (job_read n)
job-read-pinned n = pinned _
