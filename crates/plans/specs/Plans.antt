-- The ways a plan ends. Assumes nothing: these are definitions.
use Rattle.std.specs.Prelude.{ℕ, Bool, cond, Result, Ok, Err, ⊤}
use Rattle.brought.specs.Brought.{brought_none}
use Rattle.event.specs.declared.Loss.{Loss}
use Rattle.event.specs.declared.Loss.TheVariants.{Unprotected, Broken}
use Rattle.run.specs.Run.{step_number}
use Rattle.event.specs.declared.Event.{Event}
use Rattle.plans.specs.declared.Note.{Note}
use Rattle.plans.specs.declared.Note.TheVariants.{Plain, Protected, Broken as BrokenNote}
use Rattle.plans.specs.declared.Job.{Job}
use Rattle.plans.specs.declared.Job.TheVariants.{Nothing, Step as StepJob, Certificate as CertificateJob, Challenge, Proof, ChipKey, PinChange}
use Rattle.plans.specs.declared.Ending.{Ending}
use Rattle.plans.specs.declared.Ending.TheVariants.{Settled, Awaits}
use Rattle.plans.specs.declared.Plan.{Plan}

-- with nothing brought
unfoldable pub settled_by : Event → Plan
settled_by e = record { ending = Settled e; brought = brought_none }

unfoldable pub awaits_by : Job → (passed otherwise : Event) → Plan
awaits_by j x y = record { ending = Awaits j x y; brought = brought_none }

-- 6987 / 6988: "plain while a session is open / broken, or protected with none open"
abbrev pub guard_of : Note → Bool → Result ⊤ Loss
guard_of Plain opened = cond opened (Err Unprotected) (Ok tt)
guard_of Protected opened = cond opened (Ok tt) (Err Broken)
guard_of BrokenNote opened = Err Broken

-- the job that is wanted: none where no verdict is awaited
abbrev pub ending_job : Ending → Job
ending_job (Settled e) = Nothing
ending_job (Awaits j x y) = j

-- the nine jobs, in the order of "Commands"; 0 is no job
abbrev pub job_number : Job → ℕ
job_number Nothing = 0
job_number (StepJob p) = step_number p
job_number CertificateJob = 5
job_number Challenge = 6
job_number Proof = 7
job_number ChipKey = 8
job_number PinChange = 9
