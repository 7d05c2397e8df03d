-- The numbers of notes and jobs and the way back agree. Assumes nothing.
use Rattle.std.specs.Prelude.{Some, None}
use Prim.Native.Nat.{ℕ}
use mathlib.Core.Path.{◌≡◌, refl}
use Rattle.status.proofs.Numbered.{value-is}
use Rattle.run.specs.declared.Step.TheVariants.{Nonce, Map, Agree, Confirm}
use Rattle.plans.specs.declared.Note.{Note}
use Rattle.plans.specs.declared.Note.TheVariants.{Plain, Protected, Broken}
use Rattle.plans.specs.declared.Job.{Job}
use Rattle.plans.specs.declared.Job.TheVariants.{Nothing, Step as StepJob, Certificate as CertificateJob, Challenge, Proof, ChipKey, PinChange}
use Rattle.plans.specs.Plans.{job_number}
use Rattle.plans.specs.Numbers.{note_number, notes, note_at, jobs, job_at}

-- ---- the number of a value is read as that value, and a value that was read has that number

pub note-back : (x : Note) → note_at (note_number x) ≡ Some x
unfolding note_at
note-back Plain = refl
note-back Protected = refl
note-back Broken = refl

pub note-is : (n : ℕ) (x : Note) → note_at n ≡ Some x → note_number x ≡ n
unfolding note_at
note-is n x e = value-is note_number Some (λ v w p. cc) n x notes None (λ p. cc) e

pub job-back : (x : Job) → job_at (job_number x) ≡ Some x
unfolding job_at
job-back Nothing = refl
job-back (StepJob Nonce) = refl
job-back (StepJob Map) = refl
job-back (StepJob Agree) = refl
job-back (StepJob Confirm) = refl
job-back CertificateJob = refl
job-back Challenge = refl
job-back Proof = refl
job-back ChipKey = refl
job-back PinChange = refl

pub job_is : (n : ℕ) (x : Job) → job_at n ≡ Some x → job_number x ≡ n
unfolding job_at
job_is n x e = value-is job_number Some (λ v w p. cc) n x jobs None (λ p. cc) e
