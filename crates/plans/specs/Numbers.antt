-- The numbers of notes, and the way back from the numbers of notes and jobs. Assumes nothing: these are definitions.
use Rattle.std.specs.Prelude.{ℕ, List, [], ◌∷◌, Option, Some, None, Result, ok_or}
use Rattle.status.specs.Numbered.{value_at}
use Rattle.run.specs.declared.Step.TheVariants.{Nonce, Map, Agree, Confirm}
use Rattle.plans.specs.declared.Note.{Note}
use Rattle.plans.specs.declared.Note.TheVariants.{Plain, Protected, Broken}
use Rattle.plans.specs.declared.Job.{Job}
use Rattle.plans.specs.declared.Job.TheVariants.{Nothing, Step as StepJob, Certificate as CertificateJob, Challenge, Proof, ChipKey, PinChange}
use Rattle.plans.specs.declared.UnknownNumber.{UnknownNumber}
use Rattle.plans.specs.Plans.{job_number}

-- "plain, protected, broken"
abbrev pub note_number : Note → ℕ
note_number Plain = 0
note_number Protected = 1
note_number Broken = 2

abbrev pub notes : List Note
notes = Plain ∷ Protected ∷ Broken ∷ []

unfoldable pub note_at : ℕ → Option Note
note_at n = value_at note_number Some notes n None

-- the same, with an error that names the number that no note has
abbrev pub note_read : ℕ → Result Note UnknownNumber
note_read n = ok_or (note_at n) (record { 0 = n })

abbrev pub jobs : List Job
jobs =
    Nothing
    ∷ StepJob Nonce
    ∷ StepJob Map
    ∷ StepJob Agree
    ∷ StepJob Confirm
    ∷ CertificateJob
    ∷ Challenge
    ∷ Proof
    ∷ ChipKey
    ∷ PinChange
    ∷ []

unfoldable pub job_at : ℕ → Option Job
job_at n = value_at job_number Some jobs n None

-- the same, with an error that names the number that no job has
abbrev pub job_read : ℕ → Result Job UnknownNumber
job_read n = ok_or (job_at n) (record { 0 = n })
