-- The verdict decides. Assumes nothing: these are definitions.
use Rattle.std.specs.Prelude.{ℕ, Bool, true, false, cond, ◌&&◌, List, eqb, length}
use Rattle.strings.specs.Bytes.{among, longest}
use Rattle.keys.specs.Keys.{key_is, places}
use Rattle.certificate.specs.Certificate.{with_key}
use Rattle.keys.specs.declared.Key.{Key}
use Rattle.brought.specs.Brought.{with_certificate}
use Rattle.brought.specs.declared.Brought.{Brought}
use Rattle.event.specs.declared.Event.{Event}
use Rattle.plans.specs.declared.Job.{Job}
use Rattle.plans.specs.declared.Job.TheVariants.{Nothing, Step as StepJob, Certificate as CertificateJob, Challenge, Proof, ChipKey, PinChange}
use Rattle.plans.specs.Plans.{job_number}
use Rattle.plans.specs.declared.Ending.{Ending}
use Rattle.plans.specs.declared.Ending.TheVariants.{Settled, Awaits}
use Rattle.plans.specs.declared.Plan.{Plan}
use Rattle.verdicts.specs.declared.Verdict.{Verdict}
use Rattle.verdicts.specs.declared.Verdict.TheVariants.{Passed, Failed, Missing}
use Rattle.verdicts.specs.declared.Answered.{Answered}
use Rattle.verdicts.specs.declared.Happened.{Happened}
use Rattle.run.specs.Run.{is_last}

-- "one whose strings have other lengths than the job's (empty where none is named)": the lengths that a job names
abbrev pub job_fits : Job → (first second : ℕ) → Bool
job_fits Nothing a b = false
-- "84 (1 to 140 bytes), 86 (8): the first string"
job_fits (StepJob p) a b = cond (is_last p) (eqb a 8 && eqb b 0) (among 1 longest a && eqb b 0)
job_fits CertificateJob a b = eqb a 0 && eqb b 0
-- "eight bytes"
job_fits Challenge a b = eqb a 8 && eqb b 0
job_fits Proof a b = eqb a 0 && eqb b 0
-- "nonce and token together (16) and the compressed key (1 to 66)"
job_fits ChipKey a b = eqb a 16 && among 1 places b
job_fits PinChange a b = eqb a 0 && eqb b 0

-- "compared whole with 91"
abbrev pub matches : Job → Key → List ℕ → Bool
matches Nothing key s = true
matches (StepJob p) key s = true
matches CertificateJob key s = true
matches Challenge key s = true
matches Proof key s = true
matches ChipKey key s = key_is key s
matches PinChange key s = true

-- a passed certificate is kept with the number of its key
abbrev pub taken_in : Job → Brought → ℕ → Brought
taken_in Nothing b n = b
taken_in (StepJob p) b n = b
taken_in CertificateJob b n = with_certificate b (with_key b.certificate n)
taken_in Challenge b n = b
taken_in Proof b n = b
taken_in ChipKey b n = b
taken_in PinChange b n = b

-- what happens where nothing is answered, and where the job was passed
unfoldable pub ends_by : Plan → Event → Happened
ends_by p e = record { event = e; brought = p.brought; answer = 0 }

unfoldable pub passes_by : Plan → Job → (number : ℕ) → Event → (answer : ℕ) → Happened
passes_by p j n e a = record { event = e; brought = taken_in j p.brought n; answer = a }

-- "A missing verdict is never a good one"
unfoldable pub judged_of : Plan → Verdict → Job → (passed otherwise : Event) (first : ℕ) (second : List ℕ) → Happened
judged_of p (Passed n) j x y a s = cond (matches j p.brought.key s) (passes_by p j n x a) (ends_by p y)
judged_of p Failed j x y a s = ends_by p y
judged_of p Missing j x y a s = ends_by p y

-- "A result for another job, or one whose strings have other lengths than the job's .., counts as none"
unfoldable pub awaited_of : Plan → Answered → Job → (passed otherwise : Event) (first : ℕ) (second : List ℕ) → Happened
awaited_of p r j x y a s = cond (eqb (job_number j) (job_number r.job) && job_fits j a (length s)) (judged_of p r.verdict j x y a s) (ends_by p y)

unfoldable pub ending_of : Ending → Plan → Answered → ℕ → List ℕ → Happened
ending_of (Settled e) p r a s = ends_by p e
ending_of (Awaits j x y) p r a s = awaited_of p r j x y a s

-- what happened, by the length of the first string and the second string
abbrev pub decided_of : Plan → Answered → ℕ → List ℕ → Happened
decided_of p r a s = ending_of p.ending p r a s
