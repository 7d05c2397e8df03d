-- What the rule is shown of an entry of the record, and what it takes from it: a fact, with the trust points held when it happened.
-- Assumes nothing: these are definitions.
use Rattle.std.specs.Prelude.{ℕ, Bool, true, false, cond, List, [], ◌∷◌, Option, Some, None, Result, Ok, Err}
use Rattle.names.specs.Names.{same_name}
use Rattle.names.specs.declared.Name.{Name}
use Rattle.keys.specs.Keys.{key_is}
use Rattle.keys.specs.declared.Key.{Key}
use Rattle.roles.specs.Roles.{is_cvca}
use Rattle.roles.specs.declared.Role.{Role}
use Rattle.rights.specs.Rights.{role_of}
use Rattle.rights.specs.declared.Rights.{Rights}
use Rattle.certificate.specs.declared.Certificate.{Certificate}
use Rattle.status.specs.declared.Word.{Word}
use Rattle.status.specs.declared.Word.TheVariants.{Done, Tries, NotPassed, Length, Lacking, Blocked, Unusable, Moment, Unprotected, Broken, Data, Parameters, NotFound, Instruction, Class, Outside}
use Rattle.run.specs.declared.Choice.{Choice}
use Rattle.run.specs.declared.Step.{Step}
use Rattle.fields.specs.declared.asked.Content.{Content}
use Rattle.fields.specs.declared.asked.Content.TheVariants.{Step as StepData, Chip}
use Rattle.fields.specs.declared.asked.Ask.{Ask}
use Rattle.fields.specs.declared.asked.Ask.TheVariants.{Choose, General, Select, Verify, Announce, Challenge, Prove, ChooseChipKey, Read, ChangePin, Unblock, Activate, Deactivate}
use Rattle.fields.specs.declared.given.Given.{Given}
use Rattle.fields.specs.declared.asked.Asked.{Asked}
use Rattle.brought.specs.declared.Brought.{Brought}
use Rattle.event.specs.declared.Refusal.{Refusal}
use Rattle.fields.specs.Asked.{asked_of}

-- what the rule is shown of an entry: a reset; or a command's bytes, the second string of its crypto result, and the prescribed word
pub data Shown : Type 0 where
  AtReset : Shown
  Prescribed : (command second : List ℕ) → Word → Shown

pub data Fact : Type 0 where
  -- a choice taken; a step of its run passed
  Taken : Choice → Fact
  StepPassed : Step → Fact
  -- a certificate accepted: the issuer's name in it, and what it states
  Accepted : Name → Certificate → Fact
  -- an announcement with its key; a challenge; a passed proof, and a failed one
  Announced : Key → Fact
  Challenged Proved ProofFailed : Fact
  -- a chip key passed: the key that the crypto unit answered
  ChipPassed : List ℕ → Fact
  -- a reset or a lost session; all else
  Lost Nothing : Fact

-- ---- the fact of an entry

-- a step's data name the step; the second string of a chip key's result is its key
abbrev pub content_fact : List ℕ → Content → Fact
content_fact second (StepData s) = StepPassed s
content_fact second Chip = ChipPassed second

-- what a command did where 9000 is prescribed
abbrev pub ask_fact : Brought → List ℕ → Ask → Fact
ask_fact b second (Choose c) = Taken c
ask_fact b second (General x) = content_fact second x
ask_fact b second Select = Nothing
ask_fact b second Verify = Accepted b.name b.certificate
ask_fact b second Announce = Announced b.key
ask_fact b second Challenge = Challenged
ask_fact b second Prove = Proved
ask_fact b second ChooseChipKey = Nothing
ask_fact b second (Read n) = Nothing
ask_fact b second ChangePin = Nothing
ask_fact b second Unblock = Nothing
ask_fact b second Activate = Nothing
ask_fact b second Deactivate = Nothing

-- data that are not what the command wants do nothing
abbrev pub given_fact : List ℕ → Option Given → Fact
given_fact second None = Nothing
given_fact second (Some g) = ask_fact g.brought second g.ask

abbrev pub request_fact : List ℕ → Result Asked Refusal → Fact
request_fact second (Err w) = Nothing
request_fact second (Ok a) = given_fact second a.given

-- of these facts a choice alone is left; a proof alone, and it failed
abbrev pub choice_alone : Fact → Fact
choice_alone (Taken c) = Taken c
choice_alone (StepPassed s) = Nothing
choice_alone (Accepted n p) = Nothing
choice_alone (Announced k) = Nothing
choice_alone Challenged = Nothing
choice_alone Proved = Nothing
choice_alone ProofFailed = Nothing
choice_alone (ChipPassed z) = Nothing
choice_alone Lost = Nothing
choice_alone Nothing = Nothing

abbrev pub proof_alone : Fact → Fact
proof_alone (Taken c) = Nothing
proof_alone (StepPassed s) = Nothing
proof_alone (Accepted n p) = Nothing
proof_alone (Announced k) = Nothing
proof_alone Challenged = Nothing
proof_alone Proved = ProofFailed
proof_alone ProofFailed = Nothing
proof_alone (ChipPassed z) = Nothing
proof_alone Lost = Nothing
proof_alone Nothing = Nothing

-- "'Accepted', 'passed' and 'taken' mean that demand 2's definition, run over the whole record, prescribes 9000 there (for a choice also
-- 63CX); announcements and challenges count likewise; 'failed' is 6300; 'lost' is 6987 or 6988"
abbrev pub fact_by : Word → Fact → Fact
fact_by Done f = f
fact_by (Tries left) f = choice_alone f
fact_by NotPassed f = proof_alone f
fact_by Unprotected f = Lost
fact_by Broken f = Lost
fact_by Length f = Nothing
fact_by Lacking f = Nothing
fact_by Blocked f = Nothing
fact_by Unusable f = Nothing
fact_by Moment f = Nothing
fact_by Data f = Nothing
fact_by Parameters f = Nothing
fact_by NotFound f = Nothing
fact_by Instruction f = Nothing
fact_by Class f = Nothing
fact_by Outside f = Nothing

abbrev pub fact_of : Shown → Fact
fact_of AtReset = Lost
fact_of (Prescribed s second w) = fact_by w (request_fact second (asked_of s))

abbrev pub facts_of : List Shown → List Fact
facts_of [] = []
facts_of (x ∷ past) = fact_of x ∷ facts_of past

-- ---- the tests of a fact

abbrev pub choice_in : Fact → Option Choice
choice_in (Taken c) = Some c
choice_in (StepPassed s) = None
choice_in (Accepted n p) = None
choice_in (Announced k) = None
choice_in Challenged = None
choice_in Proved = None
choice_in ProofFailed = None
choice_in (ChipPassed z) = None
choice_in Lost = None
choice_in Nothing = None

-- the step that it passed
abbrev pub step_in : Fact → List Step
step_in (Taken c) = []
step_in (StepPassed s) = s ∷ []
step_in (Accepted n p) = []
step_in (Announced k) = []
step_in Challenged = []
step_in Proved = []
step_in ProofFailed = []
step_in (ChipPassed z) = []
step_in Lost = []
step_in Nothing = []

-- what an accepted certificate gives, by the issuer's name in it, what it states and its role; another fact gives this
abbrev pub certified : {A : Type 0} → A → (Name → Certificate → Role → A) → Fact → A
certified x by (Taken c) = x
certified x by (StepPassed s) = x
certified x by (Accepted n p) = by n p (role_of p.rights)
certified x by (Announced k) = x
certified x by Challenged = x
certified x by Proved = x
certified x by ProofFailed = x
certified x by (ChipPassed z) = x
certified x by Lost = x
certified x by Nothing = x

abbrev pub key_in : Fact → Option Key
key_in (Taken c) = None
key_in (StepPassed s) = None
key_in (Accepted n p) = None
key_in (Announced k) = Some k
key_in Challenged = None
key_in Proved = None
key_in ProofFailed = None
key_in (ChipPassed z) = None
key_in Lost = None
key_in Nothing = None

abbrev pub is_challenged : Fact → Bool
is_challenged (Taken c) = false
is_challenged (StepPassed s) = false
is_challenged (Accepted n p) = false
is_challenged (Announced k) = false
is_challenged Challenged = true
is_challenged Proved = false
is_challenged ProofFailed = false
is_challenged (ChipPassed z) = false
is_challenged Lost = false
is_challenged Nothing = false

abbrev pub is_proved : Fact → Bool
is_proved (Taken c) = false
is_proved (StepPassed s) = false
is_proved (Accepted n p) = false
is_proved (Announced k) = false
is_proved Challenged = false
is_proved Proved = true
is_proved ProofFailed = false
is_proved (ChipPassed z) = false
is_proved Lost = false
is_proved Nothing = false

-- "compared whole with 91"
abbrev pub is_key : Option Key → List ℕ → Bool
is_key None z = false
is_key (Some k) z = key_is k z

-- a chip key passed with this key
abbrev pub chip_with : Option Key → Fact → Bool
chip_with a (Taken c) = false
chip_with a (StepPassed s) = false
chip_with a (Accepted n p) = false
chip_with a (Announced k) = false
chip_with a Challenged = false
chip_with a Proved = false
chip_with a ProofFailed = false
chip_with a (ChipPassed z) = is_key a z
chip_with a Lost = false
chip_with a Nothing = false

abbrev pub is_lost : Fact → Bool
is_lost (Taken c) = false
is_lost (StepPassed s) = false
is_lost (Accepted n p) = false
is_lost (Announced k) = false
is_lost Challenged = false
is_lost Proved = false
is_lost ProofFailed = false
is_lost (ChipPassed z) = false
is_lost Lost = true
is_lost Nothing = false

-- ---- the trust points held, newest first: replayed from the personalisation through the accepted links of the whole record

pub record TrustPoint : Type 0 where
  pub name : Name
  pub rights : Rights

-- a certificate's name and rights
abbrev pub trust_point : Certificate → TrustPoint
trust_point p = record { name = p.name; rights = p.rights }

-- "a link becomes newest, newest becomes previous"
abbrev pub linked_to : TrustPoint → List TrustPoint → List TrustPoint
linked_to link [] = link ∷ []
linked_to link (newest ∷ older) = link ∷ newest ∷ []

abbrev pub linked_by : List TrustPoint → Certificate → Role → List TrustPoint
linked_by held p role = cond (is_cvca role) (linked_to (trust_point p) held) held

abbrev pub held_after : List TrustPoint → Fact → List TrustPoint
held_after held f = certified held (λ n p role. linked_by held p role) f

abbrev pub held : List TrustPoint → List Fact → List TrustPoint
held start [] = start
held start (f ∷ past) = held_after (held start past) f

-- the rights of the trust point of that name
abbrev pub rights_of : List TrustPoint → Name → Option Rights
rights_of [] n = None
rights_of (p ∷ older) n = cond (same_name n p.name) (Some p.rights) (rights_of older n)

-- a fact, and the trust points held when it happened
pub record Seen : Type 0 where
  pub fact : Fact
  pub points : List TrustPoint

-- the facts of a record, newest first, of a token that was personalised with these trust points
abbrev pub seen : List TrustPoint → List Fact → List Seen
seen start [] = []
seen start (f ∷ past) = record { fact = f; points = held start past } ∷ seen start past
