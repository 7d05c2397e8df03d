-- "The rule that reads the record", (a) to (e), over a line of facts, newest first. It keeps no state, and nothing of a token stands
-- in it. Assumes nothing: these are definitions.
use Rattle.std.specs.Prelude.{ℕ, ◌+◌, Bool, true, false, cond, not, ◌&&◌, ◌||◌, List, [], ◌∷◌, ◌++◌, Option, Some, None}
use Rattle.names.specs.Names.{same_name}
use Rattle.names.specs.declared.Name.{Name}
use Rattle.keys.specs.declared.Key.{Key}
use Rattle.roles.specs.Roles.{is_cvca, is_dv, is_terminal}
use Rattle.roles.specs.declared.Role.{Role}
use Rattle.rights.specs.Rights.{has_right, can_allowed}
use Rattle.rights.specs.declared.Rights.{Rights}
use Rattle.certificate.specs.declared.Certificate.{Certificate}
use Rattle.run.specs.declared.Password.{Password}
use Rattle.run.specs.declared.Choice.{Choice}
use Rattle.run.specs.declared.Step.{Step}
use Rattle.run.specs.declared.Step.TheVariants.{Nonce, Map, Agree, Confirm}
use Rattle.run.specs.Run.{password_of, rights_named, is_can}
use Rattle.rule.specs.Facts.{Fact, Taken, StepPassed, Accepted, Announced, Challenged, Proved, ProofFailed, ChipPassed, Lost, Nothing, TrustPoint, Seen, choice_in, step_in, certified, key_in, is_challenged, is_proved, chip_with, is_lost, rights_of}

-- ---- "the last ..", "since .."

abbrev pub given : {A : Type 0} → Option A → Bool
given None = false
given (Some x) = true

abbrev pub or_else : {A : Type 0} → Option A → Option A → Option A
or_else None y = y
or_else (Some x) y = Some x

-- the newest fact that counts, judged with what came before it, and no fact after it that undoes it
abbrev pub latest : {A : Type 0} → (Seen → List Seen → Option A) → (Fact → Bool) → List Seen → Option A
latest counts undoes [] = None
latest counts undoes (x ∷ past) = or_else (counts x past) (cond (undoes x.fact) None (latest counts undoes past))

-- there is a fact that counts, and no fact after it that undoes it
abbrev pub standing : (Seen → List Seen → Bool) → (Fact → Bool) → List Seen → Bool
standing counts undoes [] = false
standing counts undoes (x ∷ past) = counts x past || (not (undoes x.fact) && standing counts undoes past)

-- ---- (a) "the last password choice taken since the last reset or lost session is a PIN or CAN naming rights, and its four steps
-- passed"

abbrev pub last_choice : List Seen → Option Choice
last_choice r = latest (λ x past. choice_in x.fact) is_lost r

-- what ends a run or a session: a new choice, a reset, a loss
abbrev pub ends : Fact → Bool
ends (Taken c) = true
ends (StepPassed s) = false
ends (Accepted n p) = false
ends (Announced k) = false
ends Challenged = false
ends Proved = false
ends ProofFailed = false
ends (ChipPassed z) = false
ends Lost = true
ends Nothing = false

-- the steps passed since, newest first
abbrev pub steps : List Seen → List Step
steps [] = []
steps (x ∷ past) = cond (ends x.fact) [] (step_in x.fact ++ steps past)

abbrev pub is_nonce : Step → Bool
is_nonce Nonce = true
is_nonce Map = false
is_nonce Agree = false
is_nonce Confirm = false

abbrev pub is_map : Step → Bool
is_map Nonce = false
is_map Map = true
is_map Agree = false
is_map Confirm = false

abbrev pub is_agree : Step → Bool
is_agree Nonce = false
is_agree Map = false
is_agree Agree = true
is_agree Confirm = false

abbrev pub is_confirm : Step → Bool
is_confirm Nonce = false
is_confirm Map = false
is_confirm Agree = false
is_confirm Confirm = true

-- as many steps as tests, each as its test asks
abbrev pub each_is : List (Step → Bool) → List Step → Bool
each_is [] [] = true
each_is [] (s ∷ more) = false
each_is (is ∷ others) [] = false
each_is (is ∷ others) (s ∷ more) = is s && each_is others more

-- the four in their order, newest first, and no other
abbrev pub four_steps : List Step → Bool
four_steps passed = each_is (is_confirm ∷ is_agree ∷ is_map ∷ is_nonce ∷ []) passed

-- only the PIN and the CAN can name rights
abbrev pub naming : Password → Option Rights → Option (Password × Rights)
naming w None = None
naming w (Some r) = Some (w, r)

abbrev pub named : Option Choice → Option (Password × Rights)
named None = None
named (Some c) = naming (password_of c) (rights_named c)

abbrev pub confirmed : List Seen → Option (Password × Rights)
confirmed r = cond (four_steps (steps r)) (named (last_choice r)) None

-- ---- (b) "after it a DV, the latest, was accepted under a trust point, then a terminal under that DV, no certificate accepted
-- later"

-- a DV: the rights of its trust point as held then, its name and its rights
pub record Dv : Type 0 where
  pub trusted : Option Rights
  pub name : Name
  pub rights : Rights

pub record ChainRights : Type 0 where
  pub trusted : Rights
  pub dv : Rights
  pub terminal : Rights

-- a DV counts after (a) alone: the parts are completed in their order
abbrev pub dv_by : Bool → List TrustPoint → Name → Certificate → Role → Option Dv
dv_by after_a points n p role = cond (is_dv role && after_a) (Some (record { trusted = rights_of points n; name = p.name; rights = p.rights })) None

abbrev pub dv_in : Bool → Seen → Option Dv
dv_in after_a x = certified None (dv_by after_a x.points) x.fact

-- a link accepted after it ends it: "chain empty"
abbrev pub ends_dv : Fact → Bool
ends_dv f = ends f || certified false (λ n p role. is_cvca role) f

abbrev pub last_dv : List Seen → Option Dv
last_dv r = latest (λ x past. dv_in (given (confirmed past)) x) ends_dv r

abbrev pub chain_rights : (trusted : Option Rights) (dv terminal : Rights) → Option ChainRights
chain_rights None d t = None
chain_rights (Some x) d t = Some (record { trusted = x; dv = d; terminal = t })

-- a terminal's certificate, where its issuer's name is the DV's
abbrev pub completing : Option Dv → Name → Certificate → Option ChainRights
completing None n p = None
completing (Some d) n p = cond (same_name n d.name) (chain_rights d.trusted d.rights p.rights) None

abbrev pub under : Option Dv → Name → Certificate → Role → Option ChainRights
under d n p role = cond (is_terminal role) (completing d n p) None

-- "no certificate accepted later": what ends a chain's terminal and an announcement
abbrev pub ends_chain : Fact → Bool
ends_chain (Taken c) = true
ends_chain (StepPassed s) = false
ends_chain (Accepted n p) = true
ends_chain (Announced k) = false
ends_chain Challenged = false
ends_chain Proved = false
ends_chain ProofFailed = false
ends_chain (ChipPassed z) = false
ends_chain Lost = true
ends_chain Nothing = false

abbrev pub chain : List Seen → Option ChainRights
chain r = latest (λ x past. certified None (under (last_dv past)) x.fact) ends_chain r

-- ---- (c) "then an announcement, a later challenge, and a passed proof, with no announcement or failed proof after that challenge"

abbrev pub announced_key : List Seen → Option Key
announced_key r = latest (λ x past. key_in x.fact) ends_chain r

-- "no announcement or failed proof after that challenge": what ends a challenge and all that follows it
abbrev pub ends_challenge : Fact → Bool
ends_challenge (Taken c) = true
ends_challenge (StepPassed s) = false
ends_challenge (Accepted n p) = true
ends_challenge (Announced k) = true
ends_challenge Challenged = false
ends_challenge Proved = false
ends_challenge ProofFailed = true
ends_challenge (ChipPassed z) = false
ends_challenge Lost = true
ends_challenge Nothing = false

abbrev pub challenged : List Seen → Bool
challenged r = standing (λ x past. is_challenged x.fact && given (announced_key past)) ends_challenge r

abbrev pub proven : List Seen → Bool
proven r = standing (λ x past. is_proved x.fact && challenged past) ends_challenge r

-- ---- (d) "then a chip key passed with the announced key, nothing lost since": after that proof, so what ends (c) ends it too

abbrev pub authenticated : List Seen → Bool
authenticated r = standing (λ x past. chip_with (announced_key past) x.fact && proven past) ends_challenge r

-- ---- (e) "the bits agree as above, the trust point's as held at (b)": in all four, and with the CAN bit 4 too

abbrev pub in_all : ChainRights → Rights → ℕ → Bool
in_all t x i = has_right i t.trusted && has_right i t.dv && has_right i t.terminal && has_right i x

abbrev pub agrees : Password → Rights → ChainRights → ℕ → Bool
agrees w x t i = (not (is_can w) || in_all t x can_allowed) && in_all t x i

abbrev pub bits_agree : Option (Password × Rights) → Option ChainRights → ℕ → Bool
bits_agree None t n = false
bits_agree (Some c) None n = false
bits_agree (Some c) (Some t) n = agrees c.0 c.1 t (7 + n)

-- ---- "Group n is readable when": a line for each of (a) to (e), as the paper has them, though the later ones imply the earlier

unfoldable pub readable : List Seen → ℕ → Bool
readable r n =
    -- (a) rights were named and four steps passed
    given (confirmed r)
    -- (b) a DV under a trust point, a terminal under it
    && given (chain r)
    -- (c) announced, challenged, proven
    && proven r
    -- (d) a chip key passed with the announced key
    && authenticated r
    -- (e) the bits agree
    && bits_agree (confirmed r) (chain r) n
