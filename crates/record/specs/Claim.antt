-- What is claimed of every record. Assumes nothing: these are definitions.
use Rattle.std.specs.Prelude.{ℕ, ◌+◌, ◌≤◌, Bool, true, ◌≡◌, List, [], ◌∷◌, ◌++◌, take, is_ok}
use Rattle.days.specs.declared.Day.{Day}
use Rattle.status.specs.Words.{word_number}
use Rattle.status.specs.declared.Word.{Word}
use Rattle.status.specs.declared.Word.TheVariants.{Done, Outside}
use Rattle.plans.specs.declared.Note.TheVariants.{Protected}
use Rattle.reply.specs.Bytes.{word_bytes}
use Rattle.reply.specs.Reply.{room}
use Rattle.certificate.specs.declared.Certificate.{Certificate}
use Rattle.trust.specs.Trust.{points_held}
use Rattle.trust.specs.declared.Points.{Points}
use Rattle.token.specs.declared.state.Token.{Token}
use Rattle.token.specs.State.{made_of, made_token, reset_of}
use Rattle.token.specs.Limits.{in_limits}
use Rattle.token.specs.Step.{Exchange, Steps, step_of}
use Rattle.record.specs.Entries.{Entry, Reset, Sent, prescribed, reached, shown}
use Rattle.rule.specs.Facts.{TrustPoint, trust_point, facts_of, seen}
use Rattle.rule.specs.Rule.{readable}

-- a token as it was personalised
abbrev pub begun : Points → Day → Token
begun h d = made_token (made_of h d)

-- the trust points of a personalisation, newest first
abbrev pub as_trust_points : List Certificate → List TrustPoint
as_trust_points [] = []
as_trust_points (p ∷ older) = trust_point p ∷ as_trust_points older

abbrev pub trust_points : Points → List TrustPoint
trust_points h = as_trust_points (points_held h)

-- "B0, P1 80+n, .. any P2, Le present", in the short form and in the extended one
pub data ReadOf (n : ℕ) : List ℕ → Type 0 where
  short : (p2 le : ℕ) → ReadOf n (0x00 ∷ 0xB0 ∷ (0x80 + n) ∷ p2 ∷ le ∷ [])
  extended : (p2 high low : ℕ) → ReadOf n (0x00 ∷ 0xB0 ∷ (0x80 + n) ∷ p2 ∷ 0x00 ∷ high ∷ low ∷ [])

-- a correct protected read of group n, 1..21
pub record ReadsNow (n : ℕ) (x : Exchange) : Type 0 where
  pub least : 1 ≤ n
  pub most : n ≤ 21
  pub bytes : ReadOf n x.command
  pub protected : x.note ≡ Protected
  pub roomy : room ≤ x.size

-- "Group n is readable" by the record alone
abbrev pub record_says : Points → Day → List Entry → ℕ → Bool
record_says h d entries n = readable (seen (trust_points h) (facts_of (shown (begun h d) entries []))) n

-- the one exactly when the other
pub record Exactly (A B : Type 0) : Type 0 where
  pub enough : A → B
  pub needed : B → A

-- Demand 3: "From any accepted personalisation, after any series of commands, results and resets, a correct protected read of group n would
-- be allowed exactly when the record alone, judged by document 01's rule (a) to (e), says so." Of the definition's word:
abbrev pub Claim : Type 0
Claim =
    (h : Points) (d : Day) → is_ok (made_of h d) ≡ true → (entries : List Entry) (n : ℕ) (x : Exchange) → ReadsNow n x
    → Exactly (record_says h d entries n ≡ true) (prescribed (reached (begun h d) entries) x ≡ Done)

-- of the definition's reply: 90 00 and nothing else
abbrev pub ClaimBytes : Type 0
ClaimBytes =
    (h : Points) (d : Day) → is_ok (made_of h d) ≡ true → (entries : List Entry) (n : ℕ) (x : Exchange) → ReadsNow n x
    → Exactly (record_says h d entries n ≡ true) ((step_of (reached (begun h d) entries) x).bytes ≡ 0x90 ∷ 0x00 ∷ [])

-- a token that went through the entries, each by what the contracts of `Token::reset` and `Token::step` say
pub data Ran : Token → List Entry → Token → Type 0 where
  no_more : {t : Token} → Ran t [] t
  was-reset : {t u z : Token} {rest : List Entry} → u ≡ reset_of t → Ran u rest z → Ran t (Reset ∷ rest) z
  was-stepped : {t u z : Token} {rest : List Entry} (x : Exchange) {before after : List ℕ} {len : ℕ} → Steps t x before after u len → Ran u rest z → Ran t (Sent x ∷ rest) z

-- of the code: the token that was run answers a correct protected read with 90 00 and nothing else exactly when the record says so,
-- in whatever buffer
abbrev pub ClaimRan : Type 0
ClaimRan =
    (h : Points) (d : Day) → is_ok (made_of h d) ≡ true → (entries : List Entry) (z : Token) → Ran (begun h d) entries z → (n : ℕ) (x : Exchange) → ReadsNow n x
    → (before after : List ℕ) (u : Token) (len : ℕ) → Steps z x before after u len → Exactly (record_says h d entries n ≡ true) (take len after ≡ 0x90 ∷ 0x00 ∷ [])

-- no state that the product itself made is outside its limits
abbrev pub ClaimWithin : Type 0
ClaimWithin = (h : Points) (d : Day) → is_ok (made_of h d) ≡ true → (entries : List Entry) → in_limits (reached (begun h d) entries) ≡ true

-- the prescribed word is what the reply's last two bytes spell; 6F00 has none
pub data Spells (w : Word) : List ℕ → Type 0 where
  silent : w ≡ Outside → Spells w []
  spelt : (w ≡ Outside → ⊥) → (content : List ℕ) → Spells w (content ++ word_bytes (word_number w))

abbrev pub ClaimSpelt : Type 0
ClaimSpelt = (t : Token) (x : Exchange) → Spells (prescribed t x) (step_of t x).bytes
