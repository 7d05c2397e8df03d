-- The record decides: the claims, for every record. Assumes nothing.
use Rattle.std.specs.Prelude.{Option, Some, None, Result, Ok, Err, is_ok}
use Prim.Native.Nat.{ℕ, ◌+◌, ◌-◌, ◌≤◌}
use mathlib.Core.Bool.{Bool, true, false, cond, not, ◌&&◌, ◌||◌}
use mathlib.Core.Path.{◌≡◌, refl, sym, ap, subst, subst⁻¹, ◌∙◌}
use mathlib.Core.List.{List, [], ◌∷◌}
use native.Mathlib.Omega.{arith}
use borrow.Author.Tests.{le-ltb, le-leb}
use lib.Dec.{ltb}
use lib.ListN.{length}
use Rattle.laws.proofs.Bools.{true-false, and_l, and_r, or-then}
use Rattle.keys.specs.Keys.{key_stands}
use Rattle.rights.specs.Rights.{has_right, reads_group}
use Rattle.certificate.specs.declared.Certificate.{Certificate}
use Rattle.rights.specs.declared.Rights.{Rights}
use Rattle.status.specs.declared.Word.{Word}
use Rattle.status.specs.declared.Word.TheVariants.{Done, Outside as W6F00}
use Rattle.command.specs.declared.kind.Kind.TheVariants.{Read as KindRead}
use Rattle.command.specs.Shape.{Shape}
use Rattle.form.specs.Form.{form_of, after_header, after_four, extended_of}
use Rattle.command.specs.Kind.{kind_of}
use Rattle.command.specs.Shape.{shape_of, headed_of}
use Rattle.run.specs.declared.Password.{Password}
use Rattle.run.specs.Run.{is_can}
use Rattle.event.specs.declared.Event.{Event}
use Rattle.event.specs.declared.Event.TheVariants.{ReadAllowed, Refused, Lost}
use Rattle.event.specs.declared.Refusal.{Refusal}
use Rattle.event.specs.declared.Refusal.TheVariants.{Length, Lacking, Blocked, Unusable, Moment, Data, Parameters, NotFound, Instruction, Class, Outside}
use Rattle.event.specs.declared.Loss.{Loss}
use Rattle.event.specs.declared.Loss.TheVariants.{Unprotected, Broken}
use Rattle.event.specs.Event.{word_of}
use Rattle.plans.specs.declared.Note.TheVariants.{Protected}
use Rattle.verdicts.specs.declared.Answered.{Answered}
use Rattle.verdicts.specs.declared.Happened.{Happened}
use Rattle.plans.specs.Plans.{settled_by}
use Rattle.verdicts.specs.Verdicts.{ends_by, ending_of, decided_of}
use Rattle.outcome.specs.Outcome.{grounded}
use Rattle.fields.specs.Given.{only}
use Rattle.fields.specs.Asked.{asked_of, asked_by, asking, data_of}
use Rattle.fields.specs.declared.asked.Ask.TheVariants.{Read as AskRead}
use Rattle.fields.specs.declared.asked.Asked.{Asked}
use Rattle.fields.specs.declared.given.Given.{Given}
use Rattle.fields.specs.Given.{only}
use Rattle.status.specs.Words.{word_number}
use Rattle.reply.specs.declared.Layout.TheVariants.{Bare}
use Rattle.reply.specs.Bytes.{word_bytes}
use Rattle.reply.specs.Reply.{room, data_of as reply_data, reply_of}
use Rattle.answer.specs.Answer.{layout_of, reply_to}
use Rattle.days.specs.declared.Day.{Day}
use Rattle.trust.specs.declared.Points.{Points}
use Rattle.token.specs.State.{made_of}
use Rattle.standing.specs.declared.Reach.{Reach}
use Rattle.standing.specs.declared.Reach.TheVariants.{Empty, ToDv, ToTerminal}
use Rattle.standing.specs.declared.Stage.{Stage}
use Rattle.standing.specs.declared.Stage.TheVariants.{Idle, Run, Announced as AtAnnounced, Challenged as AtChallenged, Proven as AtProven, ChipKeyChosen as AtChosen, Authenticated as AtAuthenticated}
use Rattle.session.specs.declared.Context.{Context}
use Rattle.standing.proofs.Stages.{authenticated-is}
use Rattle.standing.specs.Standing.{from_proven, is_open, opened_by_pin, opened_by_can, has_rights, has_terminal, reaches_terminal, no_run, from_announced, is_authenticated}
use Rattle.moment.specs.Moment.{moment_of}
use Rattle.authorization.specs.Authorization.{trusted_of, confirmed_of, authorization}
use Rattle.authorization.proofs.Authorizes.{shared-right, effective-right}
use Rattle.token.specs.State.{context_of}
use Rattle.token.specs.declared.state.Token.{Token}
use Rattle.token.specs.Limits.{in_limits}
use Rattle.checks.specs.Checks.{read_plan}
use Rattle.token.specs.Plan.{command_of, given_of, timed_of, requested_of, guarded, plan_of}
use Rattle.token.specs.Step.{Exchange, Stepped, happened_of, next_of, ended_by, step_of}
use Rattle.reached.proofs.Fits.{InLimits, in-limits, given_in, fits}
use Rattle.reached.proofs.Within.{InContext, context-of, reset-in, step_in_lem, made_in}
use Rattle.record.specs.Entries.{Entry, Reset, Sent, after, reached, shown_at, shown}
use Rattle.rule.specs.Facts.{Shown, Fact, TrustPoint, Seen, fact_by, fact_of, facts_of, request_fact, given_fact, held_after, held, seen}
use Rattle.rule.specs.Rule.{given, ChainRights, confirmed, chain, proven, authenticated, bits_agree, readable}
use Rattle.record.specs.Claim.{begun, trust_points, ReadOf, short, extended, ReadsNow, record_says, Exactly, Claim, ClaimBytes, ClaimWithin}
use Rattle.record.proofs.Words.{fact-of}
use Rattle.record.proofs.Agree.{confirmed_by, chain_rights_of, opener-open, more, Agrees, quiet, keep, reset-keeps, start-agrees}

-- ---- along a record

within-one : (t : Token) (x : Entry) → InLimits t → InLimits (after t x)
unfolding after
within-one t Reset l = reset-in t l
within-one t (Sent x) l = step_in_lem t x l

request-given : (z : List ℕ) (r : Result Asked Refusal) → request_fact z r ≡ given_fact z (given_in r)
request-given z (Err w) = refl
request-given z (Ok a) = refl

entry : {now : List TrustPoint} (t : Token) {r : List Seen} (x : Entry) → InLimits t → Agrees now t r
    → Agrees (held_after now (fact_of (shown_at t x))) (after t x) (more now (fact_of (shown_at t x)) r)
unfolding after step_of
entry t Reset l i = reset-keeps t i
entry {now} t {r} (Sent x) l i = go (ltb x.size room)
  where
    a : Option Given
    a = given_in (asked_of x.command)

    h : Happened
    h = happened_of t x

    ended : Bool → Stepped
    ended b = cond b (record { token = t; word = W6F00; bytes = [] }) (ended_by t h x)

    f : Bool → Fact
    f b = fact_by (ended b).word (request_fact x.second (asked_of x.command))

    go : (b : Bool) → Agrees (held_after now (f b)) (ended b).token (more now (f b) r)
    go true = quiet i
    go false =
        let g = fits t x in
        let e = ap (λ (y : Fact). fact_by (word_of h.event) y) (request-given x.second (asked_of x.command)) ∙ fact-of t a x.second g in
        subst (λ (y : Fact). Agrees (held_after now y) (next_of t h) (more now y r)) (sym e) (keep t l g i)

along-in : (t : Token) (entries : List Entry) → InLimits t → InLimits (reached t entries)
along-in t [] l = l
along-in t (x ∷ rest) l = along-in (after t x) rest (within-one t x l)

-- the facts of a record so far
abbrev Told : List TrustPoint → Token → List Shown → Type 0
Told start t past = Agrees (held start (facts_of past)) t (seen start (facts_of past))

along : (start : List TrustPoint) (t : Token) (past : List Shown) (entries : List Entry) → InLimits t → Told start t past → Told start (reached t entries) (shown t entries past)
along start t past [] l i = i
along start t past (x ∷ rest) l i = along start (after t x) (shown_at t x ∷ past) rest (within-one t x l) (entry t x l i)

-- ---- a correct read is one

module _ (n : ℕ) (lo : 1 ≤ n) (hi : n ≤ 21) where
  read-kind : (p2 : ℕ) → kind_of 0xB0 (0x80 + n) p2 ≡ Ok (KindRead n)
  unfolding kind_of
  read-kind p2 =
      let e : 0x80 + n - 0x80 ≡ n = omega arith in
      rw (le-ltb (0x80 + n) 0x81 (omega arith), le-ltb 0x95 (0x80 + n) (omega arith), e)

  read-shape : {s : List ℕ} → ReadOf n s → shape_of s ≡ Ok (record { kind = KindRead n; chained = false; start = 4; end = 4 })
  unfolding shape_of form_of after_header after_four extended_of headed_of
  read-shape (short p2 le) = rw (read-kind p2)
  read-shape (extended p2 high low) = rw (read-kind p2)

  read_asked : (s : List ℕ) → ReadOf n s → asked_of s ≡ asking (KindRead n) false (Some (only (AskRead n)))
  unfolding asked_of asking data_of only
  read_asked s r = ap (λ (y : Shape). asked_by s y) (read-shape r)

-- ---- what happens at a protected read: by whether a session is open, no run is, and the right is there

abbrev read_event : Bool → Bool → Bool → Event
read_event held idle right = cond held (cond idle (grounded right ReadAllowed) (Refused Moment)) (Lost Broken)

module _ (t : Token) (s : List ℕ) (n : ℕ) (l : in_limits t ≡ true) (q : asked_of s ≡ asking (KindRead n) false (Some (only (AskRead n)))) where
  abbrev right : Bool
  right = reads_group (authorization (context_of t)) n

  timed : requested_of t (asked_of s) ≡ settled_by (cond (no_run (context_of t).stage) (grounded right ReadAllowed) (Refused Moment))
  unfolding requested_of timed_of given_of command_of read_plan moment_of asking only
  timed = ap (λ (y : Result Asked Refusal). requested_of t y) q ∙ go (no_run (context_of t).stage)
    where
      go : (b : Bool) → cond (not b) (settled_by (Refused Moment)) (settled_by (grounded right ReadAllowed)) ≡ settled_by (cond b (grounded right ReadAllowed) (Refused Moment))
      go true = refl
      go false = refl

  read-plan : plan_of t s Protected ≡ settled_by (read_event (is_open (context_of t).opened) (no_run (context_of t).stage) right)
  unfolding plan_of guarded
  read-plan = rw (l, timed) (go (is_open (context_of t).opened))
    where
      e : Event
      e = cond (no_run (context_of t).stage) (grounded right ReadAllowed) (Refused Moment)

      go : (b : Bool) → guarded (cond b (Ok tt) (Err Broken)) (settled_by e) ≡ settled_by (cond b e (Lost Broken))
      go true = refl
      go false = refl

settled-event : (e : Event) (r : Answered) (a : ℕ) (z : List ℕ) → (decided_of (settled_by e) r a z).event ≡ e
unfolding settled_by ending_of ends_by
settled-event e r a z = refl

-- its reply is its word
bare-reply : (h : Points) (e : Event) (size : ℕ) → layout_of e ≡ Bare → room ≤ size → reply_to h e [] size ≡ word_bytes (word_number (word_of e))
unfolding reply_to reply_of reply_data
bare-reply h e size b r = rw (b, le-ltb size room r)

read-bare : (o m b : Bool) → layout_of (read_event o m b) ≡ Bare
unfolding layout_of
read-bare true true true = refl
read-bare true true false = refl
read-bare true false b = refl
read-bare false m b = refl

-- what happens at it
abbrev at_read : Token → ℕ → Event
at_read t n = read_event (is_open (context_of t).opened) (no_run (context_of t).stage) (reads_group (authorization (context_of t)) n)

module _ (t : Token) (n : ℕ) (x : Exchange) (l : in_limits t ≡ true) (w : ReadsNow n x) where
  planned : plan_of t x.command Protected ≡ settled_by (at_read t n)
  planned = read-plan t x.command n l (read_asked n w.least w.most x.command w.bytes)

  read_word : (step_of t x).word ≡ word_of (at_read t n)
  unfolding step_of
  read_word = rw (le-ltb x.size room w.roomy, w.protected, planned) (ap word_of (settled-event (at_read t n) x.result (length x.first) x.second))

  read-bytes : (step_of t x).bytes ≡ word_bytes (word_number (word_of (at_read t n)))
  unfolding step_of settled_by ending_of ends_by
  read-bytes =
      rw (le-ltb x.size room w.roomy, w.protected, planned)
      (bare-reply _ (at_read t n) x.size (read-bare (is_open (context_of t).opened) (no_run (context_of t).stage) (reads_group (authorization (context_of t)) n)) w.roomy)

-- ---- 9000 exactly where all three hold

-- what holds of the three exactly where this is read, holds exactly where the record says so
allowed : (P : Event → Type 0) → P ReadAllowed → ((e : Refusal) → P (Refused e) → ⊥) → ((e : Loss) → P (Lost e) → ⊥) → (o m b says : Bool) → says ≡ o && m && b → Exactly (says ≡ true) (P (read_event o m b))
allowed P ok nay lost true true true says e = record { enough = λ h. ok; needed = λ h. e }
allowed P ok nay lost true true false says e = record { enough = λ h. true-false (sym h ∙ e); needed = λ h. absurd (nay Lacking h) }
allowed P ok nay lost true false b says e = record { enough = λ h. true-false (sym h ∙ e); needed = λ h. absurd (nay Moment h) }
allowed P ok nay lost false m b says e = record { enough = λ h. true-false (sym h ∙ e); needed = λ h. absurd (lost Broken h) }

-- ---- the bits

with_can : (c f b : Bool) → not (c && not f) && b ≡ (not c || f) && b
with_can true true b = refl
with_can true false b = refl
with_can false f b = refl

auth-proven : (s : Stage) → is_authenticated s ≡ from_proven s && is_authenticated s
auth-proven Idle = refl
auth-proven (Run c p) = refl
auth-proven AtAnnounced = refl
auth-proven AtChallenged = refl
auth-proven AtProven = refl
auth-proven AtChosen = refl
auth-proven AtAuthenticated = refl

-- an authenticated session has an opener, rights and a whole chain
record Whole (c : Context) : Type 0 where
  pub opened : is_open c.opened ≡ true
  pub rights : has_rights c.confirmed ≡ true
  pub terminal : has_terminal c.chain ≡ true

whole : (c : Context) (pin : ℕ) → InContext c pin → is_authenticated c.stage ≡ true → Whole c
whole c pin x a =
    let k = or-then (from_announced c.stage) (has_rights c.confirmed && has_terminal c.chain && key_stands c.key) x.grounds (ap from_announced (authenticated-is c.stage a)) in
    let m = and_l (has_rights c.confirmed && has_terminal c.chain) (key_stands c.key) k in
    let r = and_l (has_rights c.confirmed) (has_terminal c.chain) m in
    record { opened = opener-open c.opened (or-then (has_rights c.confirmed) (opened_by_pin c.opened || opened_by_can c.opened) x.opener r); rights = r; terminal = and_r (has_rights c.confirmed) (has_terminal c.chain) m }

-- a bit in all four
abbrev all : Reach → Rights → Rights → Option Rights → ℕ → Bool
all x d u g k = has_right k (trusted_of x) && has_right k d && has_right k u && has_right k (confirmed_of g)

rule-bits : (n : ℕ) (a : Bool) (o : Option Password) (g : Option Rights) (x : Reach) (d u : Certificate) → (a ≡ true → (is_open o ≡ true) × (has_rights g ≡ true) × (reaches_terminal x ≡ true))
    → a && not (opened_by_can o && not (all x d.rights u.rights g 4)) && all x d.rights u.rights g (7 + n) ≡ a && bits_agree (confirmed_by o g) (chain_rights_of x d u) n
rule-bits n false o g x d u w = refl
rule-bits n true None g x d u w = true-false (sym (w refl).0)
rule-bits n true (Some p) None x d u w = true-false (sym (w refl).1)
rule-bits n true (Some p) (Some r) Empty d u w = true-false (sym (w refl).2)
rule-bits n true (Some p) (Some r) (ToDv trusted) d u w = true-false (sym (w refl).2)
rule-bits n true (Some p) (Some r) (ToTerminal trusted) d u w = with_can (is_can p) (all (ToTerminal trusted) d.rights u.rights (Some r) 4) (all (ToTerminal trusted) d.rights u.rights (Some r) (7 + n))

-- the token's test of group n, bit by bit
abbrev by_token : Context → ℕ → Bool
by_token c n =
    is_authenticated c.stage
    && not (opened_by_can c.opened && not (all c.chain.reach c.chain.dv.rights c.chain.terminal.rights c.confirmed 4))
    && all c.chain.reach c.chain.dv.rights c.chain.terminal.rights c.confirmed (7 + n)

token-bits : (c : Context) (n : ℕ) → 1 ≤ n → n ≤ 21 → reads_group (authorization c) n ≡ by_token c n
unfolding reads_group
token-bits c n lo hi =
    rw (le-leb 1 n lo, le-leb n 21 hi, effective-right (7 + n) c (omega arith), shared-right 4 c.chain c.confirmed (omega arith), shared-right (7 + n) c.chain c.confirmed (omega arith))

passed : (s : Stage) {p a : Bool} → from_proven s ≡ p → is_authenticated s ≡ a → is_authenticated s ≡ p && a
passed s e f = auth-proven s ∙ rw (e, f)

-- (a) to (d) hold where the bits agree, for an authenticated session
five : (a : Option (Password × Rights)) (b : Option ChainRights) (c d : Bool) (n : ℕ) → d ≡ c && d → d && bits_agree a b n ≡ given a && given b && c && d && bits_agree a b n
five None b c true n e = refl
five None b c false n e = refl
five (Some a) None c true n e = refl
five (Some a) None c false n e = refl
five (Some a) (Some b) true d n e = refl
five (Some a) (Some b) false true n e = true-false e
five (Some a) (Some b) false false n e = refl

-- the token's right is the rule's
agree : {now : List TrustPoint} (t : Token) (r : List Seen) (n : ℕ) → 1 ≤ n → n ≤ 21 → InLimits t → Agrees now t r → reads_group (authorization (context_of t)) n ≡ readable r n
unfolding readable
agree t r n lo hi l i =
    let c : Context = context_of t in
    token-bits c n lo hi
    ∙ rule-bits n (is_authenticated c.stage) c.opened c.confirmed c.chain.reach c.chain.dv c.chain.terminal
    (λ a. let w = whole c t.pin (context-of c t.pin l.context) a in (w.opened, w.rights, w.terminal))
    ∙ rw (i.rights, i.terminal, i.auth) (five (confirmed r) (chain r) (proven r) (authenticated r) n (sym i.auth ∙ passed c.stage i.prov i.auth))

-- where the right is there, a session is open and no run is
grounds : (t : Token) (n : ℕ) → 1 ≤ n → n ≤ 21 → InLimits t → reads_group (authorization (context_of t)) n ≡ true → (is_open (context_of t).opened ≡ true) × (no_run (context_of t).stage ≡ true)
grounds t n lo hi l e =
    let c : Context = context_of t in
    let f : by_token c n ≡ true = sym (token-bits c n lo hi) ∙ e in
    let a = and_l (is_authenticated c.stage) _ (and_l _ _ f) in
    ((whole c t.pin (context-of c t.pin l.context) a).opened, ap no_run (authenticated-is c.stage a))

-- ---- the record decides

module _ (h : Points) (d : Day) (a : is_ok (made_of h d) ≡ true) (entries : List Entry) where
  begun-in : InLimits (begun h d)
  begun-in = let m = made_in h d a in subst (λ (t : Token). InLimits t) (sym m.0) m.1

  left_in : InLimits (reached (begun h d) entries)
  left_in = along-in (begun h d) entries begun-in

  -- what the record says is what a read is asked: a session is open, no run is, and the right is there
  says_so : (n : ℕ) → 1 ≤ n → n ≤ 21
      → let c = context_of (reached (begun h d) entries) in record_says h d entries n ≡ is_open c.opened && no_run c.stage && reads_group (authorization c) n
  says_so n lo hi =
      let t : Token = reached (begun h d) entries in
      let i : Agrees (trust_points h) (begun h d) [] = subst (λ (t : Token). Agrees (trust_points h) t []) (sym (made_in h d a).0) (start-agrees h d) in
      sym (agree t _ n lo hi left_in (along (trust_points h) (begun h d) [] entries begun-in i))
      ∙ three (is_open (context_of t).opened) (no_run (context_of t).stage) (reads_group (authorization (context_of t)) n) (grounds t n lo hi left_in)
    where
      three : (o m b : Bool) → (b ≡ true → (o ≡ true) × (m ≡ true)) → b ≡ o && m && b
      three true true b f = refl
      three true false true f = sym (f refl).1
      three true false false f = refl
      three false m true f = sym (f refl).0
      three false m false f = refl

  module _ (n : ℕ) (x : Exchange) (w : ReadsNow n x) where
    -- what is said of every event, and of a read that is allowed alone
    decides : (P : Event → Type 0) → P ReadAllowed → ((e : Refusal) → P (Refused e) → ⊥) → ((e : Loss) → P (Lost e) → ⊥)
        → Exactly (record_says h d entries n ≡ true) (P (at_read (reached (begun h d) entries) n))
    decides P ok nay lost =
        let t : Token = reached (begun h d) entries in
        allowed P ok nay lost (is_open (context_of t).opened) (no_run (context_of t).stage) (reads_group (authorization (context_of t)) n) (record_says h d entries n) (says_so n w.least w.most)

-- ---- the claims

-- a read that is allowed is 9000; no refusal and no loss is
done : word_of ReadAllowed ≡ Done
unfolding word_of
done = refl

done-bytes : word_bytes (word_number (word_of ReadAllowed)) ≡ 0x90 ∷ 0x00 ∷ []
unfolding word_of word_number
done-bytes = refl

refused-word : (e : Refusal) → word_of (Refused e) ≡ Done → ⊥
unfolding word_of
refused-word Length h = let z : ◌≡◌ {A = ℕ} 0 1 = cc in omega arith
refused-word Lacking h = let z : ◌≡◌ {A = ℕ} 0 1 = cc in omega arith
refused-word Blocked h = let z : ◌≡◌ {A = ℕ} 0 1 = cc in omega arith
refused-word Unusable h = let z : ◌≡◌ {A = ℕ} 0 1 = cc in omega arith
refused-word Moment h = let z : ◌≡◌ {A = ℕ} 0 1 = cc in omega arith
refused-word Data h = let z : ◌≡◌ {A = ℕ} 0 1 = cc in omega arith
refused-word Parameters h = let z : ◌≡◌ {A = ℕ} 0 1 = cc in omega arith
refused-word NotFound h = let z : ◌≡◌ {A = ℕ} 0 1 = cc in omega arith
refused-word Instruction h = let z : ◌≡◌ {A = ℕ} 0 1 = cc in omega arith
refused-word Class h = let z : ◌≡◌ {A = ℕ} 0 1 = cc in omega arith
refused-word Outside h = let z : ◌≡◌ {A = ℕ} 0 1 = cc in omega arith

lost-word : (e : Loss) → word_of (Lost e) ≡ Done → ⊥
unfolding word_of
lost-word Unprotected h = let z : ◌≡◌ {A = ℕ} 0 1 = cc in omega arith
lost-word Broken h = let z : ◌≡◌ {A = ℕ} 0 1 = cc in omega arith

first_of : {x y : ℕ} {a b : List ℕ} → x ∷ a ≡ y ∷ b → x ≡ y
first_of h = cc

refused-bytes : (e : Refusal) → word_bytes (word_number (word_of (Refused e))) ≡ 0x90 ∷ 0x00 ∷ [] → ⊥
unfolding word_of word_number
refused-bytes Length h = let z = first_of h in omega arith
refused-bytes Lacking h = let z = first_of h in omega arith
refused-bytes Blocked h = let z = first_of h in omega arith
refused-bytes Unusable h = let z = first_of h in omega arith
refused-bytes Moment h = let z = first_of h in omega arith
refused-bytes Data h = let z = first_of h in omega arith
refused-bytes Parameters h = let z = first_of h in omega arith
refused-bytes NotFound h = let z = first_of h in omega arith
refused-bytes Instruction h = let z = first_of h in omega arith
refused-bytes Class h = let z = first_of h in omega arith
refused-bytes Outside h = let z = first_of h in omega arith

lost-bytes : (e : Loss) → word_bytes (word_number (word_of (Lost e))) ≡ 0x90 ∷ 0x00 ∷ [] → ⊥
unfolding word_of word_number
lost-bytes Unprotected h = let z = first_of h in omega arith
lost-bytes Broken h = let z = first_of h in omega arith

pub claim : Claim
claim h d a entries n x w =
    let t : Token = reached (begun h d) entries in
    subst⁻¹ (λ (y : Word). Exactly (record_says h d entries n ≡ true) (y ≡ Done)) (read_word t n x (in-limits (left_in h d a entries)) w)
    (decides h d a entries n x w (λ (e : Event). word_of e ≡ Done) done refused-word lost-word)

pub claim-bytes : ClaimBytes
claim-bytes h d a entries n x w =
    let t : Token = reached (begun h d) entries in
    subst⁻¹ (λ (y : List ℕ). Exactly (record_says h d entries n ≡ true) (y ≡ 0x90 ∷ 0x00 ∷ [])) (read-bytes t n x (in-limits (left_in h d a entries)) w)
    (decides h d a entries n x w (λ (e : Event). word_bytes (word_number (word_of e)) ≡ 0x90 ∷ 0x00 ∷ []) done-bytes refused-bytes lost-bytes)

-- every state that is reached is within its limits
pub claim-within : ClaimWithin
claim-within h d a entries = in-limits (left_in h d a entries)
