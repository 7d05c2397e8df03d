-- The token and the rule agree: an invariant between the token and the rule's own functions, kept by every event.
-- Assumes nothing.
use Rattle.std.specs.Prelude.{Option, Some, None}
use Prim.Native.Nat.{ℕ}
use mathlib.Core.Bool.{Bool, true, false, cond, ◌||◌}
use mathlib.Core.Path.{◌≡◌, refl, sym, ap, subst, ◌∙◌}
use mathlib.Core.List.{List, [], ◌∷◌}
use Rattle.laws.proofs.Bools.{true-false, and_l, or-then}
use Rattle.names.specs.Names.{same_name}
use Rattle.rights.specs.Rights.{role_of}
use Rattle.roles.specs.Roles.{is_cvca, is_dv}
use Rattle.certificate.specs.Certificate.{no_certificate, with_key}
use Rattle.keys.specs.Keys.{no_key, key_is}
use Rattle.names.specs.declared.Name.{Name}
use Rattle.keys.specs.declared.Key.{Key}
use Rattle.days.specs.declared.Day.{Day}
use Rattle.brought.specs.declared.Brought.{Brought}
use Rattle.certificate.specs.declared.Certificate.{Certificate}
use Rattle.rights.specs.declared.Rights.{Rights}
use Rattle.roles.specs.declared.Role.{Role}
use Rattle.roles.specs.declared.Role.TheVariants.{Cvca, OfficialDv, OtherDv, Terminal}
use Rattle.run.specs.declared.Password.{Password}
use Rattle.run.specs.declared.Choice.{Choice}
use Rattle.run.specs.declared.Step.{Step}
use Rattle.run.specs.declared.Step.TheVariants.{Nonce, Map, Agree, Confirm}
use Rattle.run.specs.Run.{password_of, rights_named, is_last, next_step}
use Rattle.event.specs.declared.Event.{Event}
use Rattle.trust.specs.Trust.{points_fit, points_held, linked}
use Rattle.trust.proofs.Laws.{Holds, first_named, by_name}
use Rattle.trust.specs.declared.Points.{Points}
use Rattle.fields.specs.declared.given.Given.{Given}
use Rattle.standing.specs.declared.Reach.{Reach}
use Rattle.standing.specs.declared.Reach.TheVariants.{Empty, ToDv, ToTerminal}
use Rattle.standing.specs.declared.Chain.{Chain}
use Rattle.standing.specs.declared.Stage.{Stage}
use Rattle.standing.specs.declared.Stage.TheVariants.{Idle, Run, Announced as AtAnnounced, Challenged as AtChallenged, Proven as AtProven, ChipKeyChosen as AtChosen, Authenticated as AtAuthenticated}
use Rattle.session.specs.declared.Context.{Context}
use Rattle.standing.specs.Standing.{is_open, opened_by_pin, opened_by_can, has_rights, reaches_dv, has_dv, no_chain, unproven, from_announced, from_challenged, from_proven, is_authenticated}
use Rattle.standing.proofs.Stages.{challenged-is, Challengeable, when-announced, when-challenged, challengeable, Choosable, when-proven, when-chosen, choosable}
use Rattle.session.specs.Session.{bare_session}
use Rattle.token.specs.declared.state.Token.{Token}
use Rattle.token.specs.State.{reset_of, start_of, context_of}
use Rattle.token.specs.After.{choice_taken, staged, step_passed, opened, run_closed, trial_lost, issuer_selected, link_taken, dv_taken, extended, terminal_taken, announced, unblocked, unblocked_by_puk, after_of}
use Rattle.reached.proofs.Fits.{InLimits, Fits, is-refused, is_lost_lem, is-chosen, is-stepped, is-opened, is-run-closed, is-trial-lost, is-selected, is-link-taken, is-dv-taken, is-terminal-taken, is-announced, is-challenged, is-proven, is-proof-lost, is-chip-key-chosen, is-authenticated, is-chip-lost, not-passed, is_read, is-changed, is-unblocked-puk, is-unblocked, is-activated, is-deactivated}
use Rattle.fields.proofs.Facts.{brought_in}
use Rattle.reached.proofs.Within.{context-of}
use Rattle.rule.specs.Facts.{Fact, Taken, StepPassed, Accepted, Announced, Challenged, Proved, ProofFailed, ChipPassed, Lost, Nothing, TrustPoint, Seen, is_key, linked_by, held_after, rights_of}
use Rattle.rule.specs.Rule.{given, or_else, last_choice, steps, four_steps, naming, named, confirmed, Dv, ChainRights, dv_by, last_dv, under, chain, announced_key, challenged, proven, authenticated}
use Rattle.record.specs.Claim.{as_trust_points, trust_points}
use Rattle.record.proofs.Words.{fact_at}

-- ---- what a session holds, in the rule's terms

abbrev pub confirmed_by : Option Password → Option Rights → Option (Password × Rights)
confirmed_by None g = None
confirmed_by (Some w) g = naming w g

-- the DV, if there is one, is the record's latest
abbrev pub Below : Reach → Certificate → Option Dv → Type 0
Below Empty d o = Unit {0}
Below (ToDv trusted) d o = o ≡ Some (record { trusted = Some trusted; name = d.name; rights = d.rights })
Below (ToTerminal trusted) d o = o ≡ Some (record { trusted = Some trusted; name = d.name; rights = d.rights })

abbrev pub chain_rights_of : Reach → Certificate → Certificate → Option ChainRights
chain_rights_of Empty d u = None
chain_rights_of (ToDv trusted) d u = None
chain_rights_of (ToTerminal trusted) d u = Some (record { trusted = trusted; dv = d.rights; terminal = u.rights })

-- from announced on a key stands
abbrev pub announced_by : Stage → Key → Option Key
announced_by s k = cond (from_announced s) (Some k) None

-- the steps passed before this one, newest first
abbrev pub turns : Step → List Step
turns Nonce = []
turns Map = Nonce ∷ []
turns Agree = Map ∷ Nonce ∷ []
turns Confirm = Agree ∷ Map ∷ Nonce ∷ []

-- in a run the choice is the record's last, and its steps are those passed so far
abbrev pub Running : Stage → Option Choice → List Step → Option ChainRights → Type 0
Running Idle c l b = Unit {0}
Running (Run c s) o l b = (o ≡ Some c) × (l ≡ turns s) × (b ≡ None)
Running AtAnnounced c l b = Unit {0}
Running AtChallenged c l b = Unit {0}
Running AtProven c l b = Unit {0}
Running AtChosen c l b = Unit {0}
Running AtAuthenticated c l b = Unit {0}

pub record Inv (now : List TrustPoint) (ps : Points) (c : Context) (r : List Seen) : Type 0 where
  pub points : trust_points ps ≡ now
  pub rights : confirmed_by c.opened c.confirmed ≡ confirmed r
  pub dv : Below c.chain.reach c.chain.dv (last_dv r)
  pub terminal : chain_rights_of c.chain.reach c.chain.dv c.chain.terminal ≡ chain r
  pub key : announced_by c.stage c.key ≡ announced_key r
  pub chal : from_challenged c.stage ≡ challenged r
  pub prov : from_proven c.stage ≡ proven r
  pub auth : is_authenticated c.stage ≡ authenticated r
  pub run : Running c.stage (last_choice r) (steps r) (chain r)

-- ---- small facts

-- a trust point that is held is found by its name
rights-first : (l : List Certificate) (n : Name) → rights_of (as_trust_points l) n ≡ first_named n (λ p. Some p.rights) None l
rights-first [] n = refl
rights-first (p ∷ older) n = ap (λ (x : Option Rights). cond (same_name n p.name) (Some p.rights) x) (rights-first older n)

found : (ps : Points) {p : Certificate} (n : Name) → points_fit ps ≡ true → Holds ps p → same_name n p.name ≡ true → rights_of (trust_points ps) n ≡ Some p.rights
found ps n f g e = rights-first (points_held ps) n ∙ by_name ps f n (λ q. Some q.rights) None g e

no-rights : (o : Option Password) → confirmed_by o None ≡ None
no-rights None = refl
no-rights (Some w) = refl

-- confirmed rights stand in a session that the PIN or the CAN opened
pub opener-open : (o : Option Password) → opened_by_pin o || opened_by_can o ≡ true → is_open o ≡ true
opener-open None e = e
opener-open (Some w) e = refl

names-some : (o : Option Password) (g : Option Rights) → is_open o ≡ true → has_rights g ≡ true → given (confirmed_by o g) ≡ true
names-some None g e f = e
names-some (Some w) (Some r) e f = refl
names-some (Some w) None e f = f

confirms : (t : Token) → InLimits t → has_rights (context_of t).confirmed ≡ true → given (confirmed_by (context_of t).opened (context_of t).confirmed) ≡ true
confirms t l h =
    let c : Context = context_of t in
    names-some c.opened c.confirmed
    (opener-open c.opened (or-then (has_rights c.confirmed) (opened_by_pin c.opened || opened_by_can c.opened) (context-of c t.pin l.context).opener h)) h

-- fewer than four steps
few : (x : Option (Password × Rights)) (s : Step) {l : List Step} → l ≡ turns s → cond (four_steps l) x None ≡ None
few x Nonce e = ap (λ (k : List Step). cond (four_steps k) x None) e
few x Map e = ap (λ (k : List Step). cond (four_steps k) x None) e
few x Agree e = ap (λ (k : List Step). cond (four_steps k) x None) e
few x Confirm e = ap (λ (k : List Step). cond (four_steps k) x None) e

next : (s : Step) → is_last s ≡ false → s ∷ turns s ≡ turns (next_step s)
next Nonce e = refl
next Map e = refl
next Agree e = refl
next Confirm e = true-false e

-- the same session at another stage
abbrev at : Context → Stage → Context
at c s = record { opened = c.opened; confirmed = c.confirmed; chain = c.chain; stage = s; key = c.key }

-- ---- every event keeps it

-- the line with one fact more, and the trust points held then
abbrev pub more : List TrustPoint → Fact → List Seen → List Seen
more now f r = record { fact = f; points = now } ∷ r

module _ {now : List TrustPoint} {ps : Points} {r : List Seen} where
  -- the invariant where the stage is known
  known : (c : Context) {s : Stage} → c.stage ≡ s → Inv now ps c r → Inv now ps (at c s) r
  known c e i = subst (λ (s : Stage). Inv now ps (at c s) r) e i

  -- nothing that counts
  pub quiet : {c : Context} → Inv now ps c r → Inv now ps c (more now Nothing r)
  quiet i = record { points = i.points; rights = i.rights; dv = i.dv; terminal = i.terminal; key = i.key; chal = i.chal; prov = i.prov; auth = i.auth; run = i.run }

  lost : {c : Context} → Inv now ps c r → Inv now ps (bare_session None None Idle).context (more now Lost r)
  unfolding no_chain
  lost i = record { points = i.points; rights = refl; dv = tt; terminal = refl; key = refl; chal = refl; prov = refl; auth = refl; run = tt }

  taken : (o : Option Password) (d : Choice) {c : Context} → Inv now ps c r → Inv now ps (bare_session o None (Run d Nonce)).context (more now (Taken d) r)
  unfolding no_chain
  taken o d i = record { points = i.points; rights = no-rights o; dv = tt; terminal = refl; key = refl; chal = refl; prov = refl; auth = refl; run = (refl, refl, refl) }

  module _ (c : Context) (d : Choice) where
    -- another step is passed, and not the last
    stepped : (s : Step) → is_last s ≡ false → Inv now ps (at c (Run d s)) r → Inv now ps (at c (Run d (next_step s))) (more now (StepPassed s) r)
    stepped s e i =
        let n : s ∷ steps r ≡ turns (next_step s) = ap (λ (l : List Step). s ∷ l) i.run.1 ∙ next s e in
        record {
          points = i.points;
          rights = i.rights ∙ few (named (last_choice r)) s i.run.1 ∙ sym (few (named (last_choice r)) (next_step s) n);
          dv = i.dv;
          terminal = i.terminal;
          key = i.key;
          chal = i.chal;
          prov = i.prov;
          auth = i.auth;
          run = (i.run.0, n, i.run.2);
        }

    open-now : (s : Step) → is_last s ≡ true → Inv now ps (at c (Run d s)) r → Inv now ps (bare_session (Some (password_of d)) (rights_named d) Idle).context (more now (StepPassed Confirm) r)
    unfolding no_chain
    open-now Nonce e i = true-false (sym e)
    open-now Map e i = true-false (sym e)
    open-now Agree e i = true-false (sym e)
    open-now Confirm e i =
        record {
          points = i.points;
          rights = sym (ap (λ (l : List Step). cond (four_steps (Confirm ∷ l)) (named (last_choice r)) None) i.run.1 ∙ ap named i.run.0);
          dv = tt;
          terminal = sym i.run.2;
          key = i.key;
          chal = i.chal;
          prov = i.prov;
          auth = i.auth;
          run = tt;
        }

    closed : (o : Option Password) (s : Step) → Inv now ps (at c (Run d s)) r → Inv now ps (bare_session o None Idle).context (more now Nothing r)
    unfolding no_chain
    closed o s i =
        record { points = i.points; rights = no-rights o ∙ sym (few (named (last_choice r)) s i.run.1); dv = tt; terminal = sym i.run.2; key = i.key; chal = i.chal; prov = i.prov; auth = i.auth; run = tt }

  module _ (c : Context) (n : Name) (p : Certificate) (i : Inv now ps c r) where
    -- a chain, where the certificate tells of points, DV and terminal
    accepted : (qs : Points) (d : Chain) → trust_points qs ≡ held_after now (Accepted n p) → Below d.reach d.dv (last_dv (more now (Accepted n p) r))
        → chain_rights_of d.reach d.dv d.terminal ≡ chain (more now (Accepted n p) r)
        → Inv (held_after now (Accepted n p)) qs (record { opened = c.opened; confirmed = c.confirmed; chain = d; stage = Idle; key = no_key }) (more now (Accepted n p) r)
    accepted qs d e f g = record { points = e; rights = i.rights; dv = f; terminal = g; key = refl; chal = refl; prov = refl; auth = refl; run = tt }

    -- what each role leaves of the points, of the DV and of a terminal
    held_by : (o : Role) → role_of p.rights ≡ o → held_after now (Accepted n p) ≡ linked_by (trust_points ps) p o
    held_by o e = ap (λ (x : Role). linked_by now p x) e ∙ ap (λ (x : List TrustPoint). linked_by x p o) (sym i.points)

    dv-at : (o : Role) → role_of p.rights ≡ o → last_dv (more now (Accepted n p) r) ≡ or_else (dv_by (given (confirmed r)) (trust_points ps) n p o) (cond (is_cvca o) None (last_dv r))
    dv-at o e =
        ap (λ (x : Role). or_else (dv_by (given (confirmed r)) now n p x) (cond (is_cvca x) None (last_dv r))) e
        ∙ ap (λ (x : List TrustPoint). or_else (dv_by (given (confirmed r)) x n p o) (cond (is_cvca o) None (last_dv r))) (sym i.points)

    none-under : (o : Role) → role_of p.rights ≡ o → under (last_dv r) n p o ≡ None → None ≡ chain (more now (Accepted n p) r)
    none-under o e f = sym (ap (λ (x : Role). or_else (under (last_dv r) n p x) None) e ∙ ap (λ (x : Option ChainRights). or_else x None) f)

    linked-now : (k : ℕ) → role_of p.rights ≡ Cvca
        → Inv (held_after now (Accepted n p)) (linked ps (with_key p k)) (record { opened = c.opened; confirmed = c.confirmed; chain = no_chain; stage = Idle; key = no_key }) (more now (Accepted n p) r)
    unfolding no_chain linked with_key
    linked-now k e = accepted (linked ps (with_key p k)) no_chain (sym (held_by Cvca e)) tt (none-under Cvca e refl)

    -- a DV counts, since rights were confirmed before it
    deputed-now : {q : Certificate} (k : ℕ) → points_fit ps ≡ true → given (confirmed_by c.opened c.confirmed) ≡ true → is_dv (role_of p.rights) ≡ true → Holds ps q → same_name n q.name ≡ true
        → Inv (held_after now (Accepted n p)) ps (record { opened = c.opened; confirmed = c.confirmed; chain = record { reach = ToDv q.rights; dv = with_key p k; terminal = no_certificate }; stage = Idle; key = no_key }) (more now (Accepted n p) r)
    unfolding with_key
    deputed-now {q} k f a e g s = go (role_of p.rights) refl e
      where
        dv-of : Option Rights → Option Dv
        dv-of x = Some (record { trusted = x; name = p.name; rights = p.rights })

        counts : (o : Role) → role_of p.rights ≡ o → is_dv o ≡ true → is_cvca o ≡ false → last_dv (more now (Accepted n p) r) ≡ dv-of (Some q.rights)
        counts o d z v =
            dv-at o d
            ∙ rw (z, v, ap given (sym i.rights) ∙ a) (ap dv-of (found ps n f g s))

        go : (o : Role) → role_of p.rights ≡ o → is_dv o ≡ true
            → Inv (held_after now (Accepted n p)) ps (record { opened = c.opened; confirmed = c.confirmed; chain = record { reach = ToDv q.rights; dv = with_key p k; terminal = no_certificate }; stage = Idle; key = no_key }) (more now (Accepted n p) r)
        go Cvca d z = true-false (sym z)
        go OfficialDv d z = accepted ps _ (sym (held_by OfficialDv d)) (counts OfficialDv d refl refl) (none-under OfficialDv d refl)
        go OtherDv d z = accepted ps _ (sym (held_by OtherDv d)) (counts OtherDv d refl refl) (none-under OtherDv d refl)
        go Terminal d z = true-false (sym z)

    completed-now : (k : ℕ) → role_of p.rights ≡ Terminal → has_dv c.chain ≡ true → same_name n c.chain.dv.name ≡ true
        → Inv (held_after now (Accepted n p)) ps (record { opened = c.opened; confirmed = c.confirmed; chain = record { reach = extended c.chain.reach; dv = c.chain.dv; terminal = with_key p k }; stage = Idle; key = no_key }) (more now (Accepted n p) r)
    unfolding with_key
    completed-now k e f s = go c.chain.reach f i.dv
      where
        under-dv : (trusted : Rights) → last_dv r ≡ Some (record { trusted = Some trusted; name = c.chain.dv.name; rights = c.chain.dv.rights })
            → chain (more now (Accepted n p) r) ≡ Some (record { trusted = trusted; dv = c.chain.dv.rights; terminal = p.rights })
        under-dv trusted d =
            ap (λ (x : Role). or_else (under (last_dv r) n p x) None) e ∙ ap (λ (x : Option Dv). or_else (under x n p Terminal) None) d
            ∙ ap (λ (b : Bool). or_else (cond b (Some (record { trusted = trusted; dv = c.chain.dv.rights; terminal = p.rights })) None) None) s

        with-trusted : (trusted : Rights) → last_dv r ≡ Some (record { trusted = Some trusted; name = c.chain.dv.name; rights = c.chain.dv.rights })
            → Inv (held_after now (Accepted n p)) ps (record { opened = c.opened; confirmed = c.confirmed; chain = record { reach = ToTerminal trusted; dv = c.chain.dv; terminal = with_key p k }; stage = Idle; key = no_key }) (more now (Accepted n p) r)
        with-trusted trusted d = accepted ps _ (sym (held_by Terminal e)) (dv-at Terminal e ∙ d) (sym (under-dv trusted d))

        go : (x : Reach) → reaches_dv x ≡ true → Below x c.chain.dv (last_dv r)
            → Inv (held_after now (Accepted n p)) ps (record { opened = c.opened; confirmed = c.confirmed; chain = record { reach = extended x; dv = c.chain.dv; terminal = with_key p k }; stage = Idle; key = no_key }) (more now (Accepted n p) r)
        go Empty z d = true-false (sym z)
        go (ToDv trusted) z d = with-trusted trusted d
        go (ToTerminal trusted) z d = with-trusted trusted d

  announced-now : (c : Context) (k : Key) → Inv now ps c r
      → Inv now ps (record { opened = c.opened; confirmed = c.confirmed; chain = c.chain; stage = AtAnnounced; key = k }) (more now (Announced k) r)
  announced-now c k i =
      record { points = i.points; rights = i.rights; dv = i.dv; terminal = i.terminal; key = refl; chal = refl; prov = refl; auth = refl; run = tt }

  challenged-now : (c : Context) {s : Stage} → Challengeable s → Inv now ps (at c s) r → Inv now ps (at c AtChallenged) (more now Challenged r)
  challenged-now c when-announced i =
      let a : given (announced_key r) ≡ true = ap given (sym i.key) in
      record { points = i.points; rights = i.rights; dv = i.dv; terminal = i.terminal; key = i.key; chal = rw a; prov = i.prov; auth = i.auth; run = tt }
  challenged-now c when-challenged i =
      let a : given (announced_key r) ≡ true = ap given (sym i.key) in
      record { points = i.points; rights = i.rights; dv = i.dv; terminal = i.terminal; key = i.key; chal = rw a; prov = i.prov; auth = i.auth; run = tt }

  proved-now : (c : Context) → Inv now ps (at c AtChallenged) r → Inv now ps (at c AtProven) (more now Proved r)
  proved-now c i =
      let a : challenged r ≡ true = sym i.chal in
      record { points = i.points; rights = i.rights; dv = i.dv; terminal = i.terminal; key = i.key; chal = i.chal; prov = rw a; auth = i.auth; run = tt }

  disproved-now : (c : Context) → Inv now ps (at c AtChallenged) r → Inv now ps (at c AtAnnounced) (more now ProofFailed r)
  disproved-now c i = record { points = i.points; rights = i.rights; dv = i.dv; terminal = i.terminal; key = i.key; chal = refl; prov = refl; auth = refl; run = tt }

  -- a chip key may be chosen, and chosen again: nothing of the rule changes
  chip-now : (c : Context) {s : Stage} → Choosable s → Inv now ps (at c s) r → Inv now ps (at c AtChosen) (more now Nothing r)
  chip-now c when-proven i = record { points = i.points; rights = i.rights; dv = i.dv; terminal = i.terminal; key = i.key; chal = i.chal; prov = i.prov; auth = i.auth; run = tt }
  chip-now c when-chosen i = quiet i

  -- the key that the crypto unit answered is the announced one
  authenticated-now : (c : Context) (z : List ℕ) → key_is c.key z ≡ true → Inv now ps (at c AtChosen) r → Inv now ps (at c AtAuthenticated) (more now (ChipPassed z) r)
  authenticated-now c z m i =
      let a : proven r ≡ true = sym i.prov in
      let k : is_key (announced_key r) z ≡ true = ap (λ (y : Option Key). is_key y z) (sym i.key) ∙ m in
      record { points = i.points; rights = i.rights; dv = i.dv; terminal = i.terminal; key = i.key; chal = i.chal; prov = i.prov; auth = rw (k, a); run = tt }

  chip-lost-now : (c : Context) → Inv now ps (at c AtChosen) r → Inv now ps (at c AtProven) (more now Nothing r)
  chip-lost-now c i = record { points = i.points; rights = i.rights; dv = i.dv; terminal = i.terminal; key = i.key; chal = i.chal; prov = i.prov; auth = i.auth; run = tt }

-- one event
abbrev pub Agrees : List TrustPoint → Token → List Seen → Type 0
Agrees now t r = Inv now t.points (context_of t) r

pub keep : {now : List TrustPoint} (t : Token) {r : List Seen} {a : Option Given} {z : List ℕ} {e : Event} {b : Brought} → InLimits t → Fits t a z e b → Agrees now t r
    → Agrees (held_after now (fact_at a z e)) (after_of t e b) (more now (fact_at a z e) r)
unfolding after_of reset_of choice_taken staged step_passed opened run_closed trial_lost issuer_selected link_taken dv_taken terminal_taken announced unblocked unblocked_by_puk
keep t l is-refused i = quiet i
keep t l is_lost_lem i = lost i
keep t l (is-chosen {c = c} q e) i = taken (context_of t).opened c i
keep t l (is-stepped {c = c} {s = s} q e f) i = stepped (context_of t) c s f (known (context_of t) e i)
keep t l (is-opened {c = c} {s = s} q e f) i = open-now (context_of t) c s f (known (context_of t) e i)
keep t l (is-run-closed {c = c} {s = s} q e) i = closed (context_of t) c (context_of t).opened s (known (context_of t) e i)
keep t l (is-trial-lost {c = c} {s = s} q e) i = closed (context_of t) c (context_of t).opened s (known (context_of t) e i)
keep t l (is-selected q e) i = quiet i
keep t {a = a} l (is-link-taken n q c r k) i = linked-now (context_of t) (brought_in a).name (brought_in a).certificate i n r
keep t {a = a} l (is-dv-taken n q c r k h e) i = deputed-now (context_of t) (brought_in a).name (brought_in a).certificate i n l.points (confirms t l (and_l (has_rights (context_of t).confirmed) (unproven (context_of t).stage) c)) r h e
keep t {a = a} l (is-terminal-taken n q c r h e) i = completed-now (context_of t) (brought_in a).name (brought_in a).certificate i n r h e
keep t l (is-announced q e) i = announced-now (context_of t) _ i
keep t l (is-challenged q e) i = challenged-now (context_of t) (challengeable (context_of t).stage e) (known (context_of t) refl i)
keep t l (is-proven q e) i = proved-now (context_of t) (known (context_of t) (challenged-is (context_of t).stage e) i)
keep t l (is-proof-lost q e) i = disproved-now (context_of t) (known (context_of t) (challenged-is (context_of t).stage e) i)
keep t l (is-chip-key-chosen q e) i = chip-now (context_of t) (choosable (context_of t).stage e) (known (context_of t) refl i)
keep t {z = z} l (is-authenticated q e m) i = authenticated-now (context_of t) z m (known (context_of t) e i)
keep t l (is-chip-lost q e) i = chip-lost-now (context_of t) (known (context_of t) e i)
keep t l (not-passed q e) i = quiet i
keep t l (is_read q) i = quiet i
keep t l (is-changed q) i = quiet i
keep t l (is-unblocked-puk q) i = quiet i
keep t l (is-unblocked q) i = quiet i
keep t l (is-activated q) i = quiet i
keep t l (is-deactivated q) i = quiet i

-- a reset, and the start
pub reset-keeps : {now : List TrustPoint} (t : Token) {r : List Seen} → Agrees now t r → Agrees now (reset_of t) (more now Lost r)
unfolding reset_of
reset-keeps t i = lost i

pub start-agrees : (ps : Points) (d : Day) → Agrees (trust_points ps) (start_of ps d) []
unfolding start_of no_chain
start-agrees ps d = record { points = refl; rights = refl; dv = tt; terminal = refl; key = refl; chal = refl; prov = refl; auth = refl; run = tt }
