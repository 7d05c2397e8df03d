-- Every state that is reached from within the limits is within the limits. Assumes nothing.
use Rattle.std.specs.Prelude.{Option, Some, None, Result, Ok, Err, is_ok}
use Prim.Native.Nat.{ℕ, ◌-◌}
use mathlib.Core.Bool.{Bool, true, false, cond, not, ◌&&◌, ◌||◌}
use mathlib.Core.Path.{◌≡◌, refl, sym, ap, subst}
use mathlib.Core.List.{List}
use native.Mathlib.Omega.{arith}
use borrow.Author.Tests.{leb-true, le-leb}
use lib.Dec.{eqb, leb, ltb}
use Rattle.laws.proofs.Bools.{true-false, and_l, and_r, and-5, or-then, both, of-both}
use Rattle.names.specs.Names.{name_fits}
use Rattle.days.specs.Days.{day_fits, before, later}
use Rattle.rights.specs.Rights.{rights_fit, role_of}
use Rattle.roles.specs.Roles.{is_cvca, is_dv, is_official}
use Rattle.certificate.specs.Certificate.{no_certificate, certificate_fits, with_key}
use Rattle.keys.specs.Keys.{no_key, key_fits, key_stands}
use Rattle.days.specs.declared.Day.{Day}
use Rattle.keys.specs.declared.Key.{Key}
use Rattle.certificate.specs.declared.Certificate.{Certificate}
use Rattle.brought.specs.declared.Brought.{Brought}
use Rattle.rights.specs.declared.Rights.{Rights}
use Rattle.roles.specs.declared.Role.TheVariants.{Cvca, Terminal}
use Rattle.run.specs.declared.Choice.{Choice}
use Rattle.run.specs.declared.Choice.TheVariants.{Mrz, Can, CanFor, Pin, PinFor, Puk}
use Rattle.run.specs.declared.Step.{Step}
use Rattle.run.specs.declared.Step.TheVariants.{Nonce}
use Rattle.run.specs.Run.{password_of, rights_named, is_pin, is_can, next_step, tries}
use Rattle.event.specs.declared.Issuer.{Issuer}
use Rattle.event.specs.declared.Event.{Event}
use Rattle.trust.specs.Trust.{trust_point_fits, points_fit, knows, holds}
use Rattle.trust.specs.declared.Points.{Points}
use Rattle.trust.proofs.Laws.{Holds, held_fits, linked-fits}
use Rattle.fields.specs.declared.asked.Ask.{Ask}
use Rattle.event.specs.declared.Refusal.{Refusal}
use Rattle.fields.specs.declared.given.Given.{Given}
use Rattle.fields.specs.declared.asked.Asked.{Asked}
use Rattle.fields.specs.Asked.{asked_of}
use Rattle.fields.proofs.Facts.{Within as Named, ask_in, brought_in, brought-in}
use Rattle.standing.specs.declared.Reach.{Reach}
use Rattle.standing.specs.declared.Reach.TheVariants.{Empty, ToDv, ToTerminal}
use Rattle.standing.specs.declared.Chain.{Chain}
use Rattle.standing.specs.declared.Stage.{Stage}
use Rattle.standing.specs.declared.Stage.TheVariants.{Idle, Run, Announced, Challenged, Proven, ChipKeyChosen, Authenticated}
use Rattle.session.specs.declared.Context.{Context}
use Rattle.session.specs.declared.Session.{Session}
use Rattle.standing.proofs.Stages.{challenged-is, Challengeable, when-announced, when-challenged, challengeable, Choosable, when-proven, when-chosen, choosable}
use Rattle.standing.specs.Standing.{opened_by_pin, opened_by_can, has_rights, reaches_dv, reaches_terminal, has_dv, has_terminal, no_chain, from_announced, unproven}
use Rattle.session.specs.Session.{bare_session, at_stage, announced_with, chained_to}
use Rattle.session_limits.specs.SessionLimits.{granted_fits, trusted_fits, dv_fits, terminal_fits, reach_fits, chain_fits, run_fits, stage_fits, ground_fits, context_fits}
use Rattle.token.specs.declared.state.Token.{Token}
use Rattle.status.specs.declared.Unfit.{Unfit}
use Rattle.token.specs.State.{uses, with_session, with_pin, with_active, reset_of, start_of, made_of, made_token, context_of, chain_of}
use Rattle.token.specs.After.{choice_taken, staged, step_passed, tries_after, opened, run_closed, trial_lost, issuer_selected, link_taken, dv_taken, extended, terminal_taken, announced, unblocked, unblocked_by_puk, after_of}
use Rattle.token.specs.Step.{Exchange, Stepped, happened_of, next_of, step_of}
use Rattle.reply.specs.Reply.{room}
use Rattle.reached.proofs.Fits.{InLimits, certifying, Fits, is-refused, is_lost_lem, is-chosen, is-stepped, is-opened, is-run-closed, is-trial-lost, is-selected, is-link-taken, is-dv-taken, is-terminal-taken, is-announced, is-challenged, is-proven, is-proof-lost, is-chip-key-chosen, is-authenticated, is-chip-lost, not-passed, is_read, is-changed, is-unblocked-puk, is-unblocked, is-activated, is-deactivated, given_in, fits}
use Rattle.run.specs.declared.Password.{Password}

-- ---- the rungs of a session

pub record InContext (c : Context) (pin : ℕ) : Type 0 where
  pub rights : granted_fits c.confirmed ≡ true
  pub chain : chain_fits c.chain ≡ true
  pub stage : stage_fits c.stage pin ≡ true
  pub key : key_fits c.key ≡ true
  pub opener : not (has_rights c.confirmed) || (opened_by_pin c.opened || opened_by_can c.opened) ≡ true
  pub chain-confirmed : not (has_dv c.chain) || has_rights c.confirmed ≡ true
  pub grounds : not (from_announced c.stage) || (has_rights c.confirmed && has_terminal c.chain && key_stands c.key) ≡ true

pub context-of : (c : Context) (pin : ℕ) → context_fits c pin ≡ true → InContext c pin
unfolding context_fits ground_fits
context-of c pin h =
    let o : Bool = not (has_rights c.confirmed) || (opened_by_pin c.opened || opened_by_can c.opened) in
    let d : Bool = not (has_dv c.chain) || has_rights c.confirmed in
    let u : Bool = not (from_announced c.stage) || (has_rights c.confirmed && has_terminal c.chain && key_stands c.key) in
    let k = and-5 (granted_fits c.confirmed) (chain_fits c.chain) (stage_fits c.stage pin) (key_fits c.key) (o && d && u) h in
    let g = and_l (o && d) u k.4 in
    record { rights = k.0; chain = k.1; stage = k.2; key = k.3; opener = and_l o d g; chain-confirmed = and_r o d g; grounds = and_r (o && d) u k.4 }

pub in-context : {c : Context} {pin : ℕ} → InContext c pin → context_fits c pin ≡ true
unfolding context_fits ground_fits
in-context x = cc

-- ---- small facts

or_yes : (a b : Bool) → b ≡ true → a || b ≡ true
or_yes true b e = refl
or_yes false b e = e

-- nothing but an opener, rights and a stage before announced
bare-in : (o : Option Password) (g : Option Rights) (s : Stage) (pin : ℕ) → granted_fits g ≡ true → stage_fits s pin ≡ true → not (has_rights g) || (opened_by_pin o || opened_by_can o) ≡ true
    → from_announced s ≡ false → InContext (bare_session o g s).context pin
unfolding no_chain no_key chain_fits key_fits
bare-in o g s pin a b c d = record { rights = a; chain = refl; stage = b; key = refl; opener = c; chain-confirmed = refl; grounds = rw d }

still : (p q r : Bool) → not p || q ≡ true → not q || r ≡ true → not p || r ≡ true
still false q r e f = refl
still true true r e f = f
still true false r e f = true-false (sym e)

-- the same session at another stage
moved : (c : Session) (pin : ℕ) (s : Stage) → stage_fits s pin ≡ true → not (from_announced s) || from_announced c.context.stage ≡ true → InContext c.context pin → InContext (at_stage c s).context pin
moved c pin s a b x =
    record {
      rights = x.rights;
      chain = x.chain;
      stage = a;
      key = x.key;
      opener = x.opener;
      chain-confirmed = x.chain-confirmed;
      grounds = still (from_announced s) (from_announced c.context.stage) (has_rights c.context.confirmed && has_terminal c.context.chain && key_stands c.context.key) b x.grounds;
    }

-- a chain, where rights are confirmed
chained-in : (z : Session) (pin : ℕ) (c : Chain) → chain_fits c ≡ true → not (has_dv c) || has_rights z.context.confirmed ≡ true → InContext z.context pin → InContext (chained_to z c).context pin
unfolding no_key key_fits
chained-in z pin c a b x = record { rights = x.rights; chain = a; stage = refl; key = refl; opener = x.opener; chain-confirmed = b; grounds = refl }

-- a stage within its limits at some counter is so at 3
stage-three : (s : Stage) (pin : ℕ) → stage_fits s pin ≡ true → stage_fits s tries ≡ true
stage-three Idle pin e = refl
stage-three (Run c p) pin e = three (is_pin (password_of c)) (eqb pin 0) (granted_fits (rights_named c)) e
  where
    three : (a b c : Bool) → not (a && b) && c ≡ true → not (a && false) && c ≡ true
    three true true c e = true-false (sym e)
    three true false c e = e
    three false b c e = e
stage-three Announced pin e = refl
stage-three Challenged pin e = refl
stage-three Proven pin e = refl
stage-three ChipKeyChosen pin e = refl
stage-three Authenticated pin e = refl

with-three : (c : Context) (pin : ℕ) → InContext c pin → InContext c tries
with-three c pin x = record { rights = x.rights; chain = x.chain; stage = stage-three c.stage pin x.stage; key = x.key; opener = x.opener; chain-confirmed = x.chain-confirmed; grounds = x.grounds }

later-in : (a b : Day) → day_fits a ≡ true → day_fits b ≡ true → day_fits (later a b) ≡ true
unfolding later
later-in a b e f = of-both (λ (d : Day). day_fits d ≡ true) (ltb a.0 b.0) f e

record InCertificate (p : Certificate) : Type 0 where
  pub rights : rights_fit p.rights ≡ true
  pub first : day_fits p.first ≡ true

certificate-of : (p : Certificate) → certificate_fits p ≡ true → InCertificate p
unfolding certificate_fits
certificate-of p h = let k = and-5 (name_fits p.name) (rights_fit p.rights) (day_fits p.first) (day_fits p.last) (not (before p.last p.first)) h in record { rights = k.1; first = k.2 }

-- a trust point that is held
held-trusted : (p : Certificate) → trust_point_fits p ≡ true → trusted_fits p.rights ≡ true
unfolding trust_point_fits trusted_fits
held-trusted p h =
    both (rights_fit p.rights) (is_cvca (role_of p.rights)) (certificate-of p (and_l (certificate_fits p) (is_cvca (role_of p.rights)) h)).rights (and_r (certificate_fits p) (is_cvca (role_of p.rights)) h)

-- ---- a chain

chain-dv : (trusted : Rights) (p n : Certificate) → trusted_fits trusted ≡ true → dv_fits p ≡ true → chain_fits (record { reach = ToDv trusted; dv = p; terminal = n }) ≡ true
unfolding chain_fits
chain-dv trusted p n e f = rw (e, f)

chain-terminal : (c : Chain) (p : Certificate) → chain_fits c ≡ true → has_dv c ≡ true → terminal_fits p ≡ true → chain_fits (record { reach = extended c.reach; dv = c.dv; terminal = p }) ≡ true
unfolding chain_fits
chain-terminal c p e h f = go c.reach e h
  where
    go : (r : Reach) → reach_fits r c.dv c.terminal ≡ true → reaches_dv r ≡ true → reach_fits (extended r) c.dv p ≡ true
    go Empty e h = true-false (sym h)
    go (ToDv trusted) e h = rw (f) (both _ _ e refl)
    go (ToTerminal trusted) e h = rw (f) (both _ _ (and_l (trusted_fits trusted && dv_fits c.dv) (terminal_fits c.terminal) e) refl)

terminal-dv : (c : Chain) → has_terminal c ≡ true → has_dv c ≡ true
terminal-dv c h = go c.reach h
  where
    go : (r : Reach) → reaches_terminal r ≡ true → reaches_dv r ≡ true
    go Empty h = h
    go (ToDv trusted) h = refl
    go (ToTerminal trusted) h = refl

extended-dv : (r : Reach) → reaches_dv (extended r) ≡ reaches_dv r
extended-dv Empty = refl
extended-dv (ToDv trusted) = refl
extended-dv (ToTerminal trusted) = refl

-- the opener of a session that names rights
names-opener : (c : Choice) → not (has_rights (rights_named c)) || (is_pin (password_of c) || is_can (password_of c)) ≡ true
names-opener Mrz = refl
names-opener Can = refl
names-opener (CanFor r) = refl
names-opener Pin = refl
names-opener (PinFor r) = refl
names-opener Puk = refl

named_in : (c : Choice) → ((r : Rights) → rights_named c ≡ Some r → rights_fit r ≡ true) → granted_fits (rights_named c) ≡ true
named_in Mrz f = refl
named_in Can f = refl
named_in (CanFor r) f = f r refl
named_in Pin f = refl
named_in (PinFor r) f = f r refl
named_in Puk f = refl

-- what a command brings is within its limits
abbrev pub Sound : Option Given → Type 0
Sound a = (x : Ask) → ask_in a ≡ Some x → Named x (brought_in a)

-- ---- every event keeps the limits

module _ (t : Token) (l : InLimits t) where
  context-in : InContext (context_of t) t.pin
  context-in = context-of (context_of t) t.pin l.context

  -- another session with an empty chain, and perhaps another counter
  bare : (o : Option Password) (g : Option Rights) (s : Stage) (pin : ℕ) → leb pin tries ≡ true → InContext (bare_session o g s).context pin → InLimits (with_pin (with_session t (bare_session o g s)) pin)
  unfolding no_chain
  bare o g s pin e c = record { pin = e; puk = l.puk; today = l.today; points = l.points; context = in-context c; dv = refl; chosen = refl }

  lost : InLimits (reset_of t)
  unfolding reset_of
  lost = bare None None Idle t.pin l.pin (bare-in None None Idle t.pin refl refl refl refl)

  closed : (pin : ℕ) → leb pin tries ≡ true → InLimits (with_pin (run_closed t) pin)
  unfolding run_closed
  closed pin e = bare (context_of t).opened None Idle pin e (bare-in (context_of t).opened None Idle pin refl refl refl refl)

  at : (s : Stage) → stage_fits s t.pin ≡ true → not (from_announced s) || from_announced (context_of t).stage ≡ true → InLimits (staged t s)
  unfolding staged
  at s e f = record { pin = l.pin; puk = l.puk; today = l.today; points = l.points; context = in-context (moved t.session t.pin s e f context-in); dv = l.dv; chosen = l.chosen }

  at-later : (s : Stage) → stage_fits s t.pin ≡ true → from_announced (context_of t).stage ≡ true → InLimits (staged t s)
  at-later s e f = at s e (or_yes (not (from_announced s)) (from_announced (context_of t).stage) f)

  -- a counter of 3
  three : InLimits (unblocked t)
  unfolding unblocked
  three = record { pin = refl; puk = l.puk; today = l.today; points = l.points; context = in-context (with-three (context_of t) t.pin context-in); dv = l.dv; chosen = l.chosen }

  fewer : (n k : ℕ) → leb n k ≡ true → leb (n - 1) k ≡ true
  fewer n k e = le-leb (n - 1) k (let g = leb-true n k e in omega arith)

  fell : InLimits (trial_lost t (t.pin - 1))
  unfolding trial_lost
  fell = closed (t.pin - 1) (fewer t.pin tries l.pin)

  by-puk : InLimits (unblocked_by_puk t)
  unfolding unblocked_by_puk
  by-puk = record { pin = refl; puk = fewer t.puk uses l.puk; today = l.today; points = l.points; context = in-context (with-three (context_of t) t.pin context-in); dv = l.dv; chosen = l.chosen }

  active : (b : Bool) → InLimits (with_active t b)
  active b = record { pin = l.pin; puk = l.puk; today = l.today; points = l.points; context = l.context; dv = l.dv; chosen = l.chosen }

  selected-in : (i : Issuer) → holds t.points i (has_dv (chain_of t)) ≡ true → InLimits (issuer_selected t i)
  unfolding issuer_selected
  selected-in i e = record { pin = l.pin; puk = l.puk; today = l.today; points = l.points; context = l.context; dv = l.dv; chosen = e }

  chosen-in : (c : Choice) → is_pin (password_of c) && eqb t.pin 0 ≡ false → ((r : Rights) → rights_named c ≡ Some r → rights_fit r ≡ true) → InLimits (choice_taken t c)
  unfolding choice_taken
  chosen-in c e f =
      bare (context_of t).opened None (Run c Nonce) t.pin l.pin
      (bare-in (context_of t).opened None (Run c Nonce) t.pin refl (rw e (named_in c f)) refl refl)

  stepped-in : (c : Choice) (s : Step) → (context_of t).stage ≡ Run c s → InLimits (step_passed t c s)
  unfolding step_passed
  stepped-in c s e = at (Run c (next_step s)) (subst (λ (z : Stage). stage_fits z t.pin ≡ true) e context-in.stage) refl

  opened_in : (c : Choice) (s : Step) → (context_of t).stage ≡ Run c s → InLimits (opened t c)
  unfolding opened
  opened_in c s e =
      let r : run_fits c s t.pin ≡ true = subst (λ (z : Stage). stage_fits z t.pin ≡ true) e context-in.stage in
      let g : granted_fits (rights_named c) ≡ true = and_r (not (is_pin (password_of c) && eqb t.pin 0)) (granted_fits (rights_named c)) r in
      bare (Some (password_of c)) (rights_named c) Idle (tries_after c t.pin) (of-both (λ (k : ℕ). leb k tries ≡ true) (is_pin (password_of c)) refl l.pin)
      (bare-in (Some (password_of c)) (rights_named c) Idle (tries_after c t.pin) g refl (names-opener c) refl)

  module _ (p : Certificate) (n : ℕ) (f : certificate_fits p ≡ true) (c : certifying t ≡ true) where
    confirmed : has_rights (context_of t).confirmed ≡ true
    confirmed = and_l (has_rights (context_of t).confirmed) (unproven (context_of t).stage) c

    link-in : role_of p.rights ≡ Cvca → knows t.points p.name ≡ false → InLimits (link_taken t (with_key p n))
    unfolding link_taken no_chain chain_fits with_key
    link-in r k =
        record {
          pin = l.pin;
          puk = l.puk;
          today = later-in t.today p.first l.today (certificate-of p f).first;
          points = linked-fits t.points l.points p n f r k;
          context = in-context (chained-in t.session t.pin no_chain refl refl context-in);
          dv = refl;
          chosen = refl;
        }

    dv-in : {h : Certificate} → is_dv (role_of p.rights) ≡ true → knows t.points p.name ≡ false → Holds t.points h → InLimits (dv_taken t (with_key p n) h.rights)
    unfolding dv_taken dv_fits with_key certificate_fits
    dv-in {h} r k q =
        record {
          pin = l.pin;
          puk = l.puk;
          today = later-in t.today p.first l.today (certificate-of p f).first;
          points = l.points;
          context =
              in-context
              (chained-in t.session t.pin (record { reach = ToDv h.rights; dv = with_key p n; terminal = no_certificate })
              (chain-dv h.rights (with_key p n) no_certificate (held-trusted h (held_fits t.points l.points q)) (rw (f, r))) confirmed context-in);
          dv = rw k;
          chosen = refl;
        }

    terminal-in : role_of p.rights ≡ Terminal → has_dv (chain_of t) ≡ true → InLimits (terminal_taken t (with_key p n))
    unfolding terminal_taken terminal_fits with_key certificate_fits
    terminal-in r h =
        record {
          pin = l.pin;
          puk = l.puk;
          today = of-both (λ (d : Day). day_fits d ≡ true) (is_official (role_of (chain_of t).dv.rights)) (later-in t.today p.first l.today (certificate-of p f).first) l.today;
          points = l.points;
          context =
              in-context
              (chained-in t.session t.pin (record { reach = extended (chain_of t).reach; dv = (chain_of t).dv; terminal = with_key p n })
              (chain-terminal (chain_of t) (with_key p n) context-in.chain h (rw (f, r))) (rw (extended-dv (chain_of t).reach, h) confirmed) context-in);
          dv = rw (extended-dv (chain_of t).reach) l.dv;
          chosen = refl;
        }

  announced-in : (k : Key) → key_fits k ≡ true → key_stands k ≡ true → has_terminal (chain_of t) ≡ true → InLimits (announced t k)
  unfolding announced
  announced-in k e f h =
      let r = or-then (has_dv (chain_of t)) (has_rights (context_of t).confirmed) context-in.chain-confirmed (terminal-dv (chain_of t) h) in
      record {
        pin = l.pin;
        puk = l.puk;
        today = l.today;
        points = l.points;
        context = in-context {c = (announced_with t.session k).context} (record { rights = context-in.rights; chain = context-in.chain; stage = refl; key = e; opener = context-in.opener; chain-confirmed = context-in.chain-confirmed; grounds = rw (r, h, f) });
        dv = l.dv;
        chosen = l.chosen;
      }

  from-challenge : {s : Stage} → Challengeable s → from_announced s ≡ true
  from-challenge when-announced = refl
  from-challenge when-challenged = refl

  from-proof : {s : Stage} → Choosable s → from_announced s ≡ true
  from-proof when-proven = refl
  from-proof when-chosen = refl

  pub keep-in : {a : Option Given} {z : List ℕ} {e : Event} {b : Brought} → Sound a → Fits t a z e b → InLimits (after_of t e b)
  unfolding after_of run_closed
  keep-in s is-refused = l
  keep-in s is_lost_lem = lost
  keep-in s (is-chosen {c = c} q e) = chosen-in c e (s _ q)
  keep-in s (is-stepped {c = c} {s = p} q e f) = stepped-in c p e
  keep-in s (is-opened {c = c} {s = p} q e f) = opened_in c p e
  keep-in s (is-run-closed q e) = closed t.pin l.pin
  keep-in s (is-trial-lost q e) = fell
  keep-in s (is-selected {i = i} q e) = selected-in i e
  keep-in s (is-link-taken n q c r k) = link-in _ n (s _ q).0 c r k
  keep-in s (is-dv-taken n q c r k h e) = dv-in _ n (s _ q).0 c r k h
  keep-in s (is-terminal-taken n q c r h e) = terminal-in _ n (s _ q).0 c r h
  keep-in s (is-announced q e) = let w = s _ q in announced-in _ w.0 w.1 (and_l (has_terminal (chain_of t)) (unproven (context_of t).stage) e)
  keep-in s (is-challenged q e) = at-later Challenged refl (from-challenge (challengeable (context_of t).stage e))
  keep-in s (is-proven q e) = at-later Proven refl (ap from_announced (challenged-is (context_of t).stage e))
  keep-in s (is-proof-lost q e) = at-later Announced refl (ap from_announced (challenged-is (context_of t).stage e))
  keep-in s (is-chip-key-chosen q e) = at-later ChipKeyChosen refl (from-proof (choosable (context_of t).stage e))
  keep-in s (is-authenticated q e f) = at-later Authenticated refl (ap from_announced e)
  keep-in s (is-chip-lost q e) = at-later Proven refl (ap from_announced e)
  keep-in s (not-passed q e) = l
  keep-in s (is_read q) = l
  keep-in s (is-changed q) = l
  keep-in s (is-unblocked-puk q) = by-puk
  keep-in s (is-unblocked q) = three
  keep-in s (is-activated q) = active true
  keep-in s (is-deactivated q) = active false

-- ---- a step, a reset, a personalisation

asked-sound : (s : List ℕ) → Sound (given_in (asked_of s))
asked-sound s = go (asked_of s) refl
  where
    go : (r : Result Asked Refusal) → asked_of s ≡ r → Sound (given_in r)
    go (Err w) e x q = true-false (cc)
    go (Ok a) e x q = brought-in s a e x q

pub reset-in : (t : Token) → InLimits t → InLimits (reset_of t)
reset-in t l = lost t l

pub happened-in : (t : Token) (x : Exchange) → InLimits t → InLimits (next_of t (happened_of t x))
happened-in t x l = keep-in t l (asked-sound x.command) (fits t x)

pub step_in_lem : (t : Token) (x : Exchange) → InLimits t → InLimits (step_of t x).token
unfolding step_of
step_in_lem t x l = of-both (λ (z : Stepped). InLimits z.token) (ltb x.size room) l (happened-in t x l)

pub start-in : (h : Points) (d : Day) → points_fit h && day_fits d ≡ true → InLimits (start_of h d)
unfolding start_of no_chain no_key
start-in h d e =
    record {
      pin = refl;
      puk = refl;
      today = and_r (points_fit h) (day_fits d) e;
      points = and_l (points_fit h) (day_fits d) e;
      context = in-context (bare-in None None Idle tries refl refl refl refl);
      dv = refl;
      chosen = refl;
    }

-- an accepted personalisation makes the start values, within the limits
pub made_in : (h : Points) (d : Day) → is_ok (made_of h d) ≡ true → (made_token (made_of h d) ≡ start_of h d) × InLimits (start_of h d)
unfolding made_of
made_in h d = go (points_fit h && day_fits d) refl
  where
    go : (b : Bool) → points_fit h && day_fits d ≡ b
        → is_ok (cond {A = Result Token Unfit} b (Ok (start_of h d)) (Err (record {}))) ≡ true
        → (made_token (cond b (Ok (start_of h d)) (Err (record {}))) ≡ start_of h d) × InLimits (start_of h d)
    go true e q = (refl, start-in h d e)
    go false e q = true-false (cc)
