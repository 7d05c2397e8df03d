-- What may be relied on of what a command asks: what it brings is within document 01's limits, and kind and ask agree.
-- Assumes nothing.
use Rattle.std.specs.Prelude.{Option, Some, None, Result, Ok, Err, option_map}
use Prim.Native.Nat.{ℕ, ◌≤◌}
use mathlib.Core.Path.{◌≡◌, refl, subst}
use mathlib.Core.Bool.{Bool, true, false, cond, ◌&&◌}
use mathlib.Core.List.{List}
use lib.Dec.{eqb}
use lib.ListN.{length, drop, get_or}
use Rattle.laws.proofs.Bools.{true-false, of-both}
use Rattle.objects.specs.Objects.{part, objects_in, found_in}
use Rattle.objects.specs.Chain.{taken, any}
use Rattle.objects.proofs.Chain.{taken-all, answered-all}
use Rattle.strings.specs.Bytes.{all_of, longest}
use Rattle.names.specs.Names.{is_name, name_of, name_fits}
use Rattle.certificate.specs.Certificate.{certificate_fits}
use Rattle.keys.specs.Keys.{is_key, key_of, key_fits, key_stands}
use Rattle.brought.specs.Brought.{brought_none}
use Rattle.rights.specs.Rights.{is_rights, rights_of, granted, rights_fit}
use Rattle.names.proofs.Kept.{name-good}
use Rattle.keys.proofs.Kept.{key-good, key-there}
use Rattle.rights.proofs.Kept.{rights-good}
use Rattle.strings.specs.declared.Class.TheVariants.{Numeral}
use Rattle.names.specs.declared.Name.{Name}
use Rattle.brought.specs.declared.Brought.{Brought}
use Rattle.rights.specs.declared.Rights.{Rights}
use Rattle.run.specs.Run.{rights_named}
use Rattle.run.specs.declared.Choice.{Choice}
use Rattle.run.specs.declared.Choice.TheVariants.{Mrz, Can, CanFor, Pin, PinFor, Puk}
use Rattle.bodies.specs.Body.{Reading, ta_mechanism, is_signature, signed_of}
use Rattle.bodies.proofs.Good.{ReadGood, signed-good}
use Rattle.command.specs.Shape.{Shape, shape_of}
use Rattle.command.specs.declared.kind.Kind.{Kind}
use Rattle.command.specs.declared.kind.Kind.TheVariants.{ChoosePassword, General as KindGeneral, SelectIssuer, VerifyCertificate, Announce as KindAnnounce, Challenge as KindChallenge, ProveTerminal, ChooseChipKey as KindChip, Read as KindRead, ChangePin as KindPin, Unblock as KindUnblock, Activate as KindActivate, Deactivate as KindDeactivate}
use Rattle.command.proofs.Groups.{GroupIn, ShapeIn, shape-in}
use Rattle.taking.specs.Taking.{reading, lastly, is_all, sized, holds}
use Rattle.fields.specs.Given.{only, selecting, verifying, announcing}
use Rattle.fields.specs.Choice.{pace, chosen, chosen_by, rights_then, password_then, protocol_then, choice_of}
use Rattle.fields.specs.Held.{held_in, general_of}
use Rattle.fields.specs.Issuers.{select_of, verified, verify_of}
use Rattle.fields.specs.Announce.{past_auxiliary, key_then, auxiliary_then, terminal_then, announce_of}
use Rattle.fields.specs.Announce as announce
use Rattle.fields.specs.Chip.{chip, reference_in, chip_of}
use Rattle.fields.specs.Plain.{proof_of, pin_of}
use Rattle.fields.specs.Asked.{data_of, refusing, asking, asked_of, asked_by}
use Rattle.run.specs.declared.Step.TheVariants.{Nonce, Map, Agree, Confirm}
use Rattle.fields.specs.declared.asked.Content.{Content}
use Rattle.fields.specs.declared.asked.Content.TheVariants.{Step, Chip}
use Rattle.fields.specs.declared.asked.Ask.{Ask}
use Rattle.fields.specs.declared.asked.Ask.TheVariants.{Choose, General, Select, Verify, Announce, Challenge, Prove, ChooseChipKey, Read, ChangePin, Unblock, Activate, Deactivate}
use Rattle.fields.specs.declared.asked.Asked.{Asked}
use Rattle.event.specs.declared.Refusal.{Refusal}
use Rattle.fields.specs.declared.given.Given.{Given}

-- a kind, and what a command of that kind may ask
pub data Of : Kind → Ask → Type 0 where
  of-choose : {c : Choice} → Of ChoosePassword (Choose c)
  of-general : {c : Content} → Of KindGeneral (General c)
  of-select : Of SelectIssuer Select
  of-verify : Of VerifyCertificate Verify
  of-announce : Of KindAnnounce Announce
  of-challenge : Of KindChallenge Challenge
  of-prove : Of ProveTerminal Prove
  of-chip-key : Of KindChip ChooseChipKey
  of-read : {n : ℕ} → Of (KindRead n) (Read n)
  of-change-pin : Of KindPin ChangePin
  of-unblock : Of KindUnblock Unblock
  of-activate : Of KindActivate Activate
  of-deactivate : Of KindDeactivate Deactivate

-- the rights that a choice names, if any, have 40 bits
abbrev pub RightsIn : Choice → Type 0
RightsIn c = (r : Rights) → rights_named c ≡ Some r → rights_fit r ≡ true

-- what is brought with each ask is within its limits
abbrev pub Within : Ask → Brought → Type 0
Within (Choose c) b = RightsIn c
Within (General c) b = Unit {0}
Within Select b = name_fits b.name ≡ true
Within Verify b = (certificate_fits b.certificate ≡ true) × (name_fits b.name ≡ true)
Within Announce b = (key_fits b.key ≡ true) × (key_stands b.key ≡ true) × (name_fits b.name ≡ true)
Within Challenge b = Unit {0}
Within Prove b = Unit {0}
Within ChooseChipKey b = Unit {0}
Within (Read n) b = (1 ≤ n) × (n ≤ 21)
Within ChangePin b = Unit {0}
Within Unblock b = Unit {0}
Within Activate b = Unit {0}
Within Deactivate b = Unit {0}

record Agrees (k : Kind) (g : Given) : Type 0 where
  of : Of k g.ask
  limits : Within g.ask g.brought

-- kind and ask agree, and what is brought is within its limits; of data that are not what the kind wants there is nothing to say
abbrev Sound : Kind → Option Given → Type 0
Sound k None = Unit {0}
Sound k (Some g) = Agrees k g

-- with nothing brought
only-sound : (k : Kind) (a : Ask) → Of k a → Within a brought_none → Agrees k (only a)
unfolding only
only-sound k a h w = record { of = h; limits = w }

-- ---- what holds of every answer of a chain

module _ {A : Type 0} (P : Option A → Type 0) (never : P None) where
  reading-all : (s : List ℕ) (k : ℕ → Option A) → ((n : ℕ) → P (k n)) → P (reading None s k)
  unfolding reading
  reading-all s k h = answered-all None P never (objects_in s) k h

  lastly-all : (t : ℕ) (w : Bool) (fits : List ℕ → Bool) (s : List ℕ) (k : List ℕ → Option A) → ((c : List ℕ) → fits c ≡ true → P (k c)) → (n : ℕ) → P (lastly None t w fits s k n)
  unfolding lastly
  lastly-all t w fits s k h =
      taken-all None P never t w fits s (λ c e r n. cond (eqb (length r) 0) (k c) None) (λ a e q n. of-both P (eqb (length (drop e s)) 0) (h (part a e s) q) never)

-- ---- choose password

abbrev Chooses : Option Ask → Type 0
Chooses a = Sound ChoosePassword (option_map only a)

choose-sound : (c : Choice) → RightsIn c → Chooses (Some (Choose c))
choose-sound c h = only-sound ChoosePassword (Choose c) of-choose h

no-rights : (c : Choice) → rights_named c ≡ None → RightsIn c
no-rights c e r f = true-false cc

these-rights : (c : Choice) (r : Rights) → rights_named c ≡ Some r → rights_fit r ≡ true → RightsIn c
these-rights c r e h q f = let i : r ≡ q = cc in subst (λ (x : Rights). rights_fit x ≡ true) i h

chosen-sound : (p : ℕ) → Chooses (chosen p)
chosen-sound p =
    of-both Chooses (eqb p 1) (choose-sound Mrz (no-rights Mrz refl))
    (of-both Chooses (eqb p 2) (choose-sound Can (no-rights Can refl))
    (of-both Chooses (eqb p 3) (choose-sound Pin (no-rights Pin refl)) (of-both Chooses (eqb p 4) (choose-sound Puk (no-rights Puk refl)) tt)))

rights-sound : (p : ℕ) (c : List ℕ) → Chooses (chosen_by p (granted c))
unfolding granted chosen_by
rights-sound p c = go (is_rights c)
  where
    r : Rights
    r = record { 0 = rights_of c }

    go : (b : Bool) → Chooses (chosen_by p (cond b (Some (record { 0 = rights_of c })) None))
    go true =
        of-both Chooses (eqb p 2) (choose-sound (CanFor r) (these-rights (CanFor r) r refl (rights-good c)))
        (of-both Chooses (eqb p 3) (choose-sound (PinFor r) (these-rights (PinFor r) r refl (rights-good c))) tt)
    go false = tt

choice-sound : (s : List ℕ) → Chooses (choice_of s)
unfolding choice_of protocol_then password_then rights_then
choice-sound s =
    reading-all Chooses tt s (protocol_then s)
    (taken-all None Chooses tt 0x80 false (is_all pace) s (λ c e. password_then)
    (λ a e h. taken-all None Chooses tt 0x83 false (sized 1 1) (drop e s) (λ c e. rights_then (get_or c 0 0))
    (λ b f i. tail (get_or (part b f (drop e s)) 0 0) (drop f (drop e s)))))
  where
    tail : (p : ℕ) (r : List ℕ) (n : ℕ) → Chooses (rights_then p r n)
    tail p r n =
        of-both (λ (x : ℕ → Option Ask). Chooses (x n)) (eqb (length r) 0) (chosen-sound p)
        (lastly-all Chooses tt 0x7F4C true any r (λ c. chosen_by p (granted c)) (λ c h. rights-sound p c) n)

-- ---- run step, chip key, choose chip key, prove terminal, change PIN

abbrev Generals : Option Ask → Type 0
Generals a = Sound KindGeneral (option_map only a)

held-sound : (c : List ℕ) → Generals (held_in c)
unfolding held_in
held-sound c =
    of-both Generals (eqb (length c) 0) (is (Step Nonce))
    (of-both Generals (holds 0x81 1 longest c) (is (Step Map))
    (of-both Generals (holds 0x83 1 longest c) (is (Step Agree))
    (of-both Generals (holds 0x85 8 8 c) (is (Step Confirm)) (of-both Generals (holds 0x80 1 longest c) (is Chip) tt))))
  where
    is : (x : Content) → Generals (Some (General x))
    is x = only-sound KindGeneral (General x) of-general tt

general-sound : (s : List ℕ) → Generals (general_of s)
unfolding general_of
general-sound s = reading-all Generals tt s (lastly None 0x7C true any s held_in) (lastly-all Generals tt 0x7C true any s held_in (λ c h. held-sound c))

abbrev ChoosesKey : Option Ask → Type 0
ChoosesKey a = Sound KindChip (option_map only a)

chip-sound : (s : List ℕ) → ChoosesKey (chip_of s)
unfolding chip_of reference_in
chip-sound s =
    reading-all ChoosesKey tt s (taken None 0x80 false (is_all chip) s (λ c e rest n. reference_in rest))
    (taken-all None ChoosesKey tt 0x80 false (is_all chip) s (λ c e rest n. reference_in rest) (λ a e h n. tail (drop e s)))
  where
    is : ChoosesKey (Some ChooseChipKey)
    is = only-sound KindChip ChooseChipKey of-chip-key tt

    tail : (r : List ℕ) → ChoosesKey (reference_in r)
    tail r = of-both ChoosesKey (eqb (length r) 0) is (of-both ChoosesKey (holds 0x84 1 1 r) is tt)

proof-sound : (s : List ℕ) → Sound ProveTerminal (option_map only (proof_of s))
unfolding proof_of
proof-sound s = of-both (λ (a : Option Ask). Sound ProveTerminal (option_map only a)) (is_signature s) (only-sound ProveTerminal Prove of-prove tt) tt

pin-sound : (s : List ℕ) → Sound KindPin (option_map only (pin_of s))
unfolding pin_of
pin-sound s = of-both (λ (a : Option Ask). Sound KindPin (option_map only a)) (eqb (length s) 6 && all_of Numeral s) (only-sound KindPin ChangePin of-change-pin tt) tt

-- ---- select issuer, verify certificate, announce

select-sound : (s : List ℕ) → Sound SelectIssuer (select_of s)
unfolding select_of selecting
select-sound s =
    reading-all (Sound SelectIssuer) tt s (lastly None 0x83 false is_name s (λ c. Some (selecting (name_of c))))
    (lastly-all (Sound SelectIssuer) tt 0x83 false is_name s (λ c. Some (selecting (name_of c))) (λ c h. record { of = of-select; limits = name-good c h }))

verify-sound : (s : List ℕ) → Sound VerifyCertificate (verify_of s)
unfolding verify_of verified verifying
verify-sound s = go (signed_of s) (signed-good s)
  where
    go : (r : Reading) → ReadGood r → Sound VerifyCertificate (verified r)
    go (Ok b) g = record { of = of-verify; limits = (g.certificate, g.issuer) }
    go (Err u) g = tt

key-sound : (name : Name) → name_fits name ≡ true → (s : List ℕ) (n : ℕ) → Sound KindAnnounce (key_then name s n)
unfolding key_then announcing
key-sound name i s =
    lastly-all (Sound KindAnnounce) tt 0x91 false is_key s (λ c. Some (announcing name (key_of c)))
    (λ c h. record { of = of-announce; limits = (key-good c h, key-there c h, i) })

announce-sound : (s : List ℕ) → Sound KindAnnounce (announce_of s)
unfolding announce_of announce.protocol_then terminal_then auxiliary_then
announce-sound s =
    reading-all (Sound KindAnnounce) tt s (announce.protocol_then s)
    (taken-all None (Sound KindAnnounce) tt 0x80 false (is_all ta_mechanism) s (λ c e. terminal_then)
    (λ a e h. taken-all None (Sound KindAnnounce) tt 0x83 false is_name (drop e s) (λ c e. auxiliary_then (name_of c))
    (λ b f i. key-sound (name_of (part b f (drop e s))) (name-good (part b f (drop e s)) i)
    (past_auxiliary (drop f (drop e s)) (found_in 0x67 true (drop f (drop e s)))))))

-- ---- every kind

data-sound : (k : Kind) → GroupIn k → (s : List ℕ) → Sound k (data_of k s)
unfolding data_of
data-sound ChoosePassword h s = choice-sound s
data-sound KindGeneral h s = general-sound s
data-sound SelectIssuer h s = select-sound s
data-sound VerifyCertificate h s = verify-sound s
data-sound KindAnnounce h s = announce-sound s
data-sound KindChallenge h s = only-sound KindChallenge Challenge of-challenge tt
data-sound ProveTerminal h s = proof-sound s
data-sound KindChip h s = chip-sound s
data-sound (KindRead n) h s = only-sound (KindRead n) (Read n) of-read h
data-sound KindPin h s = pin-sound s
data-sound KindUnblock h s = only-sound KindUnblock Unblock of-unblock tt
data-sound KindActivate h s = only-sound KindActivate Activate of-activate tt
data-sound KindDeactivate h s = only-sound KindDeactivate Deactivate of-deactivate tt

abbrev AskedIn : Result Asked Refusal → Type 0
AskedIn (Err w) = Unit {0}
AskedIn (Ok a) = Sound a.kind a.given

asked-sound : (s : List ℕ) → AskedIn (asked_of s)
unfolding asked_of refusing asking
asked-sound s = go (shape_of s) (shape-in s)
  where
    go : (h : Shape) → ShapeIn h → AskedIn (asked_by s h)
    go (Err f) i = tt
    go (Ok c) i = data-sound c.kind i (part c.start c.end s)

-- ---- as it is relied on

-- what is asked, if the data are what the kind wants, and what is brought
abbrev pub ask_in : Option Given → Option Ask
ask_in None = None
ask_in (Some g) = Some g.ask

abbrev pub brought_in : Option Given → Brought
brought_in None = brought_none
brought_in (Some g) = g.brought

module _ (s : List ℕ) (a : Asked) (e : asked_of s ≡ Ok a) (x : Ask) where
  both : ask_in a.given ≡ Some x → Of a.kind x × Within x (brought_in a.given)
  both = go a.given (subst AskedIn e (asked-sound s))
    where
      go : (g : Option Given) → Sound a.kind g → ask_in g ≡ Some x → Of a.kind x × Within x (brought_in g)
      go None h q = true-false cc
      go (Some g) h q = let u : g.ask ≡ x = cc in (subst (Of a.kind) u h.of, subst (λ (y : Ask). Within y g.brought) u h.limits)

  -- kind and ask agree
  pub kind-in : ask_in a.given ≡ Some x → Of a.kind x
  kind-in q = (both q).0

  -- what is brought is within its limits
  pub brought-in : ask_in a.given ≡ Some x → Within x (brought_in a.given)
  brought-in q = (both q).1
