-- A body that was read is within document 01's limits. Assumes nothing.
use Rattle.std.specs.Prelude.{Ok, Err, Option, Some}
use Prim.Native.Nat.{ℕ}
use mathlib.Core.Path.{◌≡◌}
use mathlib.Core.Bool.{true, false, not}
use mathlib.Core.List.{List, [], ◌∷◌}
use lib.Dec.{eqb}
use lib.ListN.{length, drop}
use Rattle.laws.proofs.Bools.{of-both, and_l, and_r}
use Rattle.objects.specs.Objects.{part, objects_in}
use Rattle.objects.specs.Chain.{answered, any}
use Rattle.objects.proofs.Chain.{taken-all, answered-all}
use Rattle.strings.specs.Bytes.{eqbs}
use Rattle.names.specs.Names.{is_name, name_of, name_fits}
use Rattle.days.specs.Days.{is_date, day_of, day_fits, before}
use Rattle.rights.specs.Rights.{is_rights, rights_of, rights_fit}
use Rattle.certificate.specs.Certificate.{certificate_fits}
use Rattle.names.specs.declared.Name.{Name}
use Rattle.days.specs.declared.Day.{Day}
use Rattle.rights.specs.declared.Rights.{Rights}
use Rattle.names.proofs.Kept.{name-good}
use Rattle.days.proofs.Kept.{day-good}
use Rattle.rights.proofs.Kept.{rights-good}
use Rattle.bodies.specs.Body.{Reading, unread, read, ended, place_of, is_last_day, is_public_key, is_signature, Pending, body_then, signature, body_of, signed_of, version_then, issuer_then, key_then, own_then, rights_then, first_then, last_then, ext_then}
use Rattle.bodies.specs.declared.Place.{Place}
use Rattle.bodies.specs.declared.Body.{Body}

pub record Good (b : Body) : Type 0 where
  pub issuer : name_fits b.issuer ≡ true
  pub certificate : certificate_fits b.certificate ≡ true

abbrev pub ReadGood : Reading → Type 0
ReadGood (Err u) = Unit {0}
ReadGood (Ok b) = Good b

never : ReadGood unread
unfolding unread
never = tt

module _ (stop : ℕ) where
  module _ (issuer : Name) (key : Place) (own : Name) (rights : Rights) (i : name_fits issuer ≡ true) (o : name_fits own ≡ true) (r : rights_fit rights ≡ true) where
    ext-good : (first last : Day) → day_fits first ≡ true → day_fits last ≡ true → not (before last first) ≡ true → (s : List ℕ) (n : ℕ)
        → ReadGood (ext_then stop issuer key own rights first last s n)
    unfolding ext_then certificate_fits
    ext-good first last f l q s n =
        of-both (λ (p : Pending). ReadGood (p n)) (eqb (length s) 0) good
        (taken-all unread ReadGood never 0x65 true any s (λ c e r. ended r (read issuer key own rights first last (Some (place_of stop s e))))
        (λ a e h m. of-both (λ (p : Pending). ReadGood (p m)) (eqb (length (drop e s)) 0) good never) n)
      where
        good : {x : Option Place} {m : ℕ} → ReadGood (read issuer key own rights first last x m)
        good = record { issuer = i; certificate = rw (o, r, f, l, q) }

    last-good : (first : Day) → day_fits first ≡ true → (s : List ℕ) (n : ℕ) → ReadGood (last_then stop issuer key own rights first s n)
    unfolding last_then
    last-good first f s n =
        taken-all unread ReadGood never 0x5F24 false (is_last_day first) s (λ c e. ext_then stop issuer key own rights first (record { 0 = day_of c }))
        (λ a e h. ext-good first (record { 0 = day_of (part a e s) }) f (day-good (part a e s) (and_l (is_date (part a e s)) _ h)) (and_r (is_date (part a e s)) _ h) (drop e s)) n

    first_good : (s : List ℕ) (n : ℕ) → ReadGood (first_then stop issuer key own rights s n)
    unfolding first_then
    first_good s n =
        taken-all unread ReadGood never 0x5F25 false is_date s (λ c e. last_then stop issuer key own rights (record { 0 = day_of c }))
        (λ a e h. last-good (record { 0 = day_of (part a e s) }) (day-good (part a e s) h) (drop e s)) n

  rights-then-good : (issuer : Name) (key : Place) (own : Name) → name_fits issuer ≡ true → name_fits own ≡ true → (s : List ℕ) (n : ℕ) → ReadGood (rights_then stop issuer key own s n)
  unfolding rights_then
  rights-then-good issuer key own i o s n =
      taken-all unread ReadGood never 0x7F4C true is_rights s (λ c e. first_then stop issuer key own (record { 0 = rights_of c }))
      (λ a e h. first_good issuer key own (record { 0 = rights_of (part a e s) }) i o (rights-good (part a e s)) (drop e s)) n

  own-good : (issuer : Name) (key : Place) → name_fits issuer ≡ true → (s : List ℕ) (n : ℕ) → ReadGood (own_then stop issuer key s n)
  unfolding own_then
  own-good issuer key i s n =
      taken-all unread ReadGood never 0x5F20 false is_name s (λ c e. rights_then stop issuer key (name_of c))
      (λ a e h. rights-then-good issuer key (name_of (part a e s)) i (name-good (part a e s) h) (drop e s)) n

  key-good : (issuer : Name) → name_fits issuer ≡ true → (s : List ℕ) (n : ℕ) → ReadGood (key_then stop issuer s n)
  unfolding key_then
  key-good issuer i s n =
      taken-all unread ReadGood never 0x7F49 true is_public_key s (λ c e. own_then stop issuer (place_of stop s e)) (λ a e h. own-good issuer (place_of stop s e) i (drop e s)) n

  issuer-good : (s : List ℕ) (n : ℕ) → ReadGood (issuer_then stop s n)
  unfolding issuer_then
  issuer-good s n =
      taken-all unread ReadGood never 0x42 false is_name s (λ c e. key_then stop (name_of c)) (λ a e h. key-good (name_of (part a e s)) (name-good (part a e s) h) (drop e s)) n

  version-good : (s : List ℕ) (n : ℕ) → ReadGood (version_then stop s n)
  unfolding version_then
  version-good s n = taken-all unread ReadGood never 0x5F29 false (λ c. eqbs c (0 ∷ [])) s (λ c e. issuer_then stop) (λ a e h. issuer-good (drop e s)) n

-- what may follow a body keeps it good
abbrev Keeps : (List ℕ → Pending → Pending) → Type 0
Keeps after = (s : List ℕ) (k : Pending) → ((n : ℕ) → ReadGood (k n)) → (n : ℕ) → ReadGood (after s k n)

ended-good : Keeps ended
ended-good s k h n = of-both (λ (p : Pending). ReadGood (p n)) (eqb (length s) 0) (h n) never

signature-good : Keeps signature
signature-good s k h = taken-all unread ReadGood never 0x5F37 false is_signature s (λ g f rest. ended rest k) (λ a e i. ended-good (drop e s) k h)

whole-good : (after : List ℕ → Pending → Pending) → Keeps after → (s : List ℕ) → ReadGood (answered unread (objects_in s) (body_then after s))
unfolding body_then
whole-good after keeps s =
    answered-all unread ReadGood never (objects_in s) (body_then after s)
    (taken-all unread ReadGood never 0x7F4E true any s (λ c e rest. after rest (version_then e c)) (λ a e h. keeps (drop e s) (version_then e (part a e s)) (version-good e (part a e s))))

-- what was read is good, alone and with its signature
pub body-good : (s : List ℕ) → ReadGood (body_of s)
unfolding body_of
body-good = whole-good ended ended-good

pub signed-good : (s : List ℕ) → ReadGood (signed_of s)
unfolding signed_of
signed-good = whole-good signature signature-good
