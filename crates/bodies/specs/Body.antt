-- The body of a certificate, as document 01 has it ("Data objects"). Assumes nothing: these are definitions.
-- Each `..Then` takes one object and hands the rest to the one that stands above it: read from `body_of` upwards.
use Rattle.std.specs.Prelude.{ℕ, ◌+◌, ◌-◌, List, [], ◌∷◌, Bool, true, false, cond, not, ◌&&◌, length, take, eqb, drop, ◌≡◌, ◌≤◌, Option, Some, None, Result, Ok, Err}
use Rattle.objects.specs.Objects.{objects_at, objects_in, within, found_in, part}
use Rattle.objects.specs.Chain.{answered, counted, any, taken}
use Rattle.objects.specs.declared.Content.{Content}
use Rattle.strings.specs.Bytes.{eqbs, among}
use Rattle.names.specs.Names.{is_name, name_of}
use Rattle.days.specs.Days.{is_date, day_of, before}
use Rattle.rights.specs.Rights.{is_rights, rights_of}
use Rattle.names.specs.declared.Name.{Name}
use Rattle.days.specs.declared.Day.{Day}
use Rattle.rights.specs.declared.Rights.{Rights}
use Rattle.bodies.specs.declared.Place.{Place}
use Rattle.bodies.specs.declared.Body.{Body}
use Rattle.bodies.specs.declared.Cursor.{Cursor}
use Rattle.bodies.specs.declared.Taken.{Taken}
use Rattle.status.specs.declared.Unfit.{Unfit}

abbrev pub no_place : Option Place
no_place = None

-- no body, and a body of n objects
abbrev pub Reading : Type 0
Reading = Result Body Unfit

unfoldable pub unread : Reading
unread = Err (record {})

abbrev pub read : (issuer : Name) (key : Place) (own : Name) → Rights → (first last : Day) (ext : Option Place) (n : ℕ) → Reading
read issuer key own rights first last ext n =
    Ok (record { issuer = issuer; certificate = record { name = own; rights = rights; first = first; last = last; key = 0 }; key = key; ext = ext; count = n })

-- what is answered once the objects are counted
abbrev pub Pending : Type 0
Pending = ℕ → Reading

-- the object at the start of s that ends at e, where s ends at `stop` of the whole
abbrev pub place_of : (stop : ℕ) (s : List ℕ) (e : ℕ) → Place
place_of stop s e = record { start = stop - length s; end = stop - length s + e }

-- nothing follows
abbrev pub ended : List ℕ → Pending → Pending
ended s k = cond (eqb (length s) 0) k (λ n. unread)

-- the mechanism of terminal authentication: 04 00 7F 00 07 02 02 02 02 03
abbrev pub ta_mechanism : List ℕ
ta_mechanism = 0x04 ∷ 0x00 ∷ 0x7F ∷ 0x00 ∷ 0x07 ∷ 0x02 ∷ 0x02 ∷ 0x02 ∷ 0x02 ∷ 0x03 ∷ []

-- a public key starts with 06 and that
abbrev pub mechanism : List ℕ
mechanism = 0x06 ∷ 10 ∷ ta_mechanism

unfoldable pub is_public_key : List ℕ → Bool
is_public_key c = eqbs (take (length mechanism) c) mechanism

-- "5F37 (1 to 256 bytes)"
abbrev pub longest_signature : ℕ
longest_signature = 256

unfoldable pub is_signature : List ℕ → Bool
is_signature c = among 1 longest_signature (length c)

-- a day that is not before the first
abbrev pub is_last_day : Day → List ℕ → Bool
is_last_day first c = is_date c && not (before (record { 0 = day_of c }) first)

module _ (stop : ℕ) where
  -- 65 optional, well-formed, unjudged
  unfoldable pub ext_then : Name → Place → Name → Rights → Day → Day → List ℕ → Pending
  ext_then issuer key own rights first last s =
      cond (eqb (length s) 0) (read issuer key own rights first last no_place)
      (taken unread 0x65 true any s (λ c e rest. ended rest (read issuer key own rights first last (Some (place_of stop s e)))))

  -- 5F24 last day, not before the first
  unfoldable pub last_then : Name → Place → Name → Rights → Day → List ℕ → Pending
  last_then issuer key own rights first s =
      taken unread 0x5F24 false (is_last_day first) s (λ c e. ext_then issuer key own rights first (record { 0 = day_of c }))

  -- 5F25 first day
  unfoldable pub first_then : Name → Place → Name → Rights → List ℕ → Pending
  first_then issuer key own rights s = taken unread 0x5F25 false is_date s (λ c e. last_then issuer key own rights (record { 0 = day_of c }))

  -- 7F4C rights
  unfoldable pub rights_then : Name → Place → Name → List ℕ → Pending
  rights_then issuer key own s = taken unread 0x7F4C true is_rights s (λ c e. first_then issuer key own (record { 0 = rights_of c }))

  -- 5F20 own name
  unfoldable pub own_then : Name → Place → List ℕ → Pending
  own_then issuer key s = taken unread 0x5F20 false is_name s (λ c e. rights_then issuer key (name_of c))

  -- 7F49 starting with 06 and the TA mechanism
  unfoldable pub key_then : Name → List ℕ → Pending
  key_then issuer s = taken unread 0x7F49 true is_public_key s (λ c e. own_then issuer (place_of stop s e))

  -- 42 issuer name
  unfoldable pub issuer_then : List ℕ → Pending
  issuer_then s = taken unread 0x42 false is_name s (λ c e. key_then (name_of c))

  -- 5F29 (00)
  unfoldable pub version_then : List ℕ → Pending
  version_then s = taken unread 0x5F29 false (λ c. eqbs c (0x00 ∷ [])) s (λ c e. issuer_then)

-- Body 7F4E, and what must follow it
unfoldable pub body_then : (List ℕ → Pending → Pending) → List ℕ → Pending
body_then after s = taken unread 0x7F4E true any s (λ c e rest. after rest (version_then e c))

-- 5F37 with a signature, and nothing after it
abbrev pub signature : List ℕ → Pending → Pending
signature s k = taken unread 0x5F37 false is_signature s (λ g f rest. ended rest k)

-- readable within the depth and the allowance, and the fields fit: the body alone, or with its signature in one reading
unfoldable pub body_of : List ℕ → Reading
body_of s = answered unread (objects_in s) (body_then ended s)

unfoldable pub signed_of : List ℕ → Reading
signed_of s = answered unread (objects_in s) (body_then signature s)

-- ---- as the code tests them

-- the objects of a public key, at depth 3, if no more than so many are left
unfoldable pub key_objects : ℕ → List ℕ → Option ℕ
key_objects left c = cond (is_public_key c) (within left (objects_at 3 c)) None

-- 5F37 with a signature, alone
abbrev pub signs_by : List ℕ → Option Content → Bool
signs_by r None = false
signs_by r (Some c) = among 1 longest_signature (c.end - c.start) && eqb c.end (length r)

unfoldable pub is_signed : List ℕ → Bool
is_signed r = signs_by r (found_in 0x5F37 false r)

-- a name, or unfit
abbrev pub named : List ℕ → Result Name Unfit
named c = cond (is_name c) (Ok (name_of c)) (Err (record {}))

-- what is left of the body's bytes ends where it does, and no more than n objects were read
abbrev pub At : ℕ → Cursor → Type 0
At n at = (length at.left.now ≤ at.stop) × (at.used ≤ n)

-- what is read of it, all counted
abbrev pub Reads : Cursor → (ℕ → List ℕ → Pending) → Reading → Type 0
Reads at then r = r ≡ counted unread at.used (objects_at 2 at.left.now) (then at.stop at.left.now)

-- the object of this tag that stands there, and one more object was read
pub record Took (t : ℕ) (w : Bool) (at : Cursor) (o : Taken) : Type 0 where
  pub inside : Content
  pub here : found_in t w at.left.now ≡ Some inside
  pub sizes : (inside.start ≤ inside.end) × (inside.end ≤ length at.left.now)
  pub content : o.content.now ≡ part inside.start inside.end at.left.now
  pub place : o.place ≡ place_of at.stop at.left.now inside.end
  pub left : o.next.left.now ≡ drop inside.end at.left.now
  pub stop : o.next.stop ≡ at.stop
  pub used : o.next.used ≡ at.used + 1

abbrev pub TookBy : (t : ℕ) (w : Bool) (at : Cursor) → Result Taken Unfit → Type 0
TookBy t w at (Err u) = found_in t w at.left.now ≡ None
TookBy t w at (Ok o) = Took t w at o
