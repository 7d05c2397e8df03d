-- The ways through each reader: what the code knows at each return, and what the definition then says. Each law is over plain
-- values, for a search to fit. Assumes nothing.
use Rattle.std.specs.Prelude.{Option, Some, None}
use borrow.Author.Rules.{rules}
use Prim.Native.Nat.{ℕ, ◌+◌, ◌-◌, ◌≤◌, ◌<◌}
use native.Mathlib.Nat.{add-zero}
use native.Mathlib.Omega.{arith}
use mathlib.Core.Path.{◌≡◌, refl, sym, ap, ◌∙◌}
use mathlib.Core.Bool.{Bool, true, false, cond}
use mathlib.Core.List.{List}
use borrow.Author.Tests.{eq-eqb, ne_eqb, eqb-true, leb-true}
use mir.Val.{Fits}
use mir.Syntax.{w64}
use lib.Dec.{eqb, leb}
use lib.ListN.{length, get_or, drop}
use lib.Seq.{get_or-take, get_or-drop}
use Rattle.laws.proofs.Bools.{and_l, and_r}
use Rattle.laws.proofs.Lists.{from}
use Rattle.objects.specs.Objects.{allowance, part, objects, objects_at, within, found_in}
use Rattle.objects.specs.Chain.{counted}
use Rattle.objects.specs.declared.Content.{Content}
use Rattle.objects.proofs.Sizes.{found-sizes, part_length}
use Rattle.objects.proofs.Counts.{kept-objects}
use Rattle.objects.proofs.Fuel.{objects-none}
use Rattle.objects.proofs.Chain.{rest, found-start, found-end, nest-counts, nest-refused, counted-plus}
use Rattle.strings.specs.Bytes.{longest}
use Rattle.names.specs.Names.{is_name, name_of}
use Rattle.keys.specs.Keys.{is_key, key_of}
use Rattle.rights.specs.Rights.{is_rights, granted, rights_of}
use Rattle.bodies.specs.Body.{ta_mechanism}
use Rattle.bodies.proofs.Contents.{rights-count}
use Rattle.names.specs.declared.Name.{Name}
use Rattle.keys.specs.declared.Key.{Key}
use Rattle.rights.specs.declared.Rights.{Rights}
use Rattle.command.proofs.Shapes.{data-starts, data-ends}
use Rattle.taking.specs.Taking.{is_all, sized, fitted, last_of, holds}
use Rattle.fields.specs.Given.{selecting, announcing}
use Rattle.fields.specs.Choice.{pace, choice_of, protocol_then, password_then, rights_then, chosen, chosen_for, chosen_by}
use Rattle.fields.specs.Held.{held_in, general_of}
use Rattle.fields.specs.Issuers.{select_of}
use Rattle.fields.specs.Announce.{announce_of, key_then, auxiliary_then, terminal_then}
use Rattle.fields.specs.Announce as announce
use Rattle.fields.specs.Chip.{chip, chip_of, reference_in}
use Rattle.fields.specs.declared.asked.Ask.{Ask}
use Rattle.fields.specs.declared.given.Given.{Given}
use Rattle.taking.proofs.Taken.{fitted-start, fitted-end, last-start, last_end, lone-start, lone-end}
use Rattle.taking.proofs.Links.{Few, failed, few, few-counted, when, reads, link-off, link_on, last_off, last_on, nest-off, nest-on, fitted-is, full, holds-count}

-- ---- choose password

rights-few : (d p : ℕ) (s : List ℕ) → Few None 2 (objects d s) (chosen_by p (granted s))
unfolding granted chosen_by
rights-few d p s = go (is_rights s) refl
  where
    go : (b : Bool) → is_rights s ≡ b → Few None 2 (objects d s) (chosen_by p (cond b (Some (record { 0 = rights_of s })) None))
    go true e = few 2 (rights-count d s e) (omega arith)
    go false e = failed

module _ (s : List ℕ) (p : ℕ) (x : Option Ask) where
  pub rights-none : length s ≡ 0 → x ≡ chosen p → x ≡ counted None 2 (objects_at 1 s) (rights_then p s)
  unfolding rights_then
  rights-none h y = y ∙ rw (objects-none 7 s h, eq-eqb (length s) 0 h) (sym (few-counted None 2 0 (Some 0) (chosen p) (few 0 refl (omega arith)) (omega arith)))

  module _ (some : length s ≡ 0 → ⊥) (f g : Option Content) (is : f ≡ found_in 0x7F4C true s) (ends : g ≡ last_of (length s) f) where
    pub rights-off : x ≡ None → g ≡ None → x ≡ counted None 2 (objects_at 1 s) (rights_then p s)
    unfolding rights_then
    rights-off u q = rw (ne_eqb (length s) 0 some) (nest-off None 2 7 s 0x7F4C (λ c. chosen_by p (granted c)) f g ends x is u q)

    module _ (c : Content) (q : g ≡ Some c) (w : Option Rights) (v : w ≡ granted (part c.start c.end s)) where
      rights-by : x ≡ chosen_by p w → x ≡ counted None 2 (objects_at 1 s) (rights_then p s)
      unfolding rights_then
      rights-by y =
          rw (ne_eqb (length s) 0 some)
          (nest-on None 2 7 s 0x7F4C (λ c. chosen_by p (granted c)) f g ends x is 2 c q (rights-few 6 p (part c.start c.end s)) (omega arith) (omega arith) (y ∙ ap (chosen_by p) v))

      pub rights-refused : x ≡ None → w ≡ None → x ≡ counted None 2 (objects_at 1 s) (rights_then p s)
      unfolding chosen_by
      rights-refused u e = rights-by (u ∙ rw e)

      pub rights-on : (r : Rights) → w ≡ Some r → x ≡ chosen_for p r → x ≡ counted None 2 (objects_at 1 s) (rights_then p s)
      unfolding chosen_by
      rights-on r e y = rights-by (y ∙ rw e)

module _ (s : List ℕ) (f : Option Content) (is : f ≡ fitted 0x83 false (sized 1 1) s) (c : Content) (p : f ≡ Some c) where
  one-long : (c.start + 1 ≡ c.end) × (c.end ≤ length s)
  one-long =
      let q = fitted-is 0x83 false (sized 1 1) s c (sym is ∙ p) in
      let z = found-sizes 0x83 false s c q.0 in
      let l = part_length c.start c.end s z.1 z.2 in
      let b = leb-true 1 (length (part c.start c.end s)) (and_l (leb 1 (length (part c.start c.end s))) _ q.1) in
      let m = leb-true (length (part c.start c.end s)) 1 (and_r (leb 1 (length (part c.start c.end s))) _ q.1) in
      (omega arith, z.2)

  pub password-in : c.start < length s
  password-in = let l = one-long in omega arith

  pub password-on : (x : Option Ask) (n : ℕ) → n ≡ get_or s c.start 0 → x ≡ counted None 2 (objects_at 1 (rest s c.end)) (rights_then n (rest s c.end)) → x ≡ counted None 1 (objects_at 1 s) (password_then s)
  unfolding password_then
  password-on x n v g =
      let l = one-long in
      let i : 0 < c.end - c.start = omega arith in
      let b : get_or (part c.start c.end s) 0 0 ≡ get_or s c.start 0 = rw (get_or-take (c.end - c.start) (drop c.start s) 0 0 i, get_or-drop, add-zero) in
      link_on None 1 7 s 0x83 (sized 1 1) (λ c e. rights_then (get_or c 0 0)) f is x c p (g ∙ rw (v, b))

pub choice-on : (s : List ℕ) (f : Option Content) (c : Content) (x : Option Ask) → f ≡ fitted 0x80 false (is_all pace) s → f ≡ Some c
    → x ≡ counted None 1 (objects_at 1 (rest s c.end)) (password_then (rest s c.end)) → x ≡ choice_of s
unfolding choice_of protocol_then
choice-on s f c x is p g = reads None s (protocol_then s) x (link_on None 0 7 s 0x80 (is_all pace) (λ c e. password_then) f is x c p g)

-- ---- run step and chip key

-- nothing, or one object of so many bytes
none-few : (d most : ℕ) (s : List ℕ) {x : Option Ask} → eqb (length s) 0 ≡ true → Few None most (objects d s) x
none-few d most s h = few 0 (objects-none d s (eqb-true (length s) 0 h)) (omega arith)

holds-few : (d t least most : ℕ) (s : List ℕ) {x : Option Ask} → holds t least most s ≡ true → Few None 1 (objects d s) x
holds-few d t least most s h = few 1 (holds-count d t least most s h) (omega arith)

held-few : (d : ℕ) (s : List ℕ) → Few None 1 (objects d s) (held_in s)
unfolding held_in
held-few d s =
    when (Few None 1 (objects d s)) (eqb (length s) 0) (none-few d 1 s)
    (when (Few None 1 (objects d s)) (holds 0x81 1 longest s) (holds-few d 0x81 1 longest s)
    (when (Few None 1 (objects d s)) (holds 0x83 1 longest s) (holds-few d 0x83 1 longest s)
    (when (Few None 1 (objects d s)) (holds 0x85 8 8 s) (holds-few d 0x85 8 8 s)
    (when (Few None 1 (objects d s)) (holds 0x80 1 longest s) (holds-few d 0x80 1 longest s) failed))))

pub general-on : (s : List ℕ) (f g : Option Content) (c : Content) (x : Option Ask) → f ≡ found_in 0x7C true s → g ≡ last_of (length s) f → g ≡ Some c → x ≡ held_in (part c.start c.end s) → x ≡ general_of s
unfolding general_of
general-on s f g c x is ends p y =
    reads None s _ x (nest-on None 0 7 s 0x7C held_in f g ends x is 1 c p (held-few 6 (part c.start c.end s)) (omega arith) (omega arith) y)

-- ---- choose chip key

reference-few : (d : ℕ) (s : List ℕ) → Few None 1 (objects d s) (reference_in s)
unfolding reference_in
reference-few d s =
    when (Few None 1 (objects d s)) (eqb (length s) 0) (none-few d 1 s)
    (when (Few None 1 (objects d s)) (holds 0x84 1 1 s) (holds-few d 0x84 1 1 s) failed)

pub chip-on : (s : List ℕ) (f : Option Content) (c : Content) (x : Option Ask) → f ≡ fitted 0x80 false (is_all chip) s → f ≡ Some c → x ≡ reference_in (rest s c.end) → x ≡ chip_of s
unfolding chip_of
chip-on s f c x is p y =
    let r : List ℕ = rest s c.end in
    reads None s _ x
    (link_on None 0 7 s 0x80 (is_all chip) (λ c e rest n. reference_in rest) f is x c p
    (y ∙ sym (few-counted None 1 1 (objects_at 1 r) (reference_in r) (reference-few 7 r) (omega arith))))

-- ---- select issuer

pub select-on : (s : List ℕ) (f g : Option Content) (c : Content) (n : Name) (x : Given) → f ≡ fitted 0x83 false is_name s → g ≡ last_of (length s) f → g ≡ Some c → n ≡ name_of (part c.start c.end s)
    → x ≡ selecting n → Some x ≡ select_of s
unfolding select_of
select-on s f g c n x is ends p v y =
    reads None s _ (Some x) (last_on None 0 7 s 0x83 (λ c. Some (selecting (name_of c))) f g ends (Some x) is_name is c p (omega arith) (ap Some (y ∙ ap selecting v)))

-- ---- announce

pub key-on : (s : List ℕ) (name : Name) (used : ℕ) (f g : Option Content) (c : Content) (k : Key) (x : Given) → f ≡ fitted 0x91 false is_key s → g ≡ last_of (length s) f → g ≡ Some c → used < allowance
    → k ≡ key_of (part c.start c.end s) → x ≡ announcing name k → Some x ≡ counted None used (objects_at 1 s) (key_then name s)
unfolding key_then
key-on s name used f g c k x is ends p h v y =
    last_on None used 7 s 0x91 (λ c. Some (announcing name (key_of c))) f g ends (Some x) is_key is c p h (ap Some (y ∙ ap (announcing name) v))

pub auxiliary-fits : (w : Option ℕ) (c : List ℕ) (n : ℕ) → w ≡ within (allowance - 3) (objects_at 2 c) → w ≡ Some n → Fits w64 (3 + n)
auxiliary-fits w c n v q = let k = kept-objects (allowance - 3) (objects_at 2 c) n (sym v ∙ q) in record { fits = omega (arith, k.1) }

module _ (s : List ℕ) (name : Name) (f : Option Content) (is : f ≡ found_in 0x67 true s) (x : Option Given) where
  pub auxiliary-none : f ≡ None → x ≡ counted None 2 (objects_at 1 s) (key_then name s) → x ≡ counted None 2 (objects_at 1 s) (auxiliary_then name s)
  unfolding auxiliary_then
  auxiliary-none p g = g ∙ rw (sym is ∙ p)

  module _ (c : Content) (p : f ≡ Some c) (w : Option ℕ) (v : w ≡ within (allowance - 3) (objects_at 2 (part c.start c.end s))) where
    pub auxiliary-refused : x ≡ None → w ≡ None → x ≡ counted None 2 (objects_at 1 s) (auxiliary_then name s)
    auxiliary-refused u q = u ∙ sym (nest-refused None 2 7 s 0x67 c (allowance - 3) (auxiliary_then name s) (omega arith) (sym is ∙ p) (omega arith) (sym v ∙ q))

    pub auxiliary-on : (n : ℕ) → w ≡ Some n → x ≡ counted None (3 + n) (objects_at 1 (rest s c.end)) (key_then name (rest s c.end)) → x ≡ counted None 2 (objects_at 1 s) (auxiliary_then name s)
    unfolding auxiliary_then
    auxiliary-on n q g =
        let k = kept-objects (allowance - 3) (objects_at 2 (part c.start c.end s)) n (sym v ∙ q) in
        let m : 3 + n ≡ 2 + (n + 1) = omega arith in
        g ∙ rw (sym is ∙ p, nest-counts 7 s 0x67 c (omega arith) (sym is ∙ p), k.0, from s c.end, m) (sym (counted-plus None 2 (n + 1) (objects_at 1 (drop c.end s)) (key_then name (drop c.end s))))

pub terminal-on : (s : List ℕ) (f : Option Content) (c : Content) (n : Name) (x : Option Given) → f ≡ fitted 0x83 false is_name s → f ≡ Some c → n ≡ name_of (part c.start c.end s)
    → x ≡ counted None 2 (objects_at 1 (rest s c.end)) (auxiliary_then n (rest s c.end)) → x ≡ counted None 1 (objects_at 1 s) (terminal_then s)
unfolding terminal_then
terminal-on s f c n x is p v y = link_on None 1 7 s 0x83 is_name (λ c e. auxiliary_then (name_of c)) f is x c p (y ∙ rw v)

pub announce-on : (s : List ℕ) (f : Option Content) (c : Content) (x : Option Given) → f ≡ fitted 0x80 false (is_all ta_mechanism) s → f ≡ Some c
    → x ≡ counted None 1 (objects_at 1 (rest s c.end)) (terminal_then (rest s c.end)) → x ≡ announce_of s
unfolding announce_of announce.protocol_then
announce-on s f c x is p g = reads None s (announce.protocol_then s) x (link_on None 0 7 s 0x80 (is_all ta_mechanism) (λ c e. terminal_then) f is x c p g)

-- where the last object lies
module _ (n t : ℕ) (w : Bool) (s : List ℕ) (c : Content) where
  module _ (p : last_of n (found_in t w s) ≡ Some c) where
    pub last-starts : c.start ≤ c.end
    last-starts = last-start (found_in t w s) (last_of n (found_in t w s)) n refl t w s c p refl

    pub last-ends : c.end ≤ length s
    last-ends = last_end (found_in t w s) (last_of n (found_in t w s)) n refl t w s c p refl

  module _ (fits : List ℕ → Bool) (p : last_of n (fitted t w fits s) ≡ Some c) where
    pub lone-starts : c.start ≤ c.end
    lone-starts = lone-start (fitted t w fits s) (last_of n (fitted t w fits s)) n refl t w s c p fits refl

    pub lone-ends : c.end ≤ length s
    lone-ends = lone-end (fitted t w fits s) (last_of n (fitted t w fits s)) n refl t w s c p fits refl

-- where an object lies that was found
pub ruleset places = (fitted-start, fitted-end, found-start, found-end)

pub ruleset ends = (last-starts, last-ends, lone-starts, lone-ends)

-- where a command's data lie
pub ruleset bounds = (data-starts, data-ends)

-- the whole list is too long for this one
pub ruleset passwords = (link-off, password-in, password-on, places)

pub ruleset chains = (
  reads,
  link-off,
  last_off,
  nest-off,
  full,
  general-on,
  rights-none,
  rights-off,
  rights-refused,
  rights-on,
  choice-on,
  chip-on,
  select-on,
  key-on,
  terminal-on,
  announce-on,
  auxiliary-none,
  auxiliary-refused,
  auxiliary-on,
  auxiliary-fits,
  places,
  rules,
)
