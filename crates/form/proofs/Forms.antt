-- The cases of the forms, as the code's tests tell them. Assumes nothing.
use Rattle.std.specs.Prelude.{Option, Some, None}
use Prim.Native.Nat.{ℕ, ◌+◌, ◌-◌, ◌<◌, ◌≤◌}
use mathlib.Core.Path.{◌≡◌, refl, sym, ap, subst, ◌∙◌}
use mathlib.Core.List.{List, [], ◌∷◌}
use native.Mathlib.Omega.{arith}
use mathlib.Core.Bool.{Bool, true, false, cond}
use lib.Dec.{eqb, leb, ltb}
use lib.ListN.{length, take, drop, get_or}
use borrow.Author.Tests.{eq-eqb, ne_eqb, le-leb, lt-leb, le-ltb, lt-ltb, leb-true}
use Rattle.laws.proofs.Lists.{from}
use Rattle.laws.proofs.Bools.{of-both}
use Rattle.form.specs.Form.{command_limit, pair_of, form_of, after_header, after_four, data_then, extended_of, after_short, after_long, after, data_by, bytes_of, formed, bare}
use Rattle.form.specs.declared.Form.{Form}
use Rattle.form.specs.declared.Lc.{Lc}
use Rattle.form.specs.declared.Lc.TheVariants.{Short, Extended}

-- what follows the data
module _ (lc : Lc) (r : Option Form) where
  pub after-none : (s : List ℕ) → length s < 1 → r ≡ formed lc None → r ≡ after lc s
  unfolding after after_short after_long
  after-none s h e = go lc s h e
    where
      go : (l : Lc) (t : List ℕ) → length t < 1 → r ≡ formed l None → r ≡ after l t
      go (Short n) [] k f = f
      go (Extended n) [] k f = f
      go l (a ∷ t) k f = absurd (omega arith)

  pub after_one : (n : ℕ) (s : List ℕ) → lc ≡ Short n → 1 ≤ length s → length s < 2 → r ≡ formed lc (Some (get_or s 0 0)) → r ≡ after lc s
  unfolding after after_short
  after_one n s e h k f = subst (λ (l : Lc). r ≡ after l s) (sym e) (go s h k (subst (λ (l : Lc). r ≡ formed l (Some (get_or s 0 0))) e f))
    where
      go : (t : List ℕ) → 1 ≤ length t → length t < 2 → r ≡ formed (Short n) (Some (get_or t 0 0)) → r ≡ after (Short n) t
      go [] i j g = absurd (omega arith)
      go (a ∷ []) i j g = g
      go (a ∷ b ∷ t) i j g = absurd (omega arith)

  pub after_two : (n x : ℕ) (s : List ℕ) → lc ≡ Extended n → 2 ≤ length s → length s < 3 → x ≡ pair_of (get_or s 0 0) (get_or s 1 0) → r ≡ formed lc (Some x) → r ≡ after lc s
  unfolding after after_long
  after_two n x s e h k v f = subst (λ (l : Lc). r ≡ after l s) (sym e) (go s h k v (subst (λ (l : Lc). r ≡ formed l (Some x)) e f))
    where
      go : (t : List ℕ) → 2 ≤ length t → length t < 3 → x ≡ pair_of (get_or t 0 0) (get_or t 1 0) → r ≡ formed (Extended n) (Some x) → r ≡ after (Extended n) t
      go [] i j w g = absurd (omega arith)
      go (a ∷ []) i j w g = absurd (omega arith)
      go (a ∷ b ∷ []) i j w g = g ∙ rw w
      go (a ∷ b ∷ c ∷ t) i j w g = absurd (omega arith)

module _ (lc : Lc) where
  pub after-short-more : (n : ℕ) (s : List ℕ) → lc ≡ Short n → 2 ≤ length s → None ≡ after lc s
  unfolding after after_short
  after-short-more n [] e h = absurd (omega arith)
  after-short-more n (a ∷ []) e h = absurd (omega arith)
  after-short-more n (a ∷ b ∷ s) e h = rw e

  pub after-long-one : (n : ℕ) (s : List ℕ) → lc ≡ Extended n → 1 ≤ length s → length s < 2 → None ≡ after lc s
  unfolding after after_long
  after-long-one n [] e h k = absurd (omega arith)
  after-long-one n (a ∷ []) e h k = rw e
  after-long-one n (a ∷ b ∷ s) e h k = absurd (omega arith)

  pub after-three : (s : List ℕ) → 3 ≤ length s → None ≡ after lc s
  unfolding after after_short after_long
  after-three s h = go lc s h
    where
      go : (l : Lc) (t : List ℕ) → 3 ≤ length t → None ≡ after l t
      go (Short n) (a ∷ b ∷ c ∷ t) k = refl
      go (Extended n) (a ∷ b ∷ c ∷ t) k = refl
      go l [] k = absurd (omega arith)
      go l (a ∷ []) k = absurd (omega arith)
      go l (a ∷ b ∷ []) k = absurd (omega arith)

-- the data, and what follows them
module _ (s : List ℕ) (r : Option Form) where
  pub data-in : (lc : Lc) (n : ℕ) (t : List ℕ) → n ≡ bytes_of lc → n ≤ length s → t ≡ take (length s - n) (drop n s) → r ≡ after lc t → r ≡ data_by lc s
  unfolding data_by data_then after
  data-in (Short k) n t v h q e = rw (le-leb k (length s) (omega arith)) (e ∙ ap (after_short k) (q ∙ rw v (from s k)))
  data-in (Extended k) n t v h q e = rw (le-leb k (length s) (omega arith)) (e ∙ ap (after_long k) (q ∙ rw v (from s k)))

pub data-out : (lc : Lc) (s : List ℕ) (n : ℕ) → n ≡ bytes_of lc → length s < n → None ≡ data_by lc s
unfolding data_by data_then
data-out (Short k) s n v h = rw (lt-leb k (length s) (omega arith))
data-out (Extended k) s n v h = rw (lt-leb k (length s) (omega arith))

pub ext-short : (s : List ℕ) → length s < 2 → None ≡ extended_of s
unfolding extended_of
ext-short [] h = refl
ext-short (a ∷ []) h = refl
ext-short (a ∷ b ∷ s) h = absurd (omega arith)

-- what follows the first k bytes
abbrev rest : List ℕ → ℕ → List ℕ
rest s k = take (length s - k) (drop k s)

module _ (n : ℕ) where
  pub ext-le : (s : List ℕ) (r : Option Form) → 2 ≤ length s → length (rest s 2) < 1 → n ≡ pair_of (get_or s 0 0) (get_or s 1 0) → r ≡ bare (Some n) → r ≡ extended_of s
  unfolding extended_of
  ext-le [] r h k e f = absurd (omega arith)
  ext-le (a ∷ []) r h k e f = absurd (omega arith)
  ext-le (a ∷ b ∷ []) r h k e f = f ∙ rw e
  ext-le (a ∷ b ∷ c ∷ s) r h k e f = absurd (let z : length (c ∷ s) < 1 = rw (from (a ∷ b ∷ c ∷ s) 2) at k in omega arith)

  pub ext-zero : (s : List ℕ) → 2 ≤ length s → 1 ≤ length (rest s 2) → n ≡ pair_of (get_or s 0 0) (get_or s 1 0) → n ≡ 0 → None ≡ extended_of s
  unfolding extended_of
  ext-zero [] h k e z = absurd (omega arith)
  ext-zero (a ∷ []) h k e z = absurd (omega arith)
  ext-zero (a ∷ b ∷ []) h k e z = absurd (omega arith)
  ext-zero (a ∷ b ∷ c ∷ s) h k e z = rw (eq-eqb (pair_of a b) 0 (sym e ∙ z))

  pub ext-long : (s : List ℕ) (r : Option Form) → 2 ≤ length s → 1 ≤ length (rest s 2) → n ≡ pair_of (get_or s 0 0) (get_or s 1 0) → (n ≡ 0 → ⊥)
      → r ≡ data_by (Extended n) (rest s 2) → r ≡ extended_of s
  unfolding extended_of data_by
  ext-long [] r h k e z q = absurd (omega arith)
  ext-long (a ∷ []) r h k e z q = absurd (omega arith)
  ext-long (a ∷ b ∷ []) r h k e z q = absurd (omega arith)
  ext-long (a ∷ b ∷ c ∷ s) r h k e z q =
      rw (ne_eqb (pair_of a b) 0 (λ y. z (e ∙ y))) (q ∙ ap (data_then after_long n) (from (a ∷ b ∷ c ∷ s) 2) ∙ ap (λ (m : ℕ). data_then after_long m (c ∷ s)) e)

-- after the header
module _ (r : Option Form) where
  pub four-none : (s : List ℕ) → length s < 1 → r ≡ bare None → r ≡ after_four s
  unfolding after_four
  four-none [] h e = e
  four-none (a ∷ s) h e = absurd (omega arith)

  pub four-le : (s : List ℕ) → 1 ≤ length s → length s < 2 → r ≡ bare (Some (get_or s 0 0)) → r ≡ after_four s
  unfolding after_four
  four-le [] h k e = absurd (omega arith)
  four-le (a ∷ []) h k e = e
  four-le (a ∷ b ∷ s) h k e = absurd (omega arith)

  pub four-extended : (s : List ℕ) → 2 ≤ length s → get_or s 0 0 ≡ 0 → r ≡ extended_of (rest s 1) → r ≡ after_four s
  unfolding after_four
  four-extended [] h z e = absurd (omega arith)
  four-extended (a ∷ []) h z e = absurd (omega arith)
  four-extended (a ∷ b ∷ s) h z e = rw (eq-eqb a 0 z) (e ∙ ap extended_of (from (a ∷ b ∷ s) 1))

  pub four-short : (s : List ℕ) → 2 ≤ length s → (get_or s 0 0 ≡ 0 → ⊥) → r ≡ data_by (Short (get_or s 0 0)) (rest s 1) → r ≡ after_four s
  unfolding after_four data_by
  four-short [] h z e = absurd (omega arith)
  four-short (a ∷ []) h z e = absurd (omega arith)
  four-short (a ∷ b ∷ s) h z e = rw (ne_eqb a 0 z) (e ∙ ap (data_then after_short a) (from (a ∷ b ∷ s) 1))

  -- the whole form, over the number of bytes
  pub form-head : (s : List ℕ) → 4 ≤ length s → length s ≤ command_limit → r ≡ after_four (rest s 4) → r ≡ form_of s
  unfolding form_of after_header
  form-head [] h k e = absurd (omega arith)
  form-head (a ∷ []) h k e = absurd (omega arith)
  form-head (a ∷ b ∷ []) h k e = absurd (omega arith)
  form-head (a ∷ b ∷ c ∷ []) h k e = absurd (omega arith)
  form-head (a ∷ b ∷ c ∷ d ∷ s) h k e = rw (le-ltb _ _ k) (e ∙ ap after_four (from (a ∷ b ∷ c ∷ d ∷ s) 4))

pub form-over : (s : List ℕ) → command_limit < length s → None ≡ form_of s
unfolding form_of
form-over s h = rw (lt-ltb _ _ h)

pub form-few : (s : List ℕ) → length s < 4 → None ≡ form_of s
unfolding form_of after_header
form-few [] h = refl
form-few (a ∷ []) h = refl
form-few (a ∷ b ∷ []) h = refl
form-few (a ∷ b ∷ c ∷ []) h = refl
form-few (a ∷ b ∷ c ∷ d ∷ s) h = absurd (omega arith)

pub ruleset forms = (after-none, after_one, after_two, after-short-more, after-long-one, after-three, ext-short, ext-le, ext-zero, ext-long, four-none, four-le, four-extended, four-short, form-head, form-over, form-few)

-- ---- the data lies in the command, after the header

pub data FormIn (n : ℕ) : Option Form → Type 0 where
  no-form : FormIn n None
  form-of : (a e : ℕ) {le : Option ℕ} → 4 ≤ a → a ≤ e → e ≤ n → FormIn n (Some (record { start = a; end = e; le = le }))

pub form-sizes : {n : ℕ} {f : Form} → FormIn n (Some f) → (4 ≤ f.start) × (f.start ≤ f.end) × (f.end ≤ n)
form-sizes (form-of a e o p q) = (o, p, q)

after-short-in : (n lc : ℕ) (s : List ℕ) → 5 + lc ≤ n → FormIn n (after_short lc s)
unfolding after_short
after-short-in n lc [] h = form-of 5 (5 + lc) (omega arith) (omega arith) h
after-short-in n lc (a ∷ []) h = form-of 5 (5 + lc) (omega arith) (omega arith) h
after-short-in n lc (a ∷ b ∷ s) h = no-form

after-long-in : (n lc : ℕ) (s : List ℕ) → 7 + lc ≤ n → FormIn n (after_long lc s)
unfolding after_long
after-long-in n lc [] h = form-of 7 (7 + lc) (omega arith) (omega arith) h
after-long-in n lc (a ∷ []) h = no-form
after-long-in n lc (a ∷ b ∷ []) h = form-of 7 (7 + lc) (omega arith) (omega arith) h
after-long-in n lc (a ∷ b ∷ c ∷ s) h = no-form

-- data that starts at k
data-form : (after : ℕ → List ℕ → Option Form) (n k lc : ℕ) (s : List ℕ) → ((t : List ℕ) → k + lc ≤ n → FormIn n (after lc t)) → k + length s ≤ n
    → FormIn n (data_then after lc s)
unfolding data_then
data-form after n k lc s i h = go (leb lc (length s)) refl
  where
    go : (b : Bool) → leb lc (length s) ≡ b → FormIn n (cond b (after lc (drop lc s)) None)
    go true e = i (drop lc s) (let l = leb-true lc (length s) e in omega arith)
    go false e = no-form

extended-in : (n : ℕ) (s : List ℕ) → 5 + length s ≤ n → FormIn n (extended_of s)
unfolding extended_of
extended-in n [] k = no-form
extended-in n (a ∷ []) k = no-form
extended-in n (a ∷ b ∷ []) k = form-of 4 4 (omega arith) (omega arith) (omega arith)
extended-in n (a ∷ b ∷ c ∷ s) k = of-both (FormIn n) (eqb (pair_of a b) 0) no-form (data-form after_long n 7 (pair_of a b) (c ∷ s) (after-long-in n (pair_of a b)) (omega arith))

four-in : (m : ℕ) (s : List ℕ) → 4 + length s ≤ m → FormIn m (after_four s)
unfolding after_four
four-in m [] k = form-of 4 4 (omega arith) (omega arith) (omega arith)
four-in m (n ∷ []) k = form-of 4 4 (omega arith) (omega arith) (omega arith)
four-in m (n ∷ d ∷ s) k = of-both (FormIn m) (eqb n 0) (extended-in m (d ∷ s) (omega arith)) (data-form after_short m 5 n (d ∷ s) (after-short-in m n) (omega arith))

pub form_in : (s : List ℕ) → FormIn (length s) (form_of s)
unfolding form_of after_header
form_in s = of-both (FormIn (length s)) (ltb command_limit (length s)) no-form (go s)
  where
    go : (l : List ℕ) → FormIn (length l) (after_header l)
    go [] = no-form
    go (a ∷ []) = no-form
    go (a ∷ b ∷ []) = no-form
    go (a ∷ b ∷ c ∷ []) = no-form
    go (a ∷ b ∷ c ∷ d ∷ l) = four-in _ l (omega arith)
