-- The parts of a string and a byte that is counted, in the library's words, and what a line is. Assumes nothing.
use Prim.Native.Nat.{ℕ, zero, suc, ◌+◌, ◌≤◌, ◌<◌}
use mathlib.Core.Path.{◌≡◌, refl, sym, ap, ◌∙◌}
use mathlib.Core.Bool.{Bool, true, false, cond}
use mathlib.Core.List.{List, [], ◌∷◌}
use native.Mathlib.Omega.{arith}
use lib.Dec.{eqb}
use Rattle.std.specs.Prelude.{Option, None, Some, unwrap_or, option_map}
use denote.Ref.{Bor}
use Rattle.std.specs.List.{slice_split, onto_first, slice_get, count_by}
use Rattle.std.proofs.lemmas.List.Recursion.{is_count_by}
use native.Mathlib.Nat.{zero-add}
use lib.ListN.{length, get_or}
use borrow.Author.Tests.{lt-ltb, le-ltb, eq-eqb, ne_eqb}
use Rattle.words.specs.Words.{part_of, word_at, occurrences}
use Rattle.words.specs.declared.Verb.{Verb}
use Rattle.words.specs.declared.Verb.TheVariants.{Silent, Overlong, Unknown, NoToken, Personalise, Reset, Send, Want, Read, Body, State}
use Rattle.words.specs.Verbs.{longest_line, if_held, named_by, spoken_of, verb_of}

-- how often a byte stands, in the library's words
pub occurrences_by : (b : ℕ) (s : List ℕ) → occurrences b s ≡ count_by (λ c. eqb c b) s
occurrences_by b = is_count_by (occurrences b) (λ c. eqb c b) refl (λ c s. go (eqb c b) (occurrences b s))
  where
    go : (t : Bool) (n : ℕ) → cond t 1 0 + n ≡ cond t (1 + n) n
    go true n = refl
    go false n = zero-add n

-- ---- the parts, in the library's words

part_none : (b k : ℕ) → part_of b k [] ≡ []
part_none b zero = refl
part_none b (suc k) = part_none b k

first-onto : (c : ℕ) (l : List (List ℕ)) → unwrap_or (slice_get (onto_first c l) 0) [] ≡ c ∷ unwrap_or (slice_get l 0) []
first-onto c [] = refl
first-onto c (x ∷ l) = refl

later-onto : (c k : ℕ) (l : List (List ℕ)) → slice_get (onto_first c l) (suc k) ≡ slice_get l (suc k)
later-onto c k [] = refl
later-onto c k (x ∷ l) = refl

pub part_is : (b k : ℕ) (s : List ℕ) → part_of b k s ≡ unwrap_or (slice_get (slice_split (λ c. eqb c b) s) k) []
part_is b zero [] = refl
part_is b (suc k) [] = part_none b k
part_is b zero (c ∷ s) = go (part_is b zero s) (eqb c b) refl
  where
    go : part_of b 0 s ≡ unwrap_or (slice_get (slice_split (λ d. eqb d b) s) 0) [] → (t : Bool) → eqb c b ≡ t → part_of b 0 (c ∷ s) ≡ unwrap_or (slice_get (slice_split (λ d. eqb d b) (c ∷ s)) 0) []
    go h true q = rw q
    go h false q = rw q (ap (λ (l : List ℕ). c ∷ l) h ∙ sym (first-onto c (slice_split (λ d. eqb d b) s)))
part_is b (suc k) (c ∷ s) = go (part_is b k s) (part_is b (suc k) s) (eqb c b) refl
  where
    go : part_of b k s ≡ unwrap_or (slice_get (slice_split (λ d. eqb d b) s) k) [] → part_of b (suc k) s ≡ unwrap_or (slice_get (slice_split (λ d. eqb d b) s) (suc k)) []
        → (t : Bool) → eqb c b ≡ t → part_of b (suc k) (c ∷ s) ≡ unwrap_or (slice_get (slice_split (λ d. eqb d b) (c ∷ s)) (suc k)) []
    go h g true q = rw q h
    go h g false q = rw q (g ∙ ap (λ (o : Option (List ℕ)). unwrap_or o []) (sym (later-onto c k (slice_split (λ d. eqb d b) s))))

-- what is asked of what is lent is asked of what it shows
pub shown : (r : Option (Bor (List ℕ))) (x : Bor (List ℕ)) (o : Option (List ℕ)) → option_map (λ y. y.now) r ≡ o → (unwrap_or r x).now ≡ unwrap_or o x.now
shown None x o e = rw (← e)
shown (Some y) x o e = rw (← e)

-- a token that is held changes nothing
pub held_stays : (held : Bool) (v : Verb) → held ≡ true → v ≡ if_held held v
held_stays held Silent e = refl
held_stays held Overlong e = refl
held_stays held Unknown e = refl
held_stays held NoToken e = refl
held_stays held Personalise e = refl
held_stays held Body e = refl
held_stays held Reset e = rw e
held_stays held Send e = rw e
held_stays held Want e = rw e
held_stays held Read e = rw e
held_stays held State e = rw e

-- ---- what a line is

module _ (s : List ℕ) (held : Bool) where
  pub verb-long : longest_line < length s → Overlong ≡ verb_of s held
  unfolding verb_of
  verb-long h = rw (lt-ltb longest_line (length s) h)

  module _ (h : length s ≤ longest_line) where
    spoken : verb_of s held ≡ spoken_of s held
    unfolding verb_of
    spoken = rw (le-ltb longest_line (length s) h)

    pub verb-empty : length s ≡ 0 → Silent ≡ verb_of s held
    verb-empty e = sym (spoken ∙ go s e)
      where
        go : (l : List ℕ) → length l ≡ 0 → spoken_of l held ≡ Silent
        go [] e = refl
        go (c ∷ l) e = absurd (let z : suc (length l) ≡ 0 = e in omega arith)

    module _ (n : length s ≡ 0 → ⊥) where
      pub verb-comment : get_or s 0 0 ≡ 0x23 → Silent ≡ verb_of s held
      verb-comment e = sym (spoken ∙ go s n e)
        where
          go : (l : List ℕ) → (length l ≡ 0 → ⊥) → get_or l 0 0 ≡ 0x23 → spoken_of l held ≡ Silent
          go [] n e = absurd (n refl)
          go (c ∷ l) n e = rw (eq-eqb c 0x23 e)

      pub verb-named : (w : List ℕ) (v : Verb) → (get_or s 0 0 ≡ 0x23 → ⊥) → w ≡ word_at 0 s → v ≡ named_by w held → v ≡ verb_of s held
      verb-named w v e f g = g ∙ ap (λ (x : List ℕ). named_by x held) f ∙ sym (spoken ∙ go s n e)
        where
          go : (l : List ℕ) → (length l ≡ 0 → ⊥) → (get_or l 0 0 ≡ 0x23 → ⊥) → spoken_of l held ≡ named_by (word_at 0 l) held
          go [] n e = absurd (n refl)
          go (c ∷ l) n e = rw (ne_eqb c 0x23 e)
