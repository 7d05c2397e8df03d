-- Any two outcomes of the functions of `text`, `digits` and `words` that their contracts permit are equal. Assumes nothing.
use Rattle.std.specs.Prelude.{Option}
use Prim.Native.Nat.{ℕ, ◌+◌, min}
use mathlib.Core.Bool.{Bool}
use mathlib.Core.Path.{◌≡◌}
use mathlib.Core.List.{List}
use lib.ListN.{length, take}
use Rattle.laws.proofs.Pinned.{Pinned, pinned}
use Rattle.buffers.specs.Lay.{Put, over}
use Rattle.buffers.specs.Room.{fitting}
use Rattle.pinned.proofs.Buffers.{put-pinned}
use Rattle.text.specs.Find.{place_of}
use Rattle.digits.specs.Digits.{base_of, digits, decimal, number_of}
use Rattle.digits.specs.Hex.{hex_of, hex_read, hex_laid}
use Rattle.digits.specs.declared.number.Radix.{Radix}
use Rattle.words.specs.Words.{part_of, word_at, occurrences}
use Rattle.words.specs.Verbs.{verb_of, act_of}
use Rattle.words.specs.declared.Verb.{Verb}
use Rattle.words.specs.declared.Act.{Act}

pub find-pinned : (s : List ℕ) (from b : ℕ) → Pinned ℕ (place_of s from b)
find-pinned s from b = pinned _

pub past-pinned : (at n : ℕ) → Pinned ℕ (min (at + 1) n)
past-pinned at n = pinned _

pub front-pinned : (s : List ℕ) (n : ℕ) → Pinned (List ℕ) (take n s)
front-pinned s n = pinned _

pub put-hex-pinned : (at : ℕ) (s out : List ℕ) (r q : ℕ) (o p : List ℕ) → Put at (fitting at (hex_of s) out) out o r → Put at (fitting at (hex_of s) out) out p q → (r ≡ q) × (o ≡ p)
put-hex-pinned at s out = put-pinned at (hex_of s) out

pub put-digits-pinned : (at n width : ℕ) (radix : Radix) (out : List ℕ) (r q : ℕ) (o p : List ℕ)
    → Put at (fitting at (digits (base_of radix) width n) out) out o r → Put at (fitting at (digits (base_of radix) width n) out) out p q → (r ≡ q) × (o ≡ p)
put-digits-pinned at n width radix out = put-pinned at (digits (base_of radix) width n) out

pub put-decimal-pinned : (at n : ℕ) (out : List ℕ) (r q : ℕ) (o p : List ℕ) → Put at (fitting at (decimal n) out) out o r → Put at (fitting at (decimal n) out) out p q → (r ≡ q) × (o ≡ p)
put-decimal-pinned at n out = put-pinned at (decimal n) out

pub read-hex-pinned : (s out : List ℕ) (r q : Option ℕ) (o p : List ℕ)
    → (r ≡ hex_read (length out) s) × (o ≡ over 0 (hex_laid (length out) s) out)
    → (q ≡ hex_read (length out) s) × (p ≡ over 0 (hex_laid (length out) s) out)
    → (r ≡ q) × (o ≡ p)
read-hex-pinned s out r q o p a b = (pinned _ r q a.0 b.0, pinned _ o p a.1 b.1)

pub read-number-pinned : (s : List ℕ) (radix : Radix) → Pinned (Option ℕ) (number_of (base_of radix) s)
read-number-pinned s radix = pinned _

pub part-pinned : (s : List ℕ) (k b : ℕ) → Pinned (List ℕ) (part_of b k s)
part-pinned s k b = pinned _

pub word-pinned : (line : List ℕ) (k : ℕ) → Pinned (List ℕ) (word_at k line)
word-pinned line k = pinned _

pub count-pinned : (s : List ℕ) (b : ℕ) → Pinned ℕ (occurrences b s)
count-pinned s b = pinned _

pub verb-pinned : (line : List ℕ) (held : Bool) → Pinned Verb (verb_of line held)
verb-pinned line held = pinned _

pub act-pinned : (v : Verb) → Pinned Act (act_of v)
act-pinned v = pinned _
