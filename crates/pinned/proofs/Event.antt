-- Two permitted outcomes of each public function are equal. Assumes nothing.
use Rattle.std.specs.Prelude.{Option, Result}
use Prim.Native.Nat.{ℕ}
use Rattle.laws.proofs.Pinned.{Pinned, pinned}
use Rattle.status.specs.Words.{word_at, word_read}
use Rattle.status.specs.declared.Word.{Word}
use Rattle.event.specs.Event.{refusal_word, loss_word, word_of}
use Rattle.event.specs.declared.Refusal.{Refusal}
use Rattle.event.specs.declared.Loss.{Loss}
use Rattle.event.specs.declared.Event.{Event}
use Rattle.status.specs.declared.UnknownWord.{UnknownWord}

pub refusal-word-pinned : (r : Refusal) → Pinned Word (refusal_word r)
refusal-word-pinned r = pinned _

pub loss-word-pinned : (l : Loss) → Pinned Word (loss_word l)
loss-word-pinned l = pinned _

pub word-pinned : (e : Event) → Pinned Word (word_of e)
word-pinned e = pinned _

pub word-of-pinned : (n : ℕ) → Pinned (Option Word) (word_at n)
word-of-pinned n = pinned _

pub word-read-pinned : (n : ℕ) → Pinned (Result Word UnknownWord) (word_read n)
word-read-pinned n = pinned _
