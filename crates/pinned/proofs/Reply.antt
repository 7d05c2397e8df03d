-- Any two outcomes of `reply` that its contract permits are equal. Assumes nothing.
use Prim.Native.Nat.{ℕ}
use mathlib.Core.Path.{◌≡◌}
use mathlib.Core.List.{List}
use lib.ListN.{length}
use Rattle.laws.proofs.Pinned.{pinned}
use Rattle.names.specs.declared.Listed.{Listed}
use Rattle.reply.specs.declared.Layout.{Layout}
use Rattle.buffers.specs.Lay.{Written}
use Rattle.reply.specs.Reply.{reply_of}

pub reply-pinned : (layout : Layout) (word : ℕ) (first out : List ℕ) (listed : Listed) (r q : ℕ) (o p : List ℕ)
    → Written (reply_of (length out) layout word first listed) out o r
    → Written (reply_of (length out) layout word first listed) out p q
    → (r ≡ q) × (o ≡ p)
reply-pinned layout word first out listed r q o p a b = (pinned _ r q a.0 b.0, pinned _ o p a.1 b.1)
