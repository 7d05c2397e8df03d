-- Bytes written over a part of a list. Assumes nothing: these are definitions.
use Rattle.std.specs.Prelude.{ℕ, ◌+◌, ◌≡◌, List, ◌++◌, length, take, drop}

-- `over at s l` is l with s written from the place at
unfoldable pub over : (at : ℕ) (s l : List ℕ) → List ℕ
over at s l = take at l ++ (s ++ drop (at + length s) l)

-- a buffer that was `before` is now `after`, with s at the place `at`; the place after s is `next`
abbrev pub Put : (at : ℕ) (s before after : List ℕ) (next : ℕ) → Type 0
Put at s before after next = (next ≡ at + length s) × (after ≡ over at s before)

-- the same "from the buffer's start; the rest stays": `size` is the length of s
abbrev pub Written : (s before after : List ℕ) (size : ℕ) → Type 0
Written s before after size = (size ≡ length s) × (after ≡ s ++ drop (length s) before)
