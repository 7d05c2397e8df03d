-- A record: the personalisation and what came after it, each entry on the state that the last one left.
-- Assumes nothing: these are definitions.
use Rattle.std.specs.Prelude.{List, [], ◌∷◌}
use Rattle.status.specs.declared.Word.{Word}
use Rattle.token.specs.declared.state.Token.{Token}
use Rattle.token.specs.State.{reset_of}
use Rattle.token.specs.Step.{Exchange, step_of}
use Rattle.rule.specs.Facts.{Shown, AtReset, Prescribed}

pub data Entry : Type 0 where
  Reset : Entry
  Sent : Exchange → Entry

-- the word that demand 2's definition prescribes on a state
abbrev pub prescribed : Token → Exchange → Word
prescribed t x = (step_of t x).word

-- the state after an entry
unfoldable pub after : Token → Entry → Token
after t Reset = reset_of t
after t (Sent x) = (step_of t x).token

-- the state that a record leaves, oldest entry first
abbrev pub reached : Token → List Entry → Token
reached t [] = t
reached t (x ∷ rest) = reached (after t x) rest

-- what the rule is shown of an entry
abbrev pub shown_at : Token → Entry → Shown
shown_at t Reset = AtReset
shown_at t (Sent x) = Prescribed x.command x.second (prescribed t x)

-- the whole record as the rule is shown it, newest entry first
abbrev pub shown : Token → List Entry → List Shown → List Shown
shown t [] past = past
shown t (x ∷ rest) past = shown (after t x) rest (shown_at t x ∷ past)
