-- One step: what comes in, and what it leaves of the token, the word and the reply. Assumes nothing: these are definitions.
use Rattle.std.specs.Prelude.{ℕ, cond, ◌≡◌, List, [], length, take}
use Rattle.status.specs.declared.Word.{Word}
use Rattle.status.specs.declared.Word.TheVariants.{Outside}
use Rattle.event.specs.Event.{word_of}
use Rattle.plans.specs.declared.Note.{Note}
use Rattle.verdicts.specs.declared.Answered.{Answered}
use Rattle.verdicts.specs.declared.Happened.{Happened}
use Rattle.verdicts.specs.Verdicts.{decided_of}
use Rattle.buffers.specs.Lay.{Written}
use Rattle.reply.specs.Reply.{short}
use Rattle.answer.specs.Answer.{reply_to}
use Rattle.token.specs.declared.state.Token.{Token}
use Rattle.token.specs.Plan.{plan_of}
use Rattle.token.specs.After.{after_of}

-- "One step takes the token state, a command .., a protection note .., a crypto result and a lent reply buffer": all but the state. The
-- result has its two strings; of the buffer only the size counts
pub record Exchange : Type 0 where
  pub command : List ℕ
  pub note : Note
  pub result : Answered
  pub first : List ℕ
  pub second : List ℕ
  pub size : ℕ

abbrev pub exchange : (command : List ℕ) → Note → Answered → (first second : List ℕ) → (size : ℕ) → Exchange
exchange s note r first second size = record { command = s; note = note; result = r; first = first; second = second; size = size }

-- the token after it, its word and its reply
pub record Stepped : Type 0 where
  pub token : Token
  pub word : Word
  pub bytes : List ℕ

-- what happens
abbrev pub happened_of : Token → Exchange → Happened
happened_of t x = decided_of (plan_of t x.command x.note) x.result (length x.first) x.second

-- the token after it
abbrev pub next_of : Token → Happened → Token
next_of t h = after_of t h.event h.brought

abbrev pub ended_by : Token → Happened → Exchange → Stepped
ended_by t h x = record { token = next_of t h; word = word_of h.event; bytes = reply_to (next_of t h).points h.event (take h.answer x.first) x.size }

-- 6F00, "reply buffer under 258 bytes": "same; nothing written, length 0"; else plan, decide, after, reply
unfoldable pub step_of : Token → Exchange → Stepped
step_of t x = cond (short x.size) (record { token = t; word = Outside; bytes = [] }) (ended_by t (happened_of t x) x)

-- what a step does to a token and a buffer: "It gives the next state and the reply length", and the reply stands "from the buffer's
-- start; the rest stays"
pub record Steps (t : Token) (x : Exchange) (before after : List ℕ) (next : Token) (len : ℕ) : Type 0 where
  pub token : next ≡ (step_of t x).token
  pub reply : Written (step_of t x).bytes before after len
