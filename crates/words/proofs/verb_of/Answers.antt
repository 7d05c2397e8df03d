-- Too long, empty, a comment, or by its first word.
use Rattle.std.proofs.Common.{arith, rules}
use Rattle.words.proofs.Words.{verb-long, verb-empty, verb-comment, verb-named}
use Rattle.words.proofs.verb_of.Goals as goal

pub returns-then-line-gt-LINE : goal.returns-then-line-gt-LINE
returns-then-line-gt-LINE c = verb-long _ _ c.if-line-gt-LINE.true

pub returns-in-empty : goal.returns-in-empty
returns-in-empty c = verb-empty _ _ c.if-line-gt-LINE.false (omega arith)

pub returns-in-35 : goal.returns-in-35
returns-in-35 c = verb-comment _ _ c.if-line-gt-LINE.false (λ e. omega arith) (search rules)

pub returns-in_default : goal.returns-in_default
returns-in_default c = verb-named _ _ c.if-line-gt-LINE.false (λ e. omega arith) _ _ (search rules) c.word.ensures c.named.ensures
