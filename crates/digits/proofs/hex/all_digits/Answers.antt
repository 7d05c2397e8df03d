-- Each byte is a digit exactly where the definition says so.
use Rattle.std.proofs.Common.{rules, ◌∙◌}
use Rattle.std.proofs.lemmas.Iterator.{YieldsList-from_slice}
use Rattle.std.proofs.lemmas.Iterator.Search.{all_from_yields_List}
use Rattle.digits.specs.Digits.{is_digit}
use Rattle.digits.proofs.Digits.{all_is}
use Rattle.digits.proofs.hex.all_digits.Goals as goal
use borrow.Author.Tests.{tests}

pub returns : goal.returns
returns c =
    all_from_yields_List (λ x. is_digit 16 x) _ _ c.all.result c.all.ensures.ran (YieldsList-from_slice c.args.s.now (cc)) (λ x b q k. search (rules, tests))
    ∙ all_is 16 c.args.s.now
