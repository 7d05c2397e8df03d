-- The position where the closure's test holds first, or the length.
use Rattle.std.proofs.Common.{rules, eqb, ◌∙◌}
use Rattle.std.proofs.lemmas.Iterator.{YieldsList-from_slice}
use Rattle.std.proofs.lemmas.Iterator.Search.{position_from_yields_List}
use Rattle.text.proofs.Finding.{position_is}
use Rattle.text.proofs.before.Goals as goal
use borrow.Author.Tests.{tests}

pub returns : goal.returns
returns c =
    let r = position_from_yields_List (λ x. eqb x c.args.b) _ _ c.position.result c.position.ensures.ran (YieldsList-from_slice c.args.s.now (cc)) (λ x b q k. search (rules, tests)) in
    c.unwrap_or.ensures ∙ position_is c.args.b c.args.s.now c.position.result r
