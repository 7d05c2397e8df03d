-- The part that `split` gives as the one of that number, or nothing.
use Rattle.std.proofs.Common.{rules, eqb, sym, ◌∙◌, ap}
use Rattle.std.proofs.lemmas.Iterator.Consumers.{nth_from_yields_List}
use Rattle.std.proofs.lemmas.Iterator.Splits.{YieldsList-from_slice_split}
use Rattle.words.proofs.Words.{part_is, shown}
use Rattle.words.proofs.part.Goals as goal
use borrow.Author.Tests.{tests}

pub returns : goal.returns
returns c =
    let r = nth_from_yields_List c.nth.result _ c.args.k c.nth.ensures.ran (YieldsList-from_slice_split _ (λ x. eqb x c.args.b) c.args.s.now c.split.ensures.rest c.split.ensures.done c.split.ensures.closure (λ x b q k. search (rules, tests))) in
    ap (λ x. x.now) c.unwrap_or.ensures ∙ shown c.nth.result _ _ r ∙ sym (part_is c.args.b c.args.k c.args.s.now)
