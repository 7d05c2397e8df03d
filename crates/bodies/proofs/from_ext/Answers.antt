-- `bodies::from_ext` meets its contract: a link of the chain.
use Rattle.std.proofs.Common.{arith, refl, sym, ◌∙◌, rules}
use Rattle.bodies.proofs.Links.{over, ext-none, ext-missing, ext-more, ext-refused, ext-on, err-unread}
use Rattle.bodies.proofs.from_ext.Goals as goal

pub returns-then-at-gt-ALLOWANCE : goal.returns-then-at-gt-ALLOWANCE
returns-then-at-gt-ALLOWANCE c = over _ _ _ _ c.if-at-gt-ALLOWANCE.true (err-unread _ refl)

pub returns-then-is_empty : goal.returns-then-is_empty
returns-then-is_empty c = ext-none c.args.at _ _ _ _ _ _ _ (search rules) c.whole.ensures

pub returns-in_err-object : goal.returns-in_err-object
returns-in_err-object c = ext-missing c.args.at _ _ _ _ _ _ _ (search rules) c.from_residual.ensures.0 c.in_err-object.ensures

pub returns-in_err-n : goal.returns-in_err-n
returns-in_err-n c = ext-refused c.args.at _ _ _ _ _ _ _ (search rules) _ c.in_ok-object.ensures (err-unread _ c.from_residual-in_err-n.ensures.0) (omega arith) (sym c.read_list.ensures ∙ c.in_err-n.ensures.ok_part)

pub returns : goal.returns
returns c = ext-on c.args.at _ _ _ _ _ _ _ (search rules) _ c.in_ok-object.ensures _ (omega arith) (sym c.read_list.ensures ∙ c.in_ok-n.ensures.ok_part) (search rules) c.whole-2.ensures

pub returns-then-not-is_empty : goal.returns-then-not-is_empty
returns-then-not-is_empty c = ext-more c.args.at _ _ _ _ _ _ _ (search rules) _ c.in_ok-object.ensures (err-unread _ refl) (search rules)
