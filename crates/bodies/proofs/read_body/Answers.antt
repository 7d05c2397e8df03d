-- `bodies::read_body` meets its contract: the chain starts in the content of 7F4E.
use Rattle.std.proofs.Common.{refl, sym, ◌∙◌, rules}
use Rattle.objects.proofs.Sizes.{found-sizes}
use Rattle.bodies.proofs.Links.{body-missing, body_more, body-on, err-unread}
use Rattle.bodies.proofs.read_body.Goals as goal

pub returns-in_err-start : goal.returns-in_err-start
returns-in_err-start c = body-missing c.args.s.now _ c.find.ensures _ (err-unread _ c.from_residual.ensures.0) c.in_err-start.ensures.ok_part

pub returns-then-end-s : goal.returns-then-end-s
returns-then-end-s c = body_more c.args.s.now _ c.find.ensures _ _ c.in_ok-start.ensures.ok_part (err-unread _ refl) (search rules)

pub returns : goal.returns
returns c = body-on c.args.s.now _ c.find.ensures _ _ c.in_ok-start.ensures.ok_part (search rules) c.from_version.ensures

pub slice_bounds-from_version-count : goal.slice_bounds-from_version-count
slice_bounds-from_version-count c =
    let sizes = found-sizes _ _ c.args.s.now c.in_ok-start.field-0 (sym c.find.ensures ∙ c.in_ok-start.ensures.ok_part) in
    search rules

pub slice_bounds-from_version-start : goal.slice_bounds-from_version-start
slice_bounds-from_version-start c =
    let sizes = found-sizes _ _ c.args.s.now c.in_ok-start.field-0 (sym c.find.ensures ∙ c.in_ok-start.ensures.ok_part) in
    search rules
