-- `bodies::Cursor::take` meets its contract.
use Rattle.std.proofs.Common.{refl, sym, ◌∙◌, rules}
use Rattle.laws.proofs.Lists.{from}
use Rattle.objects.proofs.Sizes.{found-sizes}
use Rattle.bodies.proofs.Links.{took-none}
use Rattle.bodies.proofs.Cursor.take.Goals as goal

pub returns-in_err-start : goal.returns-in_err-start
returns-in_err-start c = took-none _ _ _ _ c.from_residual.ensures.0 (sym c.find.ensures ∙ c.in_err-start.ensures.ok_part)

pub returns : goal.returns
returns c =
    let here = sym c.find.ensures ∙ c.in_ok-start.ensures.ok_part in
    let sizes = found-sizes c.args.tag c.args.nests c.args.self.left.now c.in_ok-start.field-0 here in
    record {
      inside = c.in_ok-start.field-0;
      here = here;
      sizes = (sizes.1, sizes.2);
      content = refl;
      place = refl;
      left = from c.args.self.left.now c.in_ok-start.field-0.end;
      stop = refl;
      used = refl;
    }

pub slice_bounds-result-count : goal.slice_bounds-result-count
slice_bounds-result-count c =
    let sizes = found-sizes c.args.tag c.args.nests c.args.self.left.now c.in_ok-start.field-0 (sym c.find.ensures ∙ c.in_ok-start.ensures.ok_part) in
    search rules

pub slice_bounds-result-start : goal.slice_bounds-result-start
slice_bounds-result-start c =
    let sizes = found-sizes c.args.tag c.args.nests c.args.self.left.now c.in_ok-start.field-0 (sym c.find.ensures ∙ c.in_ok-start.ensures.ok_part) in
    search rules

pub slice_bounds-result-end : goal.slice_bounds-result-end
slice_bounds-result-end c =
    let sizes = found-sizes c.args.tag c.args.nests c.args.self.left.now c.in_ok-start.field-0 (sym c.find.ensures ∙ c.in_ok-start.ensures.ok_part) in
    search rules

pub overflow_add-result : goal.overflow_add-result
overflow_add-result c =
    let sizes = found-sizes c.args.tag c.args.nests c.args.self.left.now c.in_ok-start.field-0 (sym c.find.ensures ∙ c.in_ok-start.ensures.ok_part) in
    search rules

pub slice_bounds-result-count-2 : goal.slice_bounds-result-count-2
slice_bounds-result-count-2 c =
    let sizes = found-sizes c.args.tag c.args.nests c.args.self.left.now c.in_ok-start.field-0 (sym c.find.ensures ∙ c.in_ok-start.ensures.ok_part) in
    search rules

pub slice_bounds-result-start-2 : goal.slice_bounds-result-start-2
slice_bounds-result-start-2 c =
    let sizes = found-sizes c.args.tag c.args.nests c.args.self.left.now c.in_ok-start.field-0 (sym c.find.ensures ∙ c.in_ok-start.ensures.ok_part) in
    search rules
