-- `bodies::read_signed` meets its contract: the signature is tested, and the chain starts in the content of 7F4E.
use Rattle.std.proofs.Common.{refl, sym, ◌∙◌, rules}
use Rattle.objects.proofs.Sizes.{found-sizes}
use Rattle.bodies.proofs.Links.{signed-missing, signed-off, signed-on, err-unread}
use Rattle.bodies.proofs.read_signed.Goals as goal

pub returns-in_err-start : goal.returns-in_err-start
returns-in_err-start c = signed-missing c.args.s.now _ c.find.ensures _ (err-unread _ c.from_residual.ensures.0) c.in_err-start.ensures.ok_part

pub returns-then-not-signed : goal.returns-then-not-signed
returns-then-not-signed c = signed-off c.args.s.now _ c.find.ensures _ _ c.in_ok-start.ensures.ok_part _ c.signed.ensures (err-unread _ refl) (search rules)

pub returns : goal.returns
returns c = signed-on c.args.s.now _ c.find.ensures _ _ c.in_ok-start.ensures.ok_part _ c.signed.ensures (search rules) c.from_version.ensures

pub slice_bounds-signed-count : goal.slice_bounds-signed-count
slice_bounds-signed-count c =
    let sizes = found-sizes _ _ c.args.s.now c.in_ok-start.field-0 (sym c.find.ensures ∙ c.in_ok-start.ensures.ok_part) in
    search rules

pub slice_bounds-signed-start : goal.slice_bounds-signed-start
slice_bounds-signed-start c =
    let sizes = found-sizes _ _ c.args.s.now c.in_ok-start.field-0 (sym c.find.ensures ∙ c.in_ok-start.ensures.ok_part) in
    search rules

pub slice_bounds-from_version-count : goal.slice_bounds-from_version-count
slice_bounds-from_version-count c =
    let sizes = found-sizes _ _ c.args.s.now c.in_ok-start.field-0 (sym c.find.ensures ∙ c.in_ok-start.ensures.ok_part) in
    search rules

pub slice_bounds-from_version-start : goal.slice_bounds-from_version-start
slice_bounds-from_version-start c =
    let sizes = found-sizes _ _ c.args.s.now c.in_ok-start.field-0 (sym c.find.ensures ∙ c.in_ok-start.ensures.ok_part) in
    search rules

pub slice_bounds-from_version-end : goal.slice_bounds-from_version-end
slice_bounds-from_version-end c =
    let sizes = found-sizes _ _ c.args.s.now c.in_ok-start.field-0 (sym c.find.ensures ∙ c.in_ok-start.ensures.ok_part) in
    search rules
