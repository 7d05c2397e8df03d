-- `bodies::from_last` meets its contract: a link of the chain.
use Rattle.std.proofs.Common.{refl, sym, ap, not, ◌∙◌, ◌+◌}
use Rattle.objects.specs.Objects.{allowance}
use Rattle.days.specs.Days.{day_of}
use Rattle.bodies.specs.Body.{is_last_day, last_then, ext_then}
use Rattle.bodies.proofs.Links.{missing, unfit, flat-on, took-at, day-holds, in_order, no-day, err-unread}
use Rattle.bodies.proofs.from_last.Goals as goal

pub returns-in_err-object : goal.returns-in_err-object
unfolding last_then
returns-in_err-object c = missing _ _ _ _ c.args.at _ _ _ c.from_residual.ensures.0 c.in_err-object.ensures

pub returns-in_err-last : goal.returns-in_err-last
unfolding last_then
returns-in_err-last c =
    unfit _ _ _ _ c.args.at _ _ _ _ c.in_ok-object.ensures (no-day _ _ (sym c.day_of.ensures ∙ c.in_err-last.ensures.ok_part)) (err-unread _ c.from_residual-in_err-last.ensures.0)

pub returns-then-before : goal.returns-then-before
unfolding last_then
returns-then-before c =
    unfit _ _ _ _ c.args.at _ _ _ _ c.in_ok-object.ensures
    (in_order c.args.body.certificate.first _ _ _ (sym c.day_of.ensures ∙ c.in_ok-last.ensures.ok_part) (sym c.before-2.ensures) ∙ ap not c.if-before.true) (err-unread _ refl)

pub from_ext-requires : goal.from_ext-requires
from_ext-requires c = took-at _ _ (allowance + 5) c.args.at _ c.in_ok-object.ensures c.requires

pub returns : goal.returns
unfolding last_then
returns c =
    let k = c.in_ok-object.ensures in
    let e = sym c.day_of.ensures ∙ c.in_ok-last.ensures.ok_part in
    let d = day-holds _ _ e in
    let b = c.args.body in
    c.from_ext.ensures
    ∙ rw (k.stop, d.1)
    (flat-on 0x5F24 c.args.at (is_last_day b.certificate.first) (λ c' e. ext_then c.args.at.stop b.issuer b.key b.certificate.name b.certificate.rights b.certificate.first (record { 0 = day_of c' })) _ k
    (in_order b.certificate.first _ _ _ e (sym c.before-2.ensures) ∙ ap not c.if-before.false))
