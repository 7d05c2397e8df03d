-- `bodies::from_first` meets its contract: a link of the chain.
use Rattle.std.proofs.Common.{sym, ◌∙◌, ◌+◌}
use Rattle.objects.specs.Objects.{allowance}
use Rattle.days.specs.Days.{is_date, day_of}
use Rattle.bodies.specs.Body.{first_then, last_then}
use Rattle.bodies.proofs.Links.{missing, unfit, flat-on, took-at, day-holds, day-fails, err-unread}
use Rattle.bodies.proofs.from_first.Goals as goal

pub returns-in_err-object : goal.returns-in_err-object
unfolding first_then
returns-in_err-object c = missing _ _ _ _ c.args.at _ _ _ c.from_residual.ensures.0 c.in_err-object.ensures

pub returns-in_err-first : goal.returns-in_err-first
unfolding first_then
returns-in_err-first c =
    unfit _ _ _ _ c.args.at _ _ _ _ c.in_ok-object.ensures (day-fails _ (sym c.day_of.ensures ∙ c.in_err-first.ensures.ok_part)) (err-unread _ c.from_residual-in_err-first.ensures.0)

pub from_last-requires : goal.from_last-requires
from_last-requires c = took-at _ _ (allowance + 4) c.args.at _ c.in_ok-object.ensures c.requires

pub returns : goal.returns
unfolding first_then
returns c =
    let k = c.in_ok-object.ensures in
    let d = day-holds _ _ (sym c.day_of.ensures ∙ c.in_ok-first.ensures.ok_part) in
    let b = c.args.body in
    c.from_last.ensures
    ∙ rw (k.stop, d.1) (flat-on 0x5F25 c.args.at is_date (λ c' e. last_then c.args.at.stop b.issuer b.key b.certificate.name b.certificate.rights (record { 0 = day_of c' })) _ k d.0)
