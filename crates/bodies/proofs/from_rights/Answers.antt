-- `bodies::from_rights` meets its contract: a link of the chain.
use Rattle.std.proofs.Common.{arith, sym, ◌∙◌, ◌+◌}
use Rattle.objects.specs.Objects.{allowance}
use Rattle.rights.specs.Rights.{is_rights, rights_of}
use Rattle.bodies.specs.Body.{rights_then, first_then}
use Rattle.bodies.proofs.Contents.{rights-count}
use Rattle.bodies.proofs.Links.{missing, unfit, nest-on, took-at, rights-hold, rights-fail, err-unread}
use Rattle.bodies.proofs.from_rights.Goals as goal

pub returns-in_err-object : goal.returns-in_err-object
unfolding rights_then
returns-in_err-object c = missing _ _ _ _ c.args.at _ _ _ c.from_residual.ensures.0 c.in_err-object.ensures

pub returns-in_err-rights : goal.returns-in_err-rights
unfolding rights_then
returns-in_err-rights c =
    unfit _ _ _ _ c.args.at _ _ _ _ c.in_ok-object.ensures (rights-fail _ (sym c.rights_of.ensures ∙ c.in_err-rights.ensures.ok_part)) (err-unread _ c.from_residual-in_err-rights.ensures.0)

pub from_first-requires : goal.from_first-requires
from_first-requires c =
    let t = took-at _ _ (allowance + 1) c.args.at _ c.in_ok-object.ensures c.requires in
    (t.0, omega (arith, t.1))

pub returns : goal.returns
unfolding rights_then
returns c =
    let k = c.in_ok-object.ensures in
    let r = rights-hold _ _ (sym c.rights_of.ensures ∙ c.in_ok-rights.ensures.ok_part) in
    c.from_first.ensures
    ∙ rw (k.stop, r.1)
    (nest-on 0x7F4C c.args.at is_rights (λ c' e. first_then c.args.at.stop c.args.body.issuer c.args.body.key c.args.body.certificate.name (record { 0 = rights_of c' })) _ 2 k r.0 (rights-count 5 _ r.0))
