-- `bodies::from_version` meets its contract: a link of the chain.
use Rattle.std.proofs.Common.{arith, refl, ◌∙◌}
use Rattle.bodies.specs.Body.{version_then, issuer_then}
use Rattle.bodies.proofs.Links.{missing, unfit, flat-on, took-at, zero-is, zeros, err-unread}
use Rattle.bodies.proofs.from_version.Goals as goal

pub returns-in_err-object : goal.returns-in_err-object
unfolding version_then
returns-in_err-object c = missing _ _ _ _ c.args.at _ _ _ c.from_residual.ensures.0 c.in_err-object.ensures

pub from_issuer-requires : goal.from_issuer-requires
from_issuer-requires c = took-at _ _ 2 c.args.at _ c.in_ok-object.ensures c.requires

pub returns : goal.returns
unfolding version_then
returns c =
    let k = c.in_ok-object.ensures in
    c.from_issuer.ensures ∙ rw k.stop (flat-on 0x5F29 c.args.at _ (λ c' e. issuer_then c.args.at.stop) _ k (zero-is c.in_ok-object.object.content.now (omega arith) (omega arith)))

pub returns-in_default : goal.returns-in_default
unfolding version_then
returns-in_default c = unfit _ _ _ _ c.args.at _ _ _ _ c.in_ok-object.ensures (search zeros) (err-unread _ refl)

pub returns-in_default-2 : goal.returns-in_default-2
unfolding version_then
returns-in_default-2 c = unfit _ _ _ _ c.args.at _ _ _ _ c.in_ok-object.ensures (search zeros) (err-unread _ refl)

pub returns-in_default-3 : goal.returns-in_default-3
unfolding version_then
returns-in_default-3 c = unfit _ _ _ _ c.args.at _ _ _ _ c.in_ok-object.ensures (search zeros) (err-unread _ refl)
