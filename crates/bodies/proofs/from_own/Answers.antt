-- `bodies::from_own` meets its contract: a link of the chain.
use Rattle.std.proofs.Common.{◌∙◌}
use Rattle.objects.specs.Objects.{allowance}
use Rattle.names.specs.Names.{is_name, name_of}
use Rattle.bodies.specs.Body.{own_then, rights_then}
use Rattle.bodies.proofs.Links.{missing, unfit, flat-on, took-at, name-holds, name-fails, err-unread}
use Rattle.bodies.proofs.from_own.Goals as goal

pub returns-in_err-object : goal.returns-in_err-object
unfolding own_then
returns-in_err-object c = missing _ _ _ _ c.args.at _ _ _ c.from_residual.ensures.0 c.in_err-object.ensures

pub returns-in_err-name : goal.returns-in_err-name
unfolding own_then
returns-in_err-name c = unfit _ _ _ _ c.args.at _ _ _ _ c.in_ok-object.ensures (name-fails _ _ c.in_err-name.ensures) (err-unread _ c.from_residual-in_err-name.ensures.0)

pub from_rights-requires : goal.from_rights-requires
from_rights-requires c = took-at _ _ allowance c.args.at _ c.in_ok-object.ensures c.requires

pub returns : goal.returns
unfolding own_then
returns c =
    let k = c.in_ok-object.ensures in
    let n = name-holds _ _ c.in_ok-name.ensures in
    c.from_rights.ensures ∙ rw (k.stop, n.1) (flat-on 0x5F20 c.args.at is_name (λ c' e. rights_then c.args.at.stop c.args.body.issuer c.args.body.key (name_of c')) _ k n.0)
