-- `bodies::from_issuer` meets its contract: a link of the chain.
use Rattle.std.proofs.Common.{◌∙◌}
use Rattle.names.specs.Names.{is_name, name_of}
use Rattle.bodies.specs.Body.{issuer_then, key_then}
use Rattle.bodies.proofs.Links.{missing, unfit, flat-on, took-at, name-holds, name-fails, err-unread}
use Rattle.bodies.proofs.from_issuer.Goals as goal

pub returns-in_err-object : goal.returns-in_err-object
unfolding issuer_then
returns-in_err-object c = missing _ _ _ _ c.args.at _ _ _ c.from_residual.ensures.0 c.in_err-object.ensures

pub returns-in_err-issuer : goal.returns-in_err-issuer
unfolding issuer_then
returns-in_err-issuer c = unfit _ _ _ _ c.args.at _ _ _ _ c.in_ok-object.ensures (name-fails _ _ c.in_err-issuer.ensures) (err-unread _ c.from_residual-in_err-issuer.ensures.0)

pub from_key-requires : goal.from_key-requires
from_key-requires c = took-at _ _ 3 c.args.at _ c.in_ok-object.ensures c.requires

pub returns : goal.returns
unfolding issuer_then
returns c =
    let k = c.in_ok-object.ensures in
    let n = name-holds _ _ c.in_ok-issuer.ensures in
    c.from_key.ensures ∙ rw (k.stop, n.1) (flat-on 0x42 c.args.at is_name (λ c' e. key_then c.args.at.stop (name_of c')) _ k n.0)
