-- `bodies::from_key` meets its contract: a link of the chain.
use Rattle.std.proofs.Common.{arith, sym, ◌∙◌}
use Rattle.bodies.specs.Body.{is_public_key, place_of, key_then, own_then}
use Rattle.bodies.proofs.Links.{missing, nest-on, took-at, key-holds, key-off, err-unread}
use Rattle.bodies.proofs.from_key.Goals as goal

pub returns-in_err-object : goal.returns-in_err-object
unfolding key_then
returns-in_err-object c = missing _ _ _ _ c.args.at _ _ _ c.from_residual.ensures.0 c.in_err-object.ensures

pub returns-in_err-n : goal.returns-in_err-n
returns-in_err-n c = key-off c.args.at _ _ _ c.in_ok-object.ensures c.requires.1 (sym c.key_objects.ensures ∙ c.in_err-n.ensures.ok_part) (err-unread _ c.from_residual-in_err-n.ensures.0)

pub overflow_add-object : goal.overflow_add-object
overflow_add-object c =
    let k = key-holds _ _ _ (sym c.key_objects.ensures ∙ c.in_ok-n.ensures.ok_part) in
    record { fits = omega (arith, k.2, c.requires.1, c.in_ok-object.ensures.used) }

pub from_own-requires : goal.from_own-requires
from_own-requires c =
    let k = key-holds _ _ _ (sym c.key_objects.ensures ∙ c.in_ok-n.ensures.ok_part) in
    let t = took-at _ _ 4 c.args.at _ c.in_ok-object.ensures c.requires in
    (t.0, omega (arith, k.2, c.requires.1, c.in_ok-object.ensures.used))

pub returns : goal.returns
unfolding key_then
returns c =
    let k = c.in_ok-object.ensures in
    let n = key-holds _ _ _ (sym c.key_objects.ensures ∙ c.in_ok-n.ensures.ok_part) in
    c.from_own.ensures ∙ rw (k.stop, k.place) (nest-on 0x7F49 c.args.at is_public_key (λ c' e. own_then c.args.at.stop c.args.body.issuer (place_of c.args.at.stop c.args.at.left.now e)) _ _ k n.0 n.1)
