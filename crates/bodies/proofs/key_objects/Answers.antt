-- `bodies::key_objects` meets its contract.
use Rattle.std.proofs.Common.{◌∙◌}
use Rattle.bodies.proofs.Contents.{key-other, key-refused, key-read}
use Rattle.bodies.proofs.key_objects.Goals as goal

pub returns-in_err-rest : goal.returns-in_err-rest
returns-in_err-rest c = c.from_residual.ensures ∙ key-other c.args.left c.args.s.now c.in_err-rest.ensures.cases

pub returns-in_err-n : goal.returns-in_err-n
returns-in_err-n c =
    let k = c.in_ok-rest.ensures.cases in
    c.from_residual-in_err-n.ensures ∙ key-refused c.args.left c.args.s.now c.requires.0 k.0 _ k.1 c.read_list.ensures c.in_err-n.was

pub returns : goal.returns
returns c =
    let k = c.in_ok-rest.ensures.cases in
    key-read c.args.left c.args.s.now c.requires.0 k.0 _ k.1 c.read_list.ensures _ c.in_ok-n.was
