-- `form::data_then` meets its contract.
use Rattle.std.proofs.Common.{arith, ◌∙◌}
use Rattle.form.proofs.Forms.{data-in, data-out}
use Rattle.form.proofs.data_then.Goals as goal

pub returns-in_err-get : goal.returns-in_err-get
returns-in_err-get c = c.from_residual.ensures ∙ data-out c.args.lc c.args.s.now _ c.bytes.ensures (omega (arith, c.in_err-get.ensures))

pub returns : goal.returns
returns c =
    let k = c.in_ok-get.ensures in
    data-in c.args.s.now _ c.args.lc _ _ c.bytes.ensures (omega (arith, k)) k.lookup.0.2 c.after.ensures
