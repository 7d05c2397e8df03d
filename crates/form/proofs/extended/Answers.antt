-- `form::extended` meets its contract.
use Rattle.form.proofs.Forms.{forms}
use Rattle.form.proofs.extended.Goals as goal

pub returns-in_default : goal.returns-in_default
returns-in_default c = search forms

pub returns-in_default-empty : goal.returns-in_default-empty
returns-in_default-empty c = search forms

pub returns-in-0-default : goal.returns-in-0-default
returns-in-0-default c = search forms

pub returns-in_default-2 : goal.returns-in_default-2
returns-in_default-2 c = search forms
