-- `form::form_of` meets its contract.
use Rattle.form.proofs.Forms.{forms}
use Rattle.form.proofs.form_of.Goals as goal

pub returns-in-len4-up : goal.returns-in-len4-up
returns-in-len4-up c = search forms

pub returns-in_default : goal.returns-in_default
returns-in_default c = search forms

pub returns-in_default-2 : goal.returns-in_default-2
returns-in_default-2 c = search forms
