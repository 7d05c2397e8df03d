-- `form::after_header` meets its contract.
use Rattle.form.proofs.Forms.{forms}
use Rattle.form.proofs.after_header.Goals as goal

pub returns-in-empty : goal.returns-in-empty
returns-in-empty c = search forms

pub returns-in-len1 : goal.returns-in-len1
returns-in-len1 c = search forms

pub returns-in-0 : goal.returns-in-0
returns-in-0 c = search forms

pub returns-in-len1-up : goal.returns-in-len1-up
returns-in-len1-up c = search forms
