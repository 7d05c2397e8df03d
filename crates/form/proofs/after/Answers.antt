-- `form::after` meets its contract.
use Rattle.form.proofs.Forms.{forms}
use Rattle.form.proofs.after.Goals as goal

pub returns-in_default-empty : goal.returns-in_default-empty
returns-in_default-empty c = search forms

pub returns-in-Short-len1 : goal.returns-in-Short-len1
returns-in-Short-len1 c = search forms

pub returns-in-Extended-len2 : goal.returns-in-Extended-len2
returns-in-Extended-len2 c = search forms

pub returns-in_default : goal.returns-in_default
returns-in_default c = search forms

pub returns-in_default-2 : goal.returns-in_default-2
returns-in_default-2 c = search forms

pub returns-in_default-3 : goal.returns-in_default-3
returns-in_default-3 c = search forms
