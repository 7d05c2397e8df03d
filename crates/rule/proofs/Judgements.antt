-- The rule alone, computed on facts made by hand. Assumes nothing.
use mathlib.Core.Path.{refl}
use Rattle.strings.specs.Bytes.{copied_into}
use Rattle.names.specs.Names.{name_of, no_name, same_name}
use Rattle.keys.specs.Keys.{key_of, no_key, key_is}
use Rattle.rights.specs.Rights.{role_of}
use Rattle.rule.specs.Rule.{readable}
use Rattle.rule.specs.Judged.{AllJudged}

pub all-judged : AllJudged
unfolding readable same_name name_of no_name copied_into key_of no_key key_is role_of
all-judged = (
  (refl, refl, refl, refl, refl, refl, refl, refl, refl, refl, refl, refl),
  (refl, refl, refl, refl, refl, refl, refl, refl, refl, refl, refl, refl, refl, refl, refl, refl, refl),
  (refl, refl, refl, refl, refl, refl, refl),
  (refl, refl, refl, refl, refl, refl, refl),
  (refl, refl, refl, refl, refl, refl, refl, refl, refl, refl),
  (refl, refl, refl, refl, refl, refl, refl),
)
