-- Prove terminal: "1 to 256 bytes"; change PIN: "six bytes 30..39". Assumes nothing: these are definitions.
use Rattle.std.specs.Prelude.{ℕ, List, cond, ◌&&◌, length, eqb, Option, Some, None}
use Rattle.strings.specs.Bytes.{all_of}
use Rattle.strings.specs.declared.Class.TheVariants.{Numeral}
use Rattle.bodies.specs.Body.{is_signature}
use Rattle.fields.specs.declared.asked.Ask.{Ask}
use Rattle.fields.specs.declared.asked.Ask.TheVariants.{Prove, ChangePin}

-- a proof is as long as a signature, 1 to 256 bytes
unfoldable pub proof_of : List ℕ → Option Ask
proof_of s = cond (is_signature s) (Some Prove) None

-- six bytes 30..39
unfoldable pub pin_of : List ℕ → Option Ask
pin_of s = cond (eqb (length s) 6 && all_of Numeral s) (Some ChangePin) None
