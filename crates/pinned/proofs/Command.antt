-- Two permitted outcomes of each public function of `form` and `command` are equal. Assumes nothing.
use Rattle.std.specs.Prelude.{Option, Result}
use Prim.Native.Nat.{ℕ}
use mathlib.Core.List.{List}
use Rattle.laws.proofs.Pinned.{Pinned, pinned}
use Rattle.form.specs.Form.{pair_of, form_of}
use Rattle.form.specs.declared.Form.{Form}
use Rattle.command.specs.Shape.{shape_of}
use Rattle.command.specs.declared.Command.{Command}
use Rattle.command.specs.declared.Fault.{Fault}

pub form-pinned : (s : List ℕ) → Pinned (Option Form) (form_of s)
form-pinned s = pinned _

pub pair-pinned : (a b : ℕ) → Pinned ℕ (pair_of a b)
pair-pinned a b = pinned _

pub shape-pinned : (s : List ℕ) → Pinned (Result Command Fault) (shape_of s)
shape-pinned s = pinned _
