-- "command form; CLA ..; INS; P1-P2; presence of data and Le", in this order. Assumes nothing: these are definitions.
use Rattle.std.specs.Prelude.{ℕ, cond, not, List, eqb, ltb, get_or, Option, Some, None, Result, Ok, Err}
use Rattle.form.specs.declared.Form.{Form}
use Rattle.command.specs.declared.kind.Kind.{Kind}
use Rattle.command.specs.declared.Fault.{Fault}
use Rattle.command.specs.declared.Fault.TheVariants.{Form as FormFault, Class, Presence}
use Rattle.command.specs.declared.Command.{Command}
use Rattle.form.specs.Form.{form_of}
use Rattle.command.specs.Kind.{class_fits, kind_of, present, wants_of}

-- a command, or what is wrong with it
abbrev pub Shape : Type 0
Shape = Result Command Fault

-- INS; P1-P2; presence of data (from a up to e) and Le
abbrev pub looked_up : Result Kind Fault → (cla a e : ℕ) → Option ℕ → Shape
looked_up (Err f) cla a e le = Err f
looked_up (Ok k) cla a e le = cond (present (wants_of k) (ltb a e) le) (Ok (record { kind = k; chained = eqb cla 0x10; start = a; end = e })) (Err Presence)

-- CLA
unfoldable pub headed_of : (cla ins p1 p2 a e : ℕ) → Option ℕ → Shape
headed_of cla ins p1 p2 a e le = cond (not (class_fits cla ins)) (Err Class) (looked_up (kind_of ins p1 p2) cla a e le)

-- a form has the four header bytes
abbrev pub formed : Option Form → List ℕ → Shape
formed None s = Err FormFault
formed (Some f) s = headed_of (get_or s 0 0) (get_or s 1 0) (get_or s 2 0) (get_or s 3 0) f.start f.end f.le

unfoldable pub shape_of : List ℕ → Shape
shape_of s = formed (form_of s) s
