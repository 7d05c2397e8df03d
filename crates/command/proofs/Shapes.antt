-- The data of a command lies in its bytes. Assumes nothing.
use Rattle.std.specs.Prelude.{Option, Some, None, Result, Ok, Err}
use Prim.Native.Nat.{ℕ, ◌≤◌}
use mathlib.Core.Bool.{not}
use mathlib.Core.Path.{◌≡◌, sym, subst, ◌∙◌}
use mathlib.Core.List.{List}
use native.Mathlib.Omega.{arith}
use lib.Dec.{ltb}
use lib.ListN.{length, get_or}
use Rattle.laws.proofs.Bools.{of-both}
use Rattle.form.specs.Form.{form_of}
use Rattle.form.specs.declared.Form.{Form}
use Rattle.form.proofs.Forms.{FormIn, form_in, form-sizes}
use Rattle.command.specs.Kind.{class_fits, kind_of, present, wants_of}
use Rattle.command.specs.Shape.{Shape, shape_of, headed_of, looked_up, formed}
use Rattle.command.specs.declared.Fault.{Fault}
use Rattle.command.specs.declared.Command.{Command}
use Rattle.command.specs.declared.kind.Kind.{Kind}

-- a form has the four header bytes
pub header_in : (s : List ℕ) (f : Form) → form_of s ≡ Some f → 4 ≤ length s
header_in s f e = let z = form-sizes (subst (FormIn (length s)) e (form_in s)) in omega (arith, z.0, z.1, z.2)

abbrev ShapeIn : ℕ → Shape → Type 0
ShapeIn n (Err f) = Unit {0}
ShapeIn n (Ok c) = (c.start ≤ c.end) × (c.end ≤ n)

headed-in : (n cla ins p1 p2 a e : ℕ) (le : Option ℕ) → a ≤ e → e ≤ n → ShapeIn n (headed_of cla ins p1 p2 a e le)
unfolding headed_of
headed-in n cla ins p1 p2 a e le p q = of-both (ShapeIn n) (not (class_fits cla ins)) tt (looked (kind_of ins p1 p2))
  where
    looked : (x : Result Kind Fault) → ShapeIn n (looked_up x cla a e le)
    looked (Err f) = tt
    looked (Ok k) = of-both (ShapeIn n) (present (wants_of k) (ltb a e) le) (p, q) tt

shape-in : (s : List ℕ) → ShapeIn (length s) (shape_of s)
unfolding shape_of
shape-in s = go (form_of s) (form_in s)
  where
    go : (f : Option Form) → FormIn (length s) f → ShapeIn (length s) (formed f s)
    go None h = tt
    go (Some f) h = let z = form-sizes h in headed-in (length s) (get_or s 0 0) (get_or s 1 0) (get_or s 2 0) (get_or s 3 0) f.start f.end f.le z.1 z.2

-- as a caller of `shape_of` asks it
module _ (s : List ℕ) (x : Shape) (c : Command) (h : x ≡ shape_of s) (g : x ≡ Ok c) where
  pub data-starts : c.start ≤ c.end
  data-starts = (subst (ShapeIn (length s)) (sym h ∙ g) (shape-in s)).0

  pub data-ends : c.end ≤ length s
  data-ends = (subst (ShapeIn (length s)) (sym h ∙ g) (shape-in s)).1
