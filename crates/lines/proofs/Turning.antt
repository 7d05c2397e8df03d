-- What becomes of a desk, by what a line does. Assumes nothing.
use Prim.Native.Nat.{ℕ}
use mathlib.Core.Path.{◌≡◌, sym, subst, ◌∙◌}
use mathlib.Core.List.{List}
use Rattle.desk_token.specs.declared.Desk.{Desk}
use Rattle.words.specs.Verbs.{act_of}
use Rattle.words.specs.declared.Verb.{Verb}
use Rattle.words.specs.declared.Act.{Act}
use Rattle.lines.specs.Turns.{Turned}

module _ (d : Desk) (line : List ℕ) (r : Desk) where
  pub turned_as : (v : Verb) (a b : Act) → a ≡ act_of v → a ≡ b → Turned d line r b → Turned d line r (act_of v)
  turned_as v a b e f t = subst (Turned d line r) (sym f ∙ e) t
