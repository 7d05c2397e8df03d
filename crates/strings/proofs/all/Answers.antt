-- The library's answer is the definition's.
use Rattle.std.proofs.Common.{ℕ, List, [], ◌∷◌, ◌≡◌, ◌∙◌, ap, refl, rules, tests, ◌&&◌}
use Rattle.std.specs.List.{list_all}
use Rattle.std.proofs.lemmas.Iterator.{YieldsList-from_slice}
use Rattle.std.proofs.lemmas.Iterator.Search.{all_from_yields_List}
use Rattle.strings.specs.Bytes.{belongs_to, all_of}
use Rattle.strings.specs.declared.Class.{Class}
use Rattle.strings.proofs.all.Goals as goal

each : (k : Class) (s : List ℕ) → list_all (belongs_to k) s ≡ all_of k s
each k [] = refl
each k (b ∷ s) = ap (λ r. belongs_to k b && r) (each k s)

pub returns : goal.returns
returns c =
    all_from_yields_List (belongs_to c.args.class) _ _ _ c.all.ensures.ran (YieldsList-from_slice c.args.s.now cc) (λ x b q k. search (rules, tests))
    ∙ each c.args.class c.args.s.now
