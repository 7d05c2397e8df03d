-- Objects found at the start of some bytes and tested: where their content lies. Each law is over plain values, for a search to fit.
-- Assumes nothing.
use borrow.Author.Rules.{rules}
use Rattle.std.specs.Prelude.{Option, Some}
use Prim.Native.Nat.{ℕ, ◌≤◌}
use mathlib.Core.Path.{◌≡◌, sym, ◌∙◌}
use mathlib.Core.Bool.{Bool}
use mathlib.Core.List.{List}
use lib.ListN.{length}
use Rattle.objects.specs.Objects.{found_in}
use Rattle.objects.specs.declared.Content.{Content}
use Rattle.objects.proofs.Sizes.{found-sizes}
use Rattle.objects.proofs.Chain.{found-start, found-end}
use Rattle.taking.specs.Taking.{fitted, last_of}
use Rattle.taking.proofs.Links.{fitted-is, last-is}

module _ (f : Option Content) (t : ℕ) (w : Bool) (fits : List ℕ → Bool) (s : List ℕ) (c : Content) (is : f ≡ fitted t w fits s) (p : f ≡ Some c) where
  pub fitted-start : c.start ≤ c.end
  fitted-start = (found-sizes t w s c (fitted-is t w fits s c (sym is ∙ p)).0).1

  pub fitted-end : c.end ≤ length s
  fitted-end = (found-sizes t w s c (fitted-is t w fits s c (sym is ∙ p)).0).2

module _ (f g : Option Content) (n : ℕ) (ends : g ≡ last_of n f) (t : ℕ) (w : Bool) (s : List ℕ) (c : Content) (p : g ≡ Some c) where
  found-last : f ≡ Some c
  found-last = (last-is n f c (sym ends ∙ p)).0

  module _ (is : f ≡ found_in t w s) where
    pub last-start : c.start ≤ c.end
    last-start = found-start f t w s c is found-last

    pub last_end : c.end ≤ length s
    last_end = found-end f t w s c is found-last

  module _ (fits : List ℕ → Bool) (is : f ≡ fitted t w fits s) where
    pub lone-start : c.start ≤ c.end
    lone-start = fitted-start f t w fits s c is found-last

    pub lone-end : c.end ≤ length s
    lone-end = fitted-end f t w fits s c is found-last

-- what a reader of one object goes by
pub ruleset takes = (found-start, found-end, rules)
