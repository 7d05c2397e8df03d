-- What is kept of bytes is within its limits. Assumes nothing.
use Prim.Native.Nat.{ℕ, ◌^◌}
use native.Mathlib.Nat.{mod-lt}
use mathlib.Core.Path.{◌≡◌}
use mathlib.Core.Bool.{true}
use mathlib.Core.List.{List}
use borrow.Author.Tests.{lt-ltb}
use lib.Pow.{pow_pos}
use Rattle.rights.specs.Rights.{width, rights_of, rights_fit}

pub rights-good : (c : List ℕ) → rights_fit (record { 0 = rights_of c }) ≡ true
unfolding rights_fit
rights-good c = lt-ltb (rights_of c) (2 ^ width) (mod-lt _ (pow_pos width))
