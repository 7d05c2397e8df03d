-- The effective authorization, over plain values, and its bits. Assumes nothing.
use Rattle.std.specs.Prelude.{Option}
use Prim.Native.Nat.{ℕ, ◌^◌, ◌<◌}
use native.Mathlib.Nat.{zero-div}
use mathlib.Core.Bool.{Bool, true, false, cond, not, ◌&&◌}
use mathlib.Core.Path.{◌≡◌, refl}
use borrow.Author.Tests.{eq-eqb, ne_eqb}
use Rattle.rights.specs.Rights.{low, has_right, can_allowed}
use Rattle.rights.proofs.Bits.{common-right}
use Rattle.rights.specs.declared.Rights.{Rights}
use Rattle.standing.specs.declared.Chain.{Chain}
use Rattle.session.specs.declared.Context.{Context}
use Rattle.standing.specs.Standing.{opened_by_can, rank, is_authenticated}
use Rattle.authorization.specs.Authorization.{nothing, trusted_of, confirmed_of, shared_by, authorization}

module _ (c : Context) (k : ℕ) (e : k ≡ rank c.stage) where
  pub not_yet : (k ≡ 6 → ⊥) → nothing ≡ authorization c
  unfolding authorization
  not_yet n = rw (← e, ne_eqb k 6 n)

  module _ (s : Rights) (f : s ≡ shared_by c.chain c.confirmed) (h : k ≡ 6) (n a : Bool) (g : n ≡ opened_by_can c.opened) (i : a ≡ has_right can_allowed s) where
    pub not-by-can : n && not a ≡ true → nothing ≡ authorization c
    unfolding authorization
    not-by-can q = rw (← e, eq-eqb k 6 h, ← f, ← i, ← g, q)

-- bit k of what is shared is the bit in all four
pub shared-right : (k : ℕ) (c : Chain) (g : Option Rights) → k < low
    → has_right k (shared_by c g) ≡ has_right k (trusted_of c.reach) && has_right k c.dv.rights && has_right k c.terminal.rights && has_right k (confirmed_of g)
unfolding shared_by
shared-right k c g h = common-right k (trusted_of c.reach) c.dv.rights c.terminal.rights (confirmed_of g) h

-- no right is effective but in an authenticated session, by the CAN only with bit 4
pub effective-right : (k : ℕ) (c : Context) → k < low
    → has_right k (authorization c)
    ≡ is_authenticated c.stage && not (opened_by_can c.opened && not (has_right can_allowed (shared_by c.chain c.confirmed))) && has_right k (shared_by c.chain c.confirmed)
unfolding authorization
effective-right k c h = go (is_authenticated c.stage) (opened_by_can c.opened && not (has_right can_allowed (shared_by c.chain c.confirmed)))
  where
    none : has_right k nothing ≡ false
    none = rw (zero-div (2 ^ k))

    go : (a b : Bool) → has_right k (cond (not a) nothing (cond b nothing (shared_by c.chain c.confirmed))) ≡ a && not b && has_right k (shared_by c.chain c.confirmed)
    go true true = none
    go true false = refl
    go false b = none
