-- What `tag_at` and `len_at` answered are the tag and the length of the definition, and both lie in s.
use Rattle.std.proofs.Common.{◌≡◌, ℕ, ◌+◌, ◌-◌, ◌<◌, ◌≤◌, List, length, take, drop, arith, sym, subst, None, Some, ◌∙◌}
use lib.ListN.{length-drop}
use borrow.Author.Tests.{le-leb, lt-leb}
use Rattle.objects.specs.declared.Label.{Label}
use Rattle.objects.specs.declared.Extent.{Extent}
use Rattle.objects.specs.Objects.{header, header_of, tag_of, len_of}
use Rattle.laws.proofs.Lists.{from}
use Rattle.objects.proofs.Sizes.{TagIn, LenIn, tag-sizes, len-sizes, tag_in, len-in}
use Rattle.objects.proofs.header_at.Goals as goal

module _ (s : List ℕ) where
  no-tag : None ≡ tag_of s → None ≡ header_of s
  unfolding header_of
  no-tag e = rw (← e)

  -- where the tag was read: its size, and what is known of it
  module _ {l : Label} (e : Some l ≡ tag_of s) where
    tag-size : (0 < l.size) × (l.size ≤ length s)
    tag-size = tag-sizes (subst (TagIn _) (sym e) (tag_in s))

    no-len : None ≡ len_of (take (length s - l.size) (drop l.size s)) → None ≡ header_of s
    unfolding header_of
    no-len f = rw (← e, ← from s l.size, ← f)

    -- where the length was read
    module _ {x : Extent} (f : Some x ≡ len_of (take (length s - l.size) (drop l.size s))) where
      is-len : len_of (drop l.size s) ≡ Some x
      is-len = rw (← from s l.size) (sym f)

      start-in : l.size + x.size ≤ length s
      start-in = let h = len-sizes (subst (LenIn _) is-len (len-in _)) in let g = tag-size in omega (arith, h, g, length-drop l.size s)

      fits-in : x.len ≤ length s - (l.size + x.size) → header l.tag l.nests (l.size + x.size) (l.size + x.size + x.len) ≡ header_of s
      unfolding header_of
      fits-in h = let g = start-in in let k : l.size + x.size + x.len ≤ length s = omega arith in rw (← e, is-len) (simp (le-leb _ _ k))

      too-long : length s - (l.size + x.size) < x.len → None ≡ header_of s
      unfolding header_of
      too-long h = let g = start-in in let k : length s < l.size + x.size + x.len = omega arith in rw (← e, is-len) (simp (lt-leb _ _ k))

pub returns-in_err-tag : goal.returns-in_err-tag
returns-in_err-tag c = c.from_residual.ensures ∙ no-tag _ c.in_err-tag.ensures

pub slice_bounds-len_at-count : goal.slice_bounds-len_at-count
slice_bounds-len_at-count c = (tag-size _ c.in_ok-tag.ensures).1

pub slice_bounds-len_at-start : goal.slice_bounds-len_at-start
slice_bounds-len_at-start c = (tag-size _ c.in_ok-tag.ensures).1

pub returns-in_err-len : goal.returns-in_err-len
returns-in_err-len c = c.from_residual-in_err-len.ensures ∙ no-len _ c.in_ok-tag.ensures c.in_err-len.ensures

pub overflow_add-start : goal.overflow_add-start
overflow_add-start c = omega (arith, start-in _ c.in_ok-tag.ensures c.in_ok-len.ensures)

pub overflow_sub-s : goal.overflow_sub-s
overflow_sub-s c = start-in _ c.in_ok-tag.ensures c.in_ok-len.ensures

pub returns-then-s-start : goal.returns-then-s-start
returns-then-s-start c = too-long _ c.in_ok-tag.ensures c.in_ok-len.ensures c.if-s-start.true

pub overflow_add-result : goal.overflow_add-result
overflow_add-result c = omega (arith, start-in _ c.in_ok-tag.ensures c.in_ok-len.ensures)

pub returns : goal.returns
returns c = fits-in _ c.in_ok-tag.ensures c.in_ok-len.ensures c.if-s-start.false
