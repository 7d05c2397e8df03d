-- Each answer is the definition's: of the first object and the rest, or of the header and the content.
use Rattle.std.specs.Prelude.{Some, None}
use Rattle.std.proofs.Common.{rules, ◌≡◌, ℕ, true, ◌+◌, ◌-◌, ◌<◌, ◌≤◌, List, length, take, drop, arith, sym, ap, subst, ◌∙◌}
use lib.Dec.{leb-zero}
use Rattle.objects.specs.Objects.{header_of, object, objects, closed, part, plus, within, within_one}
use Rattle.objects.specs.declared.Header.{Header}
use Rattle.objects.specs.declared.Object.{Object}
use Rattle.laws.proofs.Lists.{from}
use Rattle.objects.proofs.Sizes.{HeadIn, OneIn, head-sizes, header-in, one-sizes, object-in}
use Rattle.objects.proofs.Fuel.{objects-none}
use Rattle.objects.proofs.Counts.{none_left, kept, list-refused, list-is, flat-is, deep_is, nest-is}
use Rattle.objects.proofs.+read_list_read_object.Goals as goal

-- ---- read_list: what is known of the first object, and the whole by the rest
module _ (d left : ℕ) (s : List ℕ) {o : Object} (one : Some o ≡ within_one left (object d s)) where
  first : (object d s ≡ Some o) × (o.count ≤ left)
  first = kept _ _ _ (sym one)

  sizes : (0 < o.count) × (0 < o.end) × (o.end ≤ length s)
  unfolding object
  sizes = one-sizes (subst (OneIn _) first.0 (object-in objects _ _))

  abbrev rest : List ℕ
  rest = take (length s - o.end) (drop o.end s)

  whole : (length s ≡ 0 → ⊥) → within left (objects d s) ≡ plus o.count (within (left - o.count) (objects d rest))
  whole h = rw from (list-is _ _ _ _ h first.0 first.1)

  list-joined : {n : ℕ} → (length s ≡ 0 → ⊥) → Some n ≡ within (left - o.count) (objects d rest) → Some (o.count + n) ≡ within left (objects d s)
  list-joined h e = sym (whole h ∙ ap (plus o.count) (sym e))

  list-lost : (length s ≡ 0 → ⊥) → None ≡ within (left - o.count) (objects d rest) → None ≡ within left (objects d s)
  list-lost h e = sym (whole h ∙ ap (plus o.count) (sym e))

-- ---- read_object: where the content lies, and the nest by its content
module _ (d left : ℕ) (s : List ℕ) where
  headless : None ≡ header_of s → None ≡ within_one left (object d s)
  unfolding object
  headless e = rw (← e)

  module _ {h : Header} (head : Some h ≡ header_of s) where
    extent : (1 < h.start) × (h.start ≤ h.end) × (h.end ≤ length s)
    extent = head-sizes (subst (HeadIn _) (sym head) (header-in _))

    nest : h.nests ≡ true → (d ≡ 0 → ⊥) → (left ≡ 0 → ⊥) → within_one left (object d s) ≡ closed h.end (within (left - 1) (objects (d - 1) (part h.start h.end s)))
    nest n z l = let some : 0 < left = omega arith in nest-is _ _ _ _ (sym head) n z some

pub read_list-returns-then-is_empty : goal.read_list-returns-then-is_empty
read_list-returns-then-is_empty t c = rw (objects-none c.args.below c.args.s.now (search rules)) (simp (leb-zero c.args.left))

pub read_list-returns-in_err-end : goal.read_list-returns-in_err-end
read_list-returns-in_err-end t c = c.from_residual.ensures ∙ sym (list-refused _ _ _ (search rules) (sym c.in_err-end.ensures))

pub read_list-slice_bounds-read_list-count : goal.read_list-slice_bounds-read_list-count
read_list-slice_bounds-read_list-count t c = (sizes _ _ _ c.in_ok-end.ensures).2

pub read_list-slice_bounds-read_list-start : goal.read_list-slice_bounds-read_list-start
read_list-slice_bounds-read_list-start t c = (sizes _ _ _ c.in_ok-end.ensures).2

pub read_list-read_list-requires : goal.read_list-read_list-requires
read_list-read_list-requires t c = let z = sizes _ _ _ c.in_ok-end.ensures in (omega (arith, z), tt)

pub read_list-returns-in_err-n : goal.read_list-returns-in_err-n
read_list-returns-in_err-n t c = c.from_residual-in_err-n.ensures ∙ list-lost _ _ _ c.in_ok-end.ensures (search rules) c.in_err-n.ensures

pub read_list-returns : goal.read_list-returns
read_list-returns t c = list-joined _ _ _ c.in_ok-end.ensures (search rules) c.in_ok-n.ensures

pub read_object-returns-then-left-eq0 : goal.read_object-returns-then-left-eq0
unfolding object
read_object-returns-then-left-eq0 t c = rw c.if-left-eq0.true (sym (none_left _ (object-in objects _ _)))

pub read_object-returns-in_err-nests : goal.read_object-returns-in_err-nests
read_object-returns-in_err-nests t c = c.from_residual.ensures ∙ headless _ _ _ c.in_err-nests.ensures

pub read_object-returns-then-not-nests : goal.read_object-returns-then-not-nests
read_object-returns-then-not-nests t c = let some : 0 < c.args.left = omega arith in sym (flat-is _ _ _ _ (sym c.in_ok-nests.ensures) (search rules) some)

pub read_object-returns-then-below-eq0 : goal.read_object-returns-then-below-eq0
read_object-returns-then-below-eq0 t c = sym (deep_is _ _ _ _ (sym c.in_ok-nests.ensures) (search rules) c.if-below-eq0.true)

pub read_object-slice_bounds-read_list-count : goal.read_object-slice_bounds-read_list-count
read_object-slice_bounds-read_list-count t c = (extent c.args.below c.args.left _ c.in_ok-nests.ensures).1

pub read_object-slice_bounds-read_list-start : goal.read_object-slice_bounds-read_list-start
read_object-slice_bounds-read_list-start t c = (extent c.args.below c.args.left _ c.in_ok-nests.ensures).1

pub read_object-slice_bounds-read_list-end : goal.read_object-slice_bounds-read_list-end
read_object-slice_bounds-read_list-end t c = (extent c.args.below c.args.left _ c.in_ok-nests.ensures).2

pub read_object-read_list-requires : goal.read_object-read_list-requires
read_object-read_list-requires t c = let x = extent c.args.below c.args.left _ c.in_ok-nests.ensures in (omega (arith, x), tt)

pub read_object-returns-in_err-n : goal.read_object-returns-in_err-n
read_object-returns-in_err-n t c =
    c.from_residual-in_err-n.ensures ∙ sym (nest _ _ _ c.in_ok-nests.ensures (search rules) c.if-below-eq0.false c.if-left-eq0.false ∙ ap (closed _) (sym c.in_err-n.ensures))

pub read_object-returns : goal.read_object-returns
read_object-returns t c = sym (nest _ _ _ c.in_ok-nests.ensures (search rules) c.if-below-eq0.false c.if-left-eq0.false ∙ ap (closed _) (sym c.in_ok-n.ensures))
