-- Of six bytes, digits or not, the number fits in 32 bits, so it was not cut.
use Rattle.std.proofs.Common.{ℕ, ◌<◌, ◌^◌, ◌%◌, ◌≡◌, ◌∙◌, refl, sym, ap, List, length, get_or, arith, Fits, w8, Bool, true, false, cond, Some, None}
use Rattle.std.specs.Bool.{then_some}
use borrow.Author.Tests.{eq-eqb}
use Rattle.std.proofs.Math.Nat.{mod-eq_of_lt}
use Rattle.laws.proofs.Lists.{six-of}
use Rattle.strings.specs.Bytes.{number, all_of}
use Rattle.strings.specs.declared.Class.TheVariants.{Digit}
use Rattle.days.specs.declared.Day.{Day}
use Rattle.days.specs.Days.{is_day, is_date, dated}
use Rattle.days.proofs.day_of.Goals as goal

fits : (s : List ℕ) → length s ≡ 6 → ((i : ℕ) → Fits w8 (get_or s i 0)) → number 10 20 s < 2 ^ 32
fits s h f = rw (six-of s h) (omega (arith, f 0, f 1, f 2, f 3, f 4, f 5))

whole : (s : List ℕ) → number 10 20 s < 2 ^ 32 → number 10 20 s % 2 ^ 64 ≡ number 10 20 s
whole s h = mod-eq_of_lt {n = number 10 20 s} {m = 2 ^ 64} (omega (arith, h))

dated-is : (s : List ℕ) (n : ℕ) → length s ≡ 6 → all_of Digit s ≡ true → n ≡ number 10 20 s → then_some {T = Day} (is_day n) (record { 0 = n }) ≡ dated s
unfolding dated is_date
dated-is s n h d e = rw (e, eq-eqb (length s) 6 h, d) (go (is_day (number 10 20 s)) (record { 0 = number 10 20 s }))
  where
    go : (b : Bool) (x : Day) → then_some b x ≡ cond b (Some x) None
    go true x = refl
    go false x = refl

pub overflow_cast-n : goal.overflow_cast-n
overflow_cast-n c =
    let h = fits c.args.s.now c.if-s-ne6.false c.type_inv.s in
    rw (c.number-n.ensures, whole c.args.s.now h) (omega (arith, h))

pub returns : goal.returns
returns c =
    let h = fits c.args.s.now c.if-s-ne6.false c.type_inv.s in
    c.then_some.ensures
    ∙ ap (λ (b : Bool). then_some {T = Day} b (record { 0 = c.number-n.result })) c.is_day.ensures
    ∙ dated-is c.args.s.now c.number-n.result c.if-s-ne6.false (sym c.all.ensures ∙ c.if-not-all.false) (c.number-n.ensures ∙ whole c.args.s.now h)
