-- An object was found, and the test said of its content what the definition's says.
use Rattle.std.proofs.Common.{refl}
use Rattle.taking.specs.Taking.{fitted}
use Rattle.taking.proofs.Taken.{takes}
use Rattle.taking.proofs.fitted.Goals as goal

pub returns-in_err-found : goal.returns-in_err-found
unfolding fitted
returns-in_err-found c = search takes

pub slice_bounds-test-count : goal.slice_bounds-test-count
slice_bounds-test-count c = search takes

pub slice_bounds-test-start : goal.slice_bounds-test-start
slice_bounds-test-start c = search takes

pub slice_bounds-test-end : goal.slice_bounds-test-end
slice_bounds-test-end c = search takes

pub returns-then-test : goal.returns-then-test
unfolding fitted
returns-then-test g c = λ fits h. let fit = h _ _ (record { shown = _; shows = refl; says = record { met = c.test.ensures } }) in search takes

pub returns : goal.returns
unfolding fitted
returns g c = λ fits h. let fit = h _ _ (record { shown = _; shows = refl; says = record { met = c.test.ensures } }) in search takes
