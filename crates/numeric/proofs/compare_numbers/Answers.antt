-- `numeric::compare_numbers` meets its contract: where both texts start with a digit, their runs past the zeros decide.
-- Assumes nothing.
use mathlib.Core.Path.{sym, ◌∙◌}
use native.Mathlib.Omega.{arith}
use Rattle.terms.proofs.Parts.{take-drop}
use Rattle.numeric.proofs.Runs.{leading_zeros-within}
use Rattle.numeric.proofs.Magnitudes.{order-both}
use Rattle.numeric.proofs.compare_numbers.Goals as goal

pub slice_bounds-compare_runs-count : goal.slice_bounds-compare_runs-count
slice_bounds-compare_runs-count c = omega (arith, c.zeros.ensures, leading_zeros-within c.args.first.now)

pub slice_bounds-compare_runs-start : goal.slice_bounds-compare_runs-start
slice_bounds-compare_runs-start c = omega (arith, c.zeros.ensures, leading_zeros-within c.args.first.now)

pub slice_bounds-compare_runs-count-in-true-true : goal.slice_bounds-compare_runs-count-in-true-true
slice_bounds-compare_runs-count-in-true-true c = omega (arith, c.zeros-in-true-true.ensures, leading_zeros-within c.args.second.now)

pub slice_bounds-compare_runs-start-in-true-true : goal.slice_bounds-compare_runs-start-in-true-true
slice_bounds-compare_runs-start-in-true-true c = omega (arith, c.zeros-in-true-true.ensures, leading_zeros-within c.args.second.now)

-- two numbers
pub returns-in-true-true : goal.returns-in-true-true
returns-in-true-true c =
    let first = c.args.first.now in
    let second = c.args.second.now in
    let runs = rw (take-drop c.zeros.result first, take-drop c.zeros-in-true-true.result second) at c.compare_runs.ensures in
    rw (c.zeros.ensures, c.zeros-in-true-true.ensures) at runs
    ∙ sym (order-both first second (sym c.in-true-true.ensures) (sym c.in-true-true.ensures'))
