-- `numeric::compare_runs` meets its contract. The loop's invariant: the order of the runs is what is left to decide after the
-- difference so far. The measure is what is left of the first text.
-- Assumes nothing.
use mathlib.Core.Path.{◌≡◌, sym, ◌∙◌}
use native.Mathlib.Omega.{arith}
use mathlib.Core.Bool.{true, false, not}
use lib.ListN.{drop}
use Rattle.terms.specs.Lists.{empty}
use Rattle.octets.specs.Order.{compared_order}
use Rattle.numeric.specs.Numbers.{run}
use Rattle.numeric.proofs.Runs.{run-within}
use Rattle.numeric.proofs.Onward.{onward-both, onward-more}
use Rattle.numeric.proofs.compare_runs.Goals as goal

pub bounds-first-i : goal.bounds-first-i
bounds-first-i c =
    let first_has : not (empty (run (drop c.loop-difference.i ((c.args.first.now))))) ≡ true =
    sym c.digit_at.ensures ∙ c.loop-difference-test.true in
    let one = c in
    let l = one in
    omega (arith, run-within ((c.args.first.now)) l.loop-difference.i (first_has))

pub bounds-second-i : goal.bounds-second-i
bounds-second-i c =
    let second_has : let l = c in not (empty (run (drop l.loop-difference.i ((c.args.second.now))))) ≡ true =
    sym c.digit_at-in-loop-difference.ensures ∙ c.if-not-digit_at.false in
    let both = c in
    let l = both in
    omega (arith, run-within ((c.args.second.now)) l.loop-difference.i (second_has))

pub overflow_add-i : goal.overflow_add-i
overflow_add-i c =
    let first_has : not (empty (run (drop c.loop-difference.i ((c.args.first.now))))) ≡ true =
    sym c.digit_at.ensures ∙ c.loop-difference-test.true in
    let one = c in
    let l = one in
    omega (arith, run-within ((c.args.first.now)) l.loop-difference.i (first_has))

pub loop-difference-smaller : goal.loop-difference-smaller
loop-difference-smaller c =
    let first_has : not (empty (run (drop c.loop-difference.i ((c.args.first.now))))) ≡ true =
    sym c.digit_at.ensures ∙ c.loop-difference-test.true in
    let one = c in
    let l = one in
    omega (arith, run-within ((c.args.first.now)) l.loop-difference.i (first_has))

-- a digit of each
pub loop-difference-preserved : goal.loop-difference-preserved
loop-difference-preserved c =
    let first_has : not (empty (run (drop c.loop-difference.i ((c.args.first.now))))) ≡ true =
    sym c.digit_at.ensures ∙ c.loop-difference-test.true in
    let second_has : let l = c in not (empty (run (drop l.loop-difference.i ((c.args.second.now))))) ≡ true =
    sym c.digit_at-in-loop-difference.ensures ∙ c.if-not-digit_at.false in
    let both = c in
    let one = both in
    let l = one in
    l.loop-difference.invariant
    ∙ onward-more (compared_order l.loop-difference.difference) ((c.args.first.now)) ((c.args.second.now)) l.loop-difference.i
    (first_has) (second_has)
    ∙ rw c.first_difference-difference.ensures

-- both end
pub returns : goal.returns
returns c =
    let first_lacks : let l = c in not (empty (run (drop l.loop-difference.i ((c.args.first.now))))) ≡ false =
    sym c.digit_at.ensures ∙ c.loop-difference-test.false in
    let none_left = c in
    let l = none_left in
    sym
    (l.loop-difference.invariant
    ∙ onward-both (compared_order l.loop-difference.difference) ((c.args.first.now)) ((c.args.second.now)) l.loop-difference.i
    (first_lacks) (sym c.digit_at-2.ensures ∙ c.if-digit_at.false))
