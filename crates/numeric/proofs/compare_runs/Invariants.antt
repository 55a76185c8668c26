-- `numeric::compare_runs` meets its contract. The loop's invariant: the order of the runs is what is left to decide after the
-- difference so far. The measure is what is left of the first text.
-- Assumes nothing.
use mathlib.Core.Path.{◌≡◌}
use Prim.Native.Nat.{◌-◌}
use lib.ListN.{length, drop}
use Rattle.octets.specs.Order.{compared_order}
use Rattle.numeric.specs.Numbers.{run}
use Rattle.numeric.specs.Runs.{shorter_first}
use Rattle.numeric.proofs.Onward.{onward}
use Rattle.numeric.proofs.compare_runs.Given as goal

abbrev pub invariant-loop-difference : goal.invariant-loop-difference
invariant-loop-difference l = shorter_first (run l.first) (run l.second) ≡ onward (compared_order l.difference) (drop l.i l.first) (drop l.i l.second)

abbrev pub decreases-loop-difference : goal.decreases-loop-difference
decreases-loop-difference l = length l.first - l.i
