-- `table::find_among` meets its contract. The loop's invariant: one or more entries are left, `left` of them from `first` on
-- (`Candidates`). Half of what is left is at most the rest, so both ways keep it. The measure is `left`.
-- Assumes nothing.
use Prim.Native.Nat.{◌<◌}
use Rattle.table.specs.Promises.{Candidates}
use Rattle.table.proofs.find_among.Given as goal

abbrev pub invariant-loop-left : goal.invariant-loop-left
invariant-loop-left l = (0 < l.left) × Candidates l.entries l.sought.0 l.first l.left

abbrev pub decreases-loop-left : goal.decreases-loop-left
decreases-loop-left l = l.left
