-- The measure of the recursion is the row's length.
-- Assumes nothing.
use lib.ListN.{length}
use Rattle.sorting.proofs.+sort.Given as goal

abbrev pub decreases-sort : goal.decreases-sort
decreases-sort l = length l.row.now
