-- `occurrence::filter::skip_blocks` meets its contract. The loop's invariant: the blocks passed are skipped. The measure is
-- what is left of the hay. Assumes nothing.
use Prim.Native.Nat.{◌-◌}
use lib.ListN.{length}
use Rattle.occurrence.specs.Matches.{Skipped}
use Rattle.occurrence.proofs.filter.skip_blocks.Given as goal

abbrev pub invariant-loop-at : goal.invariant-loop-at
invariant-loop-at l = Skipped l.needle l.hay l.j l.at

abbrev pub decreases-loop-at : goal.decreases-loop-at
decreases-loop-at l = length l.hay - l.at
