-- `occurrence::filter::skip_places` meets its contract. The loop's invariant: the places passed are skipped. The measure is
-- how many are left up to the stop. Assumes nothing.
use Prim.Native.Nat.{◌-◌}
use Rattle.occurrence.specs.Matches.{Skipped}
use Rattle.occurrence.proofs.filter.skip_places.Given as goal

abbrev pub invariant-loop-at : goal.invariant-loop-at
invariant-loop-at l = Skipped l.needle l.hay l.j l.at

abbrev pub decreases-loop-at : goal.decreases-loop-at
decreases-loop-at l = l.stop - l.at
