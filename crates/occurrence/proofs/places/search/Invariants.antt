-- `occurrence::places::search` meets its contract. The loop's invariant: the needle stands at no place below j, and i octets
-- are known to match at j. The measure is how many places are left. Assumes nothing.
use Prim.Native.Nat.{suc, ◌≤◌, ◌-◌}
use lib.ListN.{length}
use Rattle.occurrence.specs.Matches.{Matched, Unmatched}
use Rattle.occurrence.proofs.places.search.Given as goal

abbrev pub invariant-loop-j : goal.invariant-loop-j
invariant-loop-j l = (l.j ≤ suc (length l.hay)) × (l.i ≤ length l.needle) × Unmatched l.needle l.hay l.j × Matched l.needle l.hay l.j l.i

abbrev pub decreases-loop-j : goal.decreases-loop-j
decreases-loop-j l = suc (length l.hay) - l.j
