-- `sorting::merging::merge` meets its contract. The invariant: what stands in the other row, and then what is left of
-- both parts merged, is the whole; what falls is how much is left.
-- Assumes nothing.
use Prim.Native.Nat.{◌+◌, ◌-◌}
use lib.ListN.{length}
use Rattle.sorting.specs.KeyOrder.{key_in, key_order}
use Rattle.sorting.proofs.Halves.{Merging}
use Rattle.sorting.proofs.merging.merge.Given as goal

abbrev pub invariant-loop-i : goal.invariant-loop-i
invariant-loop-i l = Merging (key_order (key_in l.store l.ends)) l.row l.half (length l.initial.out) l.i l.j l.out

abbrev pub decreases-loop-i : goal.decreases-loop-i
decreases-loop-i l = l.half + length l.row - (l.i + l.j)
