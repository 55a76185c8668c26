-- `octets::put_octets` meets its contract. The loop's invariant: the octets so far are written, and four or more are left, which
-- are the measure. The last block is written where some of its octets may be written already.
-- Assumes nothing.
use Prim.Native.Nat.{◌+◌, ◌≤◌, ◌-◌}
use lib.ListN.{length, take}
use Rattle.octets.specs.Put.{Puts}
use Rattle.octets.proofs.put_octets.Given as goal

abbrev pub invariant-loop-i : goal.invariant-loop-i
invariant-loop-i l = (l.i + 4 ≤ length l.octets) × Puts (take l.i l.octets) l.initial.out l.i l.out

abbrev pub decreases-loop-i : goal.decreases-loop-i
decreases-loop-i l = length l.octets - l.i
