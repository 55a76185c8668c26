-- `octets::put_each` meets its contract. The loop's invariant: the octets so far are written.
-- Assumes nothing.
use lib.ListN.{take}
use Rattle.octets.specs.Put.{Puts}
use Rattle.octets.proofs.put_each.Given as goal

abbrev pub invariant-loop-i : goal.invariant-loop-i
invariant-loop-i l = Puts (take l.i l.octets) l.initial.out l.i l.out
