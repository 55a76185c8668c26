-- `octets::compare_each` meets its contract. The loop's invariant: the order is that of what follows `i` in each.
-- Assumes nothing.
use Rattle.octets.proofs.Numbers.{SameFrom}
use Rattle.octets.proofs.compare_each.Given as goal

abbrev pub invariant-loop-i : goal.invariant-loop-i
invariant-loop-i l = SameFrom l.a l.b 0 l.i
