-- `lists::names::count_names` meets its contract. The invariant: the names before the position are counted, and the list
-- has the refusal that it has from there on; what falls is what is left of the list.
-- Assumes nothing.
use Prim.Native.Nat.{◌-◌}
use lib.ListN.{length}
use Rattle.lists.proofs.Answers.{Counting}
use Rattle.lists.proofs.names.count_names.Given as goal

abbrev pub invariant-loop-start : goal.invariant-loop-start
invariant-loop-start l = Counting l.list l.at.0 l.names l.octets

abbrev pub decreases-loop-start : goal.decreases-loop-start
decreases-loop-start l = length l.list - l.at.0
