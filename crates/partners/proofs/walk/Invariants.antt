-- `partners::walk` meets its contract. The invariant: the walk stands at a place, with what is known there (`Reached`).
-- Assumes nothing.
use Rattle.sorting.specs.KeyOrder.{key_in}
use Rattle.partners.proofs.Places.{Reached}
use Rattle.partners.proofs.walk.Given as goal

abbrev pub invariant-loop-i : goal.invariant-loop-i
invariant-loop-i l = Reached (key_in l.store l.ends) l.middle l.row l.initial.partners l.initial.positions l.i l.group l.free l.equal_pairs l.partnered l.partners l.positions
