-- `partners::number` meets its contract. The invariant: so many places are filled.
-- Assumes nothing.
use Rattle.partners.proofs.Numbering.{Numbering}
use Rattle.partners.proofs.number.Given as goal

abbrev pub invariant-loop-i : goal.invariant-loop-i
invariant-loop-i l = Numbering l.initial.row l.i l.row
