-- `occurrence::rows::Rows::least_shift` meets its contract. The loop's invariant: no row passed reaches i.
-- Assumes nothing.
use Rattle.occurrence.specs.Promises.{reaches}
use Rattle.occurrence.proofs.Shifts.{Passed}
use Rattle.occurrence.proofs.rows.Rows.least_shift.Given as goal

abbrev pub invariant-loop-row : goal.invariant-loop-row
invariant-loop-row l = Passed (reaches l.self) l.i l.row-index
