-- `sorting::merging::copy_back` meets its contract. The loop's invariant: so many numbers are copied.
-- Assumes nothing.
use Rattle.terms.proofs.Copying.{Copying}
use Rattle.sorting.proofs.merging.copy_back.Given as goal

abbrev pub invariant-loop-i : goal.invariant-loop-i
invariant-loop-i l = Copying l.from l.n l.initial.row l.i l.row
