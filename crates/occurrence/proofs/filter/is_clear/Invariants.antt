-- `occurrence::filter::is_clear` meets its contract. The loop's invariant: where the needle stands at a place passed, the
-- least is 0.
-- Assumes nothing.
use Rattle.occurrence.proofs.Skips.{Least}
use Rattle.occurrence.proofs.filter.is_clear.Given as goal

abbrev pub invariant-loop-k : goal.invariant-loop-k
invariant-loop-k l = Least l.needle l.hay l.j l.k l.least
