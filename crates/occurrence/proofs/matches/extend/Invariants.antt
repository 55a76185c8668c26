-- `occurrence::matches::extend` meets its contract. The loop's invariant: the octets passed match.
-- Assumes nothing.
use Rattle.occurrence.specs.Matches.{Matched}
use Rattle.occurrence.proofs.matches.extend.Given as goal

abbrev pub invariant-loop-k : goal.invariant-loop-k
invariant-loop-k l = Matched l.x l.y l.j l.k
