-- `compare::equal_accepted` meets its contract: `order_accepted` orders the texts, and `equality_of` goes by that.
-- Assumes nothing.
use Rattle.compare.proofs.Calls.{equals-by}
use Rattle.compare.proofs.equal_accepted.Goals as goal

pub returns : goal.returns
returns c = rw c.equality_of.ensures (equals-by c.order_accepted.ensures)
