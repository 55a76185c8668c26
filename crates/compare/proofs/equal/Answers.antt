-- `compare::equal` meets its contract: `order` orders the texts, and `equality_of` goes by that.
-- Assumes nothing.
use Rattle.compare.proofs.Calls.{equals-by}
use Rattle.compare.proofs.equal.Goals as goal

pub returns : goal.returns
returns c = record { called = rw c.equality_of.ensures (equals-by c.order.ensures.called); paged = c.order.ensures.paged }
