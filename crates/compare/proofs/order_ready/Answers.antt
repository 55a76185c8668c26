-- `compare::order_ready` meets its contract: `fill_two` prepares both texts, and `order_shown` orders what they show.
-- Assumes nothing.
use Rattle.compare.proofs.Calls.{orders-shown}
use Rattle.compare.proofs.order_ready.Goals as goal

pub returns : goal.returns
returns c = orders-shown c.fill_two.ensures c.in_ok-one.was c.order_shown.ensures
