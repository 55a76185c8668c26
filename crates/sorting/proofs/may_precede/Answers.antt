-- `sorting::may_precede` meets its contract: the comparison of the keys says which case of the order holds.
-- Assumes nothing.
use Rattle.sorting.specs.KeyOrder.{key_in}
use Rattle.sorting.proofs.KeyOrders.{key_order-compared}
use Rattle.sorting.proofs.may_precede.Goals as goal

pub returns-in-Less : goal.returns-in-Less
returns-in-Less c =
    key_order-compared (key_in c.args.store.now c.args.ends.now) c.args.x c.args.y c.key_at-a.ensures c.key_at-b.ensures
    c.compare_octets.ensures c.in-Less.is

pub returns-in-Equal : goal.returns-in-Equal
returns-in-Equal c =
    key_order-compared (key_in c.args.store.now c.args.ends.now) c.args.x c.args.y c.key_at-a.ensures c.key_at-b.ensures
    c.compare_octets.ensures c.in-Equal.is

pub returns-in-Greater : goal.returns-in-Greater
returns-in-Greater c =
    key_order-compared (key_in c.args.store.now c.args.ends.now) c.args.x c.args.y c.key_at-a.ensures c.key_at-b.ensures
    c.compare_octets.ensures c.in-Greater.is
