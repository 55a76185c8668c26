-- `decompose::plain::plain_row` meets its contract. The loop's invariant: the first `c` octets of the row have what they become, and
-- the others 80 hex (`RowTo`). The measure is the number of octets of ASCII that are left.
-- Assumes nothing.
use Rattle.table.specs.Table.{table, mapping_of}
use Rattle.decompose.proofs.PlainRows.{row-start}
use Rattle.decompose.proofs.plain.plain_row.Goals as goal

pub loop-c-init : goal.loop-c-init
loop-c-init c = row-start ((mapping_of (table c.args.entries.now c.args.pool.now)))
