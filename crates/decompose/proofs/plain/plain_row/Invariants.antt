-- `decompose::plain::plain_row` meets its contract. The loop's invariant: the first `c` octets of the row have what they become, and
-- the others 80 hex (`RowTo`). The measure is the number of octets of ASCII that are left.
-- Assumes nothing.
use Rattle.table.specs.Table.{table, mapping_of}
use Rattle.decompose.proofs.PlainRows.{RowTo}
use Rattle.decompose.proofs.plain.plain_row.Given as goal

abbrev pub invariant-loop-c : goal.invariant-loop-c
invariant-loop-c l = RowTo (mapping_of (table l.entries l.pool)) l.c l.row
