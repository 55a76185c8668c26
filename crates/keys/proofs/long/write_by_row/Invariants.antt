-- `keys::long::write_by_row` meets its contract. The loop's invariant: the text was walked up to `at` (`Walking`). The
-- measure is what is left of the text.
-- Assumes nothing.
use Prim.Native.Nat.{◌-◌}
use lib.ListN.{length}
use Rattle.table.specs.Table.{table, mapping_of}
use Rattle.keys.specs.Walks.{Walking}
use Rattle.keys.proofs.long.write_by_row.Given as goal

abbrev pub invariant-loop-at : goal.invariant-loop-at
invariant-loop-at l = Walking (mapping_of (table l.entries l.pool)) l.text l.initial.key l.at.0 l.end.0 l.lookups l.key

abbrev pub decreases-loop-at : goal.decreases-loop-at
decreases-loop-at l = length l.text - l.at.0
