-- `keys::writing::walk` meets its contract. The loop's invariant: the characters up to `at` came to `end` octets and `lookups`
-- lookups, and were written into the first `end` octets of the buffer (`Walking`). The measure is what is left of the text.
-- Assumes nothing.
use Prim.Native.Nat.{◌-◌}
use lib.ListN.{length}
use Rattle.table.specs.Table.{table, mapping_of}
use Rattle.keys.specs.Walks.{Walking}
use Rattle.keys.proofs.writing.walk.Given as goal

abbrev pub invariant-loop-at : goal.invariant-loop-at
invariant-loop-at l = Walking (mapping_of (table l.entries l.pool)) l.text l.initial.key l.at.0 l.end.0 l.lookups l.key

abbrev pub decreases-loop-at : goal.decreases-loop-at
decreases-loop-at l = length l.text - l.at.0
