-- `search::covering::find_holder` meets its contract. The loop's invariant: octet k from the first place on is octet `left` from
-- `at` on, where the text is valid and its key is longer (`Walking`). The measure is what is left of the text.
-- Assumes nothing.
use Prim.Native.Nat.{◌-◌}
use lib.ListN.{length}
use Rattle.utf8.specs.Utf8.{decode}
use Rattle.table.specs.Table.{table, mapping_of}
use Rattle.search.proofs.Holders.{Walking}
use Rattle.search.proofs.covering.find_holder.Given as goal

abbrev pub invariant-loop-at : goal.invariant-loop-at
invariant-loop-at l = Walking decode (mapping_of (table l.entries l.pool)) l.text l.initial.at.0 l.initial.left.0 l.at.0 l.left.0

abbrev pub decreases-loop-at : goal.decreases-loop-at
decreases-loop-at l = length l.text - l.at.0
