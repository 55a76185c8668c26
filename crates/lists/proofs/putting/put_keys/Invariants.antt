-- `lists::putting::put_keys` meets its contract. The invariant: with the keys from the position on put too, all are
-- (`PuttingNames`); what falls is what is left of the list.
-- Assumes nothing.
use Prim.Native.Nat.{◌-◌}
use lib.ListN.{length}
use Rattle.table.specs.Table.{table, mapping_of}
use Rattle.keys.specs.Keys.{key_of}
use Rattle.lists.proofs.Walks.{PuttingNames}
use Rattle.lists.proofs.putting.put_keys.Given as goal

abbrev pub invariant-loop-at : goal.invariant-loop-at
invariant-loop-at l = PuttingNames (key_of l.collation (mapping_of (table l.entries l.pool))) l.list l.from l.initial.store l.index l.initial.ends l.at.0 l.end l.i l.store l.ends

abbrev pub decreases-loop-at : goal.decreases-loop-at
decreases-loop-at l = length l.list - l.at.0
