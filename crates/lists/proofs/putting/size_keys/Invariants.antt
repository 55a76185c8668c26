-- `lists::putting::size_keys` meets its contract. The invariant: the size so far, with that of the keys from the position
-- on, is that of all; what falls is what is left of the list.
-- Assumes nothing.
use mathlib.Core.Path.{◌≡◌}
use Prim.Native.Nat.{◌+◌, ◌-◌}
use mathlib.Core.List.{map}
use lib.ListN.{length}
use Rattle.table.specs.Table.{table, mapping_of}
use Rattle.keys.specs.Keys.{key_of}
use Rattle.lists.specs.Names.{names_in, names_from}
use Rattle.storing.specs.Stored.{joined}
use Rattle.lists.proofs.Walks.{Walking}
use Rattle.lists.proofs.putting.size_keys.Given as goal

abbrev pub invariant-loop-at : goal.invariant-loop-at
invariant-loop-at l =
    (let key = key_of l.collation (mapping_of (table l.entries l.pool)) in
    Walking key l.list l.at.0
    × (l.size + length (joined (map key (names_from l.list l.at.0))) ≡ length (joined (map key (names_in l.list)))))

abbrev pub decreases-loop-at : goal.decreases-loop-at
decreases-loop-at l = length l.list - l.at.0
