-- `many::filling::size_many` meets its contract. The invariant: with the keys of the texts from `i` on, all are counted.
-- Assumes nothing.
use mathlib.Core.Path.{◌≡◌}
use Prim.Native.Nat.{◌+◌}
use mathlib.Core.List.{map}
use lib.ListN.{length, drop}
use Rattle.table.specs.Table.{table, mapping_of}
use Rattle.keys.specs.Keys.{key_of}
use Rattle.storing.specs.Stored.{joined, strings_in}
use Rattle.many.proofs.filling.size_many.Given as goal

abbrev pub invariant-loop-i : goal.invariant-loop-i
invariant-loop-i l =
    (let key = key_of l.collation (mapping_of (table l.entries l.pool)) in
    l.size + length (joined (map key (drop l.i (strings_in l.octets l.ends)))) ≡ length (joined (map key (strings_in l.octets l.ends))))
