-- `many::filling::put_many` meets its contract. The invariant: the texts before `i` are done (`Filling`).
-- Assumes nothing.
use Rattle.table.specs.Table.{table, mapping_of}
use Rattle.keys.specs.Keys.{prepared, key_of}
use Rattle.keys.specs.Summaries.{truth}
use Rattle.many.proofs.Filled.{Filling}
use Rattle.many.proofs.filling.put_many.Given as goal

abbrev pub invariant-loop-i : goal.invariant-loop-i
invariant-loop-i l =
    (let m = mapping_of (table l.entries l.pool) in
    Filling (key_of l.collation m) (λ t. truth (prepared l.collation m t).valid) l.octets l.ends l.initial.store l.initial.key_ends l.initial.valid l.i l.end l.store
    l.key_ends l.valid)
