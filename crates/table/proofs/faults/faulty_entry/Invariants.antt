-- `table::faults::faulty_entry` meets its contract. The loop's invariant: no entry below `i` is faulty, and `sum` is the
-- sum of their counts, each at most 32.
-- Assumes nothing.
use Prim.Native.Nat.{ℕ, ◌*◌, ◌≤◌, ◌<◌}
use mathlib.Core.Path.{◌≡◌}
use mathlib.Core.Bool.{false}
use Rattle.terms.specs.Refusals.{parts_most}
use Rattle.table.specs.Table.{table, counts_below, faulty_entry}
use Rattle.table.proofs.faults.faulty_entry.Given as goal

abbrev pub invariant-loop-i : goal.invariant-loop-i
invariant-loop-i l =
    ((k : ℕ) → k < l.i → faulty_entry (table l.entries l.pool) k ≡ false)
    × (l.sum ≡ counts_below l.entries l.i)
    × (l.sum ≤ parts_most * l.i)
