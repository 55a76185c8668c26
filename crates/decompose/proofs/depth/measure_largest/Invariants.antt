-- `decompose::depth::measure_largest` meets its contract. The loop's invariant: the first `i` jamo fit, and `most` is the largest
-- of them. Assumes nothing.
use mathlib.Core.Path.{◌≡◌}
use Rattle.std.specs.Prelude.{Some}
use Rattle.table.specs.Table.{table, mapping_of}
use Rattle.decompose.specs.Promises.{largest}
use Rattle.decompose.proofs.depth.measure_largest.Given as goal

abbrev pub invariant-loop-i : goal.invariant-loop-i
invariant-loop-i l = largest (mapping_of (table l.entries l.pool)) l.room l.from l.i ≡ Some l.most
