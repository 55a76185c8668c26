-- `decompose::depth::measure` meets its contract. It calls itself with the jamo of a syllable, and for each part that
-- decomposes, one level down; the measure of the recursion is twice the levels left, and one more where there are no parts. The
-- loop's invariant: the parts so far are within the levels left to them and come to `total` code points, for which there is
-- room (`Measuring`). The loop's measure is the number of parts that are left. Assumes nothing.
use Prim.Native.Nat.{◌+◌, ◌-◌, ◌*◌}
use lib.ListN.{length}
use Rattle.table.specs.Table.{table, mapping_of}
use Rattle.decompose.proofs.Measuring.{Measuring}
use Rattle.decompose.proofs.depth.+measure.Given as goal

abbrev pub invariant-loop-number : goal.invariant-loop-number
invariant-loop-number l = Measuring (mapping_of (table l.entries l.pool)) (l.levels_left - 1) l.parts l.room l.total l.number-index

-- the recursion's measure: twice the levels left, and one where there are no parts
abbrev pub decreases-measure : goal.decreases-measure
decreases-measure l = 2 * l.levels_left + (1 - length l.parts.now)
