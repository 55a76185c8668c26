-- `decompose::size_unfolded` meets its contract. It calls itself with the jamo of a syllable, and for each part that
-- decomposes, one level down; the measure of the recursion is twice the levels left, and one more where there are no parts. The
-- loop's invariant: the parts so far come to `octets` octets and, with the ask for the parts, to `asked` asks (`Sizing`). The
-- loop's measure is the number of parts that are left. Assumes nothing.
use Prim.Native.Nat.{◌+◌, ◌-◌, ◌*◌}
use lib.ListN.{length}
use Rattle.table.specs.Table.{table, mapping_of}
use Rattle.decompose.proofs.Unfolding.{Sizing}
use Rattle.decompose.proofs.+size_unfolded.Given as goal

abbrev pub invariant-loop-number : goal.invariant-loop-number
invariant-loop-number l = Sizing (mapping_of (table l.entries l.pool)) (l.levels_left - 1) l.parts l.octets l.asked l.number-index

-- the recursion's measure: twice the levels left, and one where there are no parts
abbrev pub decreases-size_unfolded : goal.decreases-size_unfolded
decreases-size_unfolded l = 2 * l.levels_left + (1 - length l.parts.now)
