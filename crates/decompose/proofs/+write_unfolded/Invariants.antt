-- `decompose::write_unfolded` meets its contract. It calls itself with the jamo of a syllable. A part that doesn't decompose is
-- written where it stands; for any other the function calls itself, one level down; both are lent the slice from `at` on. The
-- measure of the recursion is twice the levels left, and one more where there are no parts. The loop's invariant: the parts so
-- far come to `at` octets and, with the ask for the parts, to `asks` asks, and the slice begins with those octets (`Writing`).
-- The loop's measure is the number of parts that are left. Assumes nothing.
use Prim.Native.Nat.{◌+◌, ◌-◌, ◌*◌}
use lib.ListN.{length}
use Rattle.table.specs.Table.{table, mapping_of}
use Rattle.decompose.proofs.Unfolding.{Writing}
use Rattle.decompose.proofs.+write_unfolded.Given as goal

abbrev pub invariant-loop-number : goal.invariant-loop-number
invariant-loop-number l = Writing (mapping_of (table l.entries l.pool)) (l.levels_left - 1) l.parts l.initial.out l.at l.asks l.number-index l.out

-- the recursion's measure: twice the levels left, and one where there are no parts
abbrev pub decreases-write_unfolded : goal.decreases-write_unfolded
decreases-write_unfolded l = 2 * l.levels_left + (1 - length l.parts.now)
