-- `matching::rows::count_from_one` meets its contract. The invariant: the numbers before `i` are one more.
-- Assumes nothing.
use Prim.Native.Nat.{suc}
use mathlib.Core.List.{map}
use lib.ListN.{length}
use Rattle.terms.proofs.Copying.{Copying}
use Rattle.matching.proofs.rows.count_from_one.Given as goal

abbrev pub invariant-loop-i : goal.invariant-loop-i
invariant-loop-i l = Copying (map suc l.initial.row) (length l.initial.row) l.initial.row l.i l.row
