-- `matching::rows::mark_repeats` meets its contract. The invariant: the places before `i` are marked.
-- Assumes nothing.
use mathlib.Core.List.{map}
use lib.ListN.{length}
use Rattle.sorting.specs.KeyOrder.{key_in}
use Rattle.terms.proofs.Copying.{Copying}
use Rattle.matching.specs.Matching.{repeated}
use Rattle.matching.proofs.rows.mark_repeats.Given as goal

abbrev pub invariant-loop-i : goal.invariant-loop-i
invariant-loop-i l = Copying (repeated (map (key_in l.store l.ends) l.row)) (length l.row) l.initial.repeats l.i l.repeats
