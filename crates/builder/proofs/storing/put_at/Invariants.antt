-- `builder::storing::put_at` meets its contract. The loop's invariant: the slice is the copy of the numbers so far.
-- Assumes nothing.
use mathlib.Core.Path.{◌≡◌}
use lib.Seq.{paste}
use Rattle.builder.proofs.storing.put_at.Given as goal

abbrev pub invariant-loop-i : goal.invariant-loop-i
invariant-loop-i l = l.out ≡ paste l.initial.out l.at l.numbers l.i
