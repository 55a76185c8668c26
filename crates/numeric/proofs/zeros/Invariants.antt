-- `numeric::zeros` meets its contract. The loop's invariant: the leading zeros are those passed and those that follow.
-- Assumes nothing.
use mathlib.Core.Path.{◌≡◌}
use Prim.Native.Nat.{◌+◌}
use lib.ListN.{drop}
use Rattle.numeric.specs.Runs.{leading_zeros}
use Rattle.numeric.proofs.zeros.Given as goal

abbrev pub invariant-loop-i : goal.invariant-loop-i
invariant-loop-i l = leading_zeros l.text ≡ l.i + leading_zeros (drop l.i l.text)
