-- `table::faults::faulty_code` meets its contract. The loop's invariant: no entry below `i` is faulty. Assumes nothing.
use Prim.Native.Nat.{ℕ, ◌<◌}
use mathlib.Core.Path.{◌≡◌}
use mathlib.Core.Bool.{false}
use Rattle.table.specs.Table.{faulty_code}
use Rattle.table.proofs.faults.faulty_code.Given as goal

abbrev pub invariant-loop-i : goal.invariant-loop-i
invariant-loop-i l = (k : ℕ) → k < l.i → faulty_code l.entries k ≡ false
