-- `decompose::depth::check_levels` meets its contract. The loop's invariant: `i` is at most the number of entries, and the
-- code point of no entry below it has too many levels or code points; one with no parts never does. The measure is the number
-- of entries that are left. Assumes nothing.
use Prim.Native.Nat.{ℕ, ◌<◌}
use mathlib.Core.Path.{◌≡◌}
use mathlib.Core.Bool.{false}
use Rattle.table.specs.Table.{table}
use Rattle.decompose.specs.TableCheck.{faulty_level}
use Rattle.decompose.proofs.depth.check_levels.Given as goal

abbrev pub invariant-loop-i : goal.invariant-loop-i
invariant-loop-i l = (k : ℕ) → k < l.i → faulty_level (table l.entries l.pool) k ≡ false
