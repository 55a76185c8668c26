-- `storing::ends::faulty_end` meets its contract. The loop's invariant: no end below `i` is at fault. Assumes nothing.
use mathlib.Core.Path.{◌≡◌}
use Prim.Native.Nat.{ℕ, ◌<◌}
use mathlib.Core.Bool.{false}
use Rattle.storing.specs.Ends.{faulty_end}
use Rattle.storing.proofs.ends.faulty_end.Given as goal

abbrev pub invariant-loop-i : goal.invariant-loop-i
invariant-loop-i l = (k : ℕ) → k < l.i → faulty_end l.octets l.ends k ≡ false
