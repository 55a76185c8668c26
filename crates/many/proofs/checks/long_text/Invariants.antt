-- `many::checks::long_text` meets its contract. The loop's invariant: no text below `i` is over the limit. Assumes nothing.
use mathlib.Core.Path.{◌≡◌}
use Prim.Native.Nat.{ℕ, ◌<◌}
use mathlib.Core.Bool.{false}
use Rattle.many.specs.Many.{long_text}
use Rattle.many.proofs.checks.long_text.Given as goal

abbrev pub invariant-loop-i : goal.invariant-loop-i
invariant-loop-i l = (k : ℕ) → k < l.i → long_text l.ends k ≡ false
