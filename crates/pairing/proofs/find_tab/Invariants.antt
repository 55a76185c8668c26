-- `pairing::find_tab` meets its contract. The loop's invariant: no octet before the one reached is a tab.
-- Assumes nothing.
use mathlib.Core.Path.{◌≡◌}
use Prim.Native.Nat.{ℕ, ◌<◌}
use mathlib.Core.Bool.{false}
use Rattle.pairing.specs.Pairing.{is_tab}
use Rattle.pairing.proofs.find_tab.Given as goal

abbrev pub invariant-loop-i : goal.invariant-loop-i
invariant-loop-i l = (k : ℕ) → k < l.i → is_tab l.line k ≡ false
