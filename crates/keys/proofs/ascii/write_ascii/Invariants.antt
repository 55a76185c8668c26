-- `keys::ascii::write_ascii` meets its contract. The loop's invariant: the first `at` octets of the text were raised and written
-- (`Raising`), into as many of the key (`end`). The measure is what is left of the text.
-- Assumes nothing.
use mathlib.Core.Path.{◌≡◌}
use Prim.Native.Nat.{◌-◌}
use lib.ListN.{length}
use Rattle.keys.proofs.Raising.{Raising}
use Rattle.keys.proofs.ascii.write_ascii.Given as goal

abbrev pub invariant-loop-at : goal.invariant-loop-at
invariant-loop-at l = (l.end.0 ≡ l.at.0) × Raising l.text l.initial.key l.at.0 l.key

abbrev pub decreases-loop-at : goal.decreases-loop-at
decreases-loop-at l = length l.text - l.at.0
