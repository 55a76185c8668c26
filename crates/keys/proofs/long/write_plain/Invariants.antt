-- `keys::long::write_plain` meets its contract. The loop's invariant: over every table of which the row tells the text was walked up
-- to `i` (`Walking`), and the buffer keeps its length. Assumes nothing.
use mathlib.Core.Path.{◌≡◌}
use lib.ListN.{length}
use Rattle.keys.specs.Walks.{PlainWalked}
use Rattle.keys.proofs.long.write_plain.Given as goal

abbrev pub invariant-loop-i : goal.invariant-loop-i
invariant-loop-i l = (length l.key ≡ length l.initial.key) × PlainWalked l.row l.text l.initial.key l.i l.key
