-- `octets::compare_blocks` meets its contract. The loop's invariant: the order is that of what is left of each. The measure is
-- what is left of the first.
-- Assumes nothing.
use Prim.Native.Nat.{ℕ, ◌<◌}
use mathlib.Core.List.{List}
use mathlib.Core.Path.{◌≡◌}
use lib.ListN.{length, get_or}
use Rattle.octets.specs.Order.{order_of}
use Rattle.octets.proofs.compare_blocks.Given as goal

-- what is left of two slices, which are octets, decides their order
pub record Left (a b left_a left_b : List ℕ) : Type 0 where
  pub same : order_of a b ≡ order_of left_a left_b
  pub octets_a : (i : ℕ) → get_or left_a i 0 < 256
  pub octets_b : (i : ℕ) → get_or left_b i 0 < 256

abbrev pub invariant-loop-block_a : goal.invariant-loop-block_a
invariant-loop-block_a l = Left l.a l.b l.left_a l.left_b

abbrev pub decreases-loop-block_a : goal.decreases-loop-block_a
decreases-loop-block_a l = length l.left_a
