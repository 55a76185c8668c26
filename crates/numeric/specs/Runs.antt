-- What the parts of the comparison promise: how many zeros are passed over, and how two runs of digits that begin with no zero
-- are ordered without their values.
-- Assumes nothing.
use Prim.Native.Nat.{ℕ, suc, compare, Ordering}
use Rattle.std.specs.Prelude.{cond, List, [], ◌∷◌, eqb, length}
use Rattle.octets.specs.Order.{and_then, order_of}

-- how many zeros a text begins with: "leading zeroes .. are disregarded"
unfoldable pub leading_zeros : List ℕ → ℕ
leading_zeros [] = 0
leading_zeros (o ∷ os) = cond (eqb o 0x30) (suc (leading_zeros os)) 0

-- the shorter of two runs is less, and of those as long the one with the lower digit where they first differ
abbrev pub shorter_first : List ℕ → List ℕ → Ordering
shorter_first xs ys = and_then (compare (length xs) (length ys)) (order_of xs ys)
