-- The order of lists of octets, as keys are ordered: "Order compares keys octet by octet, unsigned; a proper prefix is less."
-- `compare` and its three answers are the library's, on numbers.
-- Assumes nothing.
use Prim.Native.Nat.{ℕ, compare, Ordering}
use Rattle.std.specs.Prelude.{List, [], ◌∷◌}
use Rattle.std.specs.declared.cmp.Ordering as std
use Rattle.std.specs.declared.cmp.Ordering.TheVariants.{Less, Equal, Greater}

-- the first of two comparisons that tells a difference
abbrev pub and_then : Ordering → Ordering → Ordering
and_then Ordering.lt o = Ordering.lt
and_then Ordering.eq o = o
and_then Ordering.gt o = Ordering.gt

-- the order of two lists of octets
unfoldable pub order_of : List ℕ → List ℕ → Ordering
order_of [] [] = Ordering.eq
order_of [] (b ∷ ys) = Ordering.lt
order_of (a ∷ xs) [] = Ordering.gt
order_of (a ∷ xs) (b ∷ ys) = and_then (compare a b) (order_of xs ys)

-- the order that a comparison answers
abbrev pub compared_order : std.Ordering → Ordering
compared_order Less = Ordering.lt
compared_order Equal = Ordering.eq
compared_order Greater = Ordering.gt
