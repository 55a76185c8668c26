-- Worked examples, by computation: two lists of keys of one octet each.
-- Assumes nothing.
use mathlib.Core.Path.{◌≡◌, refl}
use Prim.Native.Nat.{ℕ}
use mathlib.Core.List.{List, [], ◌∷◌, map}
use Rattle.terms.specs.Lists.{lowest, same, total}
use Rattle.octets.specs.Order.{order_of}
use Rattle.sorting.specs.Sorted.{insert, sorted, numbers}
use Rattle.sorting.specs.KeyOrder.{key_order}
use Rattle.partners.specs.Partners.{those, equal_pairs_of, partnered, partner_of, key_positions}

-- the first list has 5, 7, 5 and 9, the second 7, 5 and 5
abbrev first : List (List ℕ)
first = (5 ∷ []) ∷ (7 ∷ []) ∷ (5 ∷ []) ∷ (9 ∷ []) ∷ []

abbrev second : List (List ℕ)
second = (7 ∷ []) ∷ (5 ∷ []) ∷ (5 ∷ []) ∷ []

-- both 5s have two partners each, and 7 has one
pairs : equal_pairs_of first second ≡ 5
unfolding equal_pairs_of total those same
pairs = refl

names : partnered first second ≡ 3
unfolding partnered those same
names = refl

-- the lowest partner of each, from 1
lowest-partners : map (partner_of second) first ≡ 2 ∷ 1 ∷ 2 ∷ 0 ∷ []
unfolding partner_of lowest same
lowest-partners = refl

-- in key order, the 5s by position
positions : key_positions first ≡ 1 ∷ 3 ∷ 2 ∷ 4 ∷ []
unfolding key_positions sorted insert numbers key_order order_of
positions = refl
