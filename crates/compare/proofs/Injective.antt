-- An answer of equality or order is fixed by its numbers.
-- Assumes nothing.
use mathlib.Core.Path.{◌≡◌, refl}
use mathlib.Core.List.{[], ◌∷◌}
use Rattle.std.specs.Prelude.{Bool, true, false}
use Rattle.std.specs.declared.cmp.Ordering as std
use Rattle.std.specs.declared.cmp.Ordering.TheVariants.{Less, Equal, Greater}
use Rattle.terms.proofs.Injective.{outcome-inj}
use Rattle.octets.specs.Order.{compared_order}
use Rattle.compare.specs.Compare.{Equality, Ordered, match_number, order_number, equality_outcome, order_outcome}

match-inj : (a b : Bool) → match_number a ∷ [] ≡ match_number b ∷ [] → a ≡ b
match-inj true true e = refl
match-inj true false e = cc
match-inj false true e = cc
match-inj false false e = refl

order-inj : (a b : std.Ordering) → order_number (compared_order a) ∷ [] ≡ order_number (compared_order b) ∷ [] → a ≡ b
order-inj Less Less e = refl
order-inj Less Equal e = cc
order-inj Less Greater e = cc
order-inj Equal Less e = cc
order-inj Equal Equal e = refl
order-inj Equal Greater e = cc
order-inj Greater Less e = cc
order-inj Greater Equal e = cc
order-inj Greater Greater e = refl

-- equality with the same numbers is the same answer
pub equality_outcome-inj : (x y : Equality) → equality_outcome x ≡ equality_outcome y → x ≡ y
equality_outcome-inj x y e = outcome-inj (λ m. match_number m ∷ []) match-inj x y e

-- order with the same numbers is the same answer
pub order_outcome-inj : (x y : Ordered) → order_outcome x ≡ order_outcome y → x ≡ y
order_outcome-inj x y e = outcome-inj (λ o. order_number (compared_order o) ∷ []) order-inj x y e
