-- What equality and order answer, in the paper's numbers. `Called` of the crate prepare says the rest of such a call.
-- Assumes nothing.
use Rattle.std.specs.Prelude.{◌≡◌, Bool, true, false, cond, List, [], ◌∷◌, Option, None, Some, Result, Ok, Err}
use Prim.Native.Nat.{ℕ, Ordering}
use Rattle.terms.specs.Lists.{same}
use Rattle.terms.specs.Refusals.{Outcome, outcome, Given}
use Rattle.std.specs.declared.cmp.Ordering as std
use Rattle.std.specs.declared.cmp.Ordering.TheVariants.{Less, Equal, Greater}
use Rattle.terms.specs.declared.Refusal.{Refusal}
use Rattle.octets.specs.Order.{order_of, compared_order}
use Rattle.keys.specs.Keys.{PreparedText}
use Rattle.prepare.specs.Calls.{Call, prepared_in, Called}

-- ---- the answers

-- what equality answers: whether the texts match, or the refusal
abbrev pub Equality : Type 0
Equality = Result Bool Refusal

-- what order answers: how the texts are ordered, or the refusal; a refused order is no order
abbrev pub Ordered : Type 0
Ordered = Result std.Ordering Refusal

-- the number of a match, and of none
abbrev pub match_number : Bool → ℕ
match_number true = 1
match_number false = 2

-- equality: 1 match, 2 no-match
abbrev pub equality_outcome : Equality → Outcome
equality_outcome r = outcome (λ m. match_number m ∷ []) r

-- the number of an order
abbrev pub order_number : Ordering → ℕ
order_number Ordering.lt = 1
order_number Ordering.eq = 2
order_number Ordering.gt = 3

-- order: 1 less, 2 equal, 3 greater
abbrev pub order_outcome : Ordered → Outcome
order_outcome r = outcome (λ o. order_number (compared_order o) ∷ []) r

-- order by two keys: "Order compares keys octet by octet"
abbrev pub order_of_keys : List ℕ → List ℕ → ℕ
order_of_keys a b = order_number (order_of a b)

-- equality by two keys: "Equality is equality of keys"
abbrev pub equality_of_keys : List ℕ → List ℕ → ℕ
equality_of_keys a b = cond (same a b) 1 2

-- ---- the calls

-- a number by two texts' keys; nothing where the texts are not two
abbrev pub compared : (List ℕ → List ℕ → ℕ) → List PreparedText → Option (List ℕ)
compared number [] = None
compared number (p ∷ []) = None
compared number (p ∷ q ∷ []) = Some (number p.key q.key ∷ [])
compared number (p ∷ q ∷ r ∷ ps) = None

-- the values of a comparing call, of order and of equality
abbrev pub compared_values : (List ℕ → List ℕ → ℕ) → Call → Option (List ℕ)
compared_values number c = compared number (prepared_in c)

abbrev pub order_values : Call → Option (List ℕ)
order_values c = compared_values order_of_keys c

abbrev pub equality_values : Call → Option (List ℕ)
equality_values c = compared_values equality_of_keys c

-- ---- answers by an order of keys

-- an order of keys as an answer
abbrev pub ordered_by : Ordering → Ordered
ordered_by Ordering.lt = Ok Less
ordered_by Ordering.eq = Ok Equal
ordered_by Ordering.gt = Ok Greater

-- equality by an order: keys are equal where neither is less
abbrev pub equality_by : Ordered → Equality
equality_by (Ok Less) = Ok false
equality_by (Ok Equal) = Ok true
equality_by (Ok Greater) = Ok false
equality_by (Err r) = Err r

-- ---- answers that are no refusals

-- a call whose two texts are prepared to these gave this answer, which is no refusal
pub record Says {R : Type 0} (outcome : R → Outcome) (number : List ℕ → List ℕ → ℕ) (p q : PreparedText) (r : R) : Type 0 where
  pub call : Call
  pub after : List (List ℕ)
  pub called : Called outcome (compared_values number) call r after
  pub texts : prepared_in call ≡ p ∷ q ∷ []
  pub given : Given (outcome r)

-- a call of `order`, and one of `equal`
abbrev pub OrderSays : PreparedText → PreparedText → Ordered → Type 0
OrderSays p q r = Says order_outcome order_of_keys p q r

abbrev pub EqualSays : PreparedText → PreparedText → Equality → Type 0
EqualSays p q r = Says equality_outcome equality_of_keys p q r

-- an order with its two texts exchanged
abbrev pub flipped : Ordered → Ordered
flipped (Ok Less) = Ok Greater
flipped (Ok Equal) = Ok Equal
flipped (Ok Greater) = Ok Less
flipped (Err r) = Err r
