-- Orders whose ties are exactly the equal values, over any type: what such an order is, and what follows of it. Keys are ordered
-- so (`keys-ordered` of Order.antt).
-- Assumes nothing.
use Prim.Native.Nat.{ℕ, Ordering}
use native.Mathlib.Omega.{arith}
use mathlib.Core.Path.{◌≡◌, refl, ap, ◌∙◌}
use mathlib.Core.Bool.{Bool}
use mathlib.Core.Logic.{◌⊎◌, inl, inr}
use lib.Dec.{compare_is_eq}

-- an order with its two sides exchanged
abbrev pub flip : Ordering → Ordering
flip Ordering.lt = Ordering.gt
flip Ordering.eq = Ordering.eq
flip Ordering.gt = Ordering.lt

-- a total order, with the test of its ties
pub record TotalOrder {A : Type 0} (order : A → A → Ordering) (same : A → A → Bool) : Type 0 where
  -- a value ties with itself
  pub tie : (a : A) → order a a ≡ Ordering.eq
  -- values that tie are equal
  pub tied : (a b : A) → order a b ≡ Ordering.eq → a ≡ b
  -- the test tells the ties
  pub tested : (a b : A) → compare_is_eq (order a b) ≡ same a b
  -- the order turns round with its arguments
  pub turns : (a b : A) → order b a ≡ flip (order a b)
  -- less than what is less is less
  pub less : (a b c : A) → order a b ≡ Ordering.lt → order b c ≡ Ordering.lt → order a c ≡ Ordering.lt

-- less is not greater, and a tie is not
less_not_greater : {o : Ordering} → o ≡ Ordering.lt → o ≡ Ordering.gt → ⊥
less_not_greater p q = let z : ◌≡◌ {A = ℕ} 0 1 = cc in omega arith

equal-not-greater : {o : Ordering} → o ≡ Ordering.eq → o ≡ Ordering.gt → ⊥
equal-not-greater p q = let z : ◌≡◌ {A = ℕ} 0 1 = cc in omega arith

module _ {A : Type 0} {order : A → A → Ordering} {same : A → A → Bool} (h : TotalOrder order same) where
  -- not greater is less or equal
  pub at-most-is : (a b : A) → (order a b ≡ Ordering.gt → ⊥) → (order a b ≡ Ordering.lt) ⊎ (a ≡ b)
  at-most-is a b most = go (order a b) refl
    where
      go : (o : Ordering) → order a b ≡ o → (order a b ≡ Ordering.lt) ⊎ (a ≡ b)
      go Ordering.lt e = inl e
      go Ordering.eq e = inr (h.tied a b e)
      go Ordering.gt e = absurd (most e)

  -- a value is not greater than itself
  pub at-most-itself : (a : A) → order a a ≡ Ordering.gt → ⊥
  at-most-itself a = equal-not-greater (h.tie a)

  -- what is not greater than what is not greater is not greater
  pub at-most-on : (a b c : A) → (order a b ≡ Ordering.gt → ⊥) → (order b c ≡ Ordering.gt → ⊥) → order a c ≡ Ordering.gt → ⊥
  at-most-on a b c most next = go (at-most-is a b most) (at-most-is b c next)
    where
      go : (order a b ≡ Ordering.lt) ⊎ (a ≡ b) → (order b c ≡ Ordering.lt) ⊎ (b ≡ c) → order a c ≡ Ordering.gt → ⊥
      go (inl e) (inl f) = less_not_greater (h.less a b c e f)
      go (inl e) (inr f) = rw (← f) most
      go (inr e) f = rw e next

  -- of two values one is not greater than the other
  pub at-most-either : (a b : A) → (order a b ≡ Ordering.gt → ⊥) ⊎ (order b a ≡ Ordering.gt → ⊥)
  at-most-either a b = go (order a b) refl
    where
      go : (o : Ordering) → order a b ≡ o → (order a b ≡ Ordering.gt → ⊥) ⊎ (order b a ≡ Ordering.gt → ⊥)
      go Ordering.lt e = inl (less_not_greater e)
      go Ordering.eq e = inl (equal-not-greater e)
      go Ordering.gt e = inr (less_not_greater (h.turns a b ∙ ap flip e))
