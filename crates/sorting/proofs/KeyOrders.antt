-- The order of numbers by their keys is transitive and total, and its ties are one number.
-- Assumes nothing.
use mathlib.Core.Path.{◌≡◌, refl, sym, ap, ◌∙◌}
use Prim.Native.Nat.{ℕ, ◌≤◌, ◌<◌, Ordering}
use native.Mathlib.Omega.{arith}
use mathlib.Core.Bool.{true, false, true≢false}
use mathlib.Core.List.{List}
use borrow.Author.Tests.{le-leb, leb-true, leb-false}
use Rattle.std.specs.declared.cmp.Ordering as std
use Rattle.octets.specs.Order.{order_of, compared_order}
use Rattle.octets.proofs.Order.{order-equal, order-refl, order_flip, order_trans}
use Rattle.octets.proofs.Orders.{flip}
use Rattle.sorting.specs.KeyOrder.{may_precede, key_order}

module _ (key : ℕ → List ℕ) where
  -- by the order of the keys
  pub key_order-by : (x y : ℕ) (o : Ordering) → order_of (key x) (key y) ≡ o → key_order key x y ≡ may_precede o x y
  unfolding key_order
  key_order-by x y o e = ap (λ (p : Ordering). may_precede p x y) e

  -- by how the keys compare
  pub key_order-compared : (x y : ℕ) {a b : List ℕ} {o p : std.Ordering} → a ≡ key x → b ≡ key y
      → compared_order o ≡ order_of a b → o ≡ p → may_precede (compared_order p) x y ≡ key_order key x y
  key_order-compared x y f g compared is =
      sym (key_order-by x y _ (rw (← f, ← g, ← is) (sym compared)))

  -- a number that may stand before another has no greater key
  pub key_order-keys : (x y : ℕ) → key_order key x y ≡ true → order_of (key x) (key y) ≡ Ordering.gt → ⊥
  key_order-keys x y h e = true≢false (sym h ∙ key_order-by x y Ordering.gt e)

  -- and is not above it where they have one key
  pub key_order-tie : (x y : ℕ) → key_order key x y ≡ true → key x ≡ key y → x ≤ y
  key_order-tie x y h e = leb-true x y (sym (key_order-by x y Ordering.eq (rw e (order-refl (key y)))) ∙ h)

  pub key_order-total : (x y : ℕ) → key_order key x y ≡ false → key_order key y x ≡ true
  key_order-total x y h = go (order_of (key x) (key y)) refl
    where
      go : (o : Ordering) → order_of (key x) (key y) ≡ o → key_order key y x ≡ true
      go Ordering.lt e = absurd (true≢false (sym (key_order-by x y Ordering.lt e) ∙ h))
      go Ordering.eq e =
          let above : y < x = leb-false x y (sym (key_order-by x y Ordering.eq e) ∙ h) in
          key_order-by y x Ordering.eq (order_flip (key x) (key y) ∙ ap flip e) ∙ le-leb y x (omega arith)
      go Ordering.gt e = key_order-by y x Ordering.lt (order_flip (key x) (key y) ∙ ap flip e)

  pub key_order-trans : (x y z : ℕ) → key_order key x y ≡ true → key_order key y z ≡ true → key_order key x z ≡ true
  key_order-trans x y z h k = go (order_of (key x) (key y)) (order_of (key y) (key z)) refl refl
    where
      go : (o p : Ordering) → order_of (key x) (key y) ≡ o → order_of (key y) (key z) ≡ p → key_order key x z ≡ true
      go Ordering.lt Ordering.lt e f = key_order-by x z Ordering.lt (order_trans (key x) (key y) (key z) e f)
      go Ordering.lt Ordering.eq e f =
          key_order-by x z Ordering.lt (ap (λ (b : List ℕ). order_of (key x) b) (sym (order-equal (key y) (key z) f)) ∙ e)
      go Ordering.eq Ordering.lt e f =
          key_order-by x z Ordering.lt (ap (λ (a : List ℕ). order_of a (key z)) (order-equal (key x) (key y) e) ∙ f)
      go Ordering.eq Ordering.eq e f =
          let low : x ≤ y = leb-true x y (sym (key_order-by x y Ordering.eq e) ∙ h) in
          let high : y ≤ z = leb-true y z (sym (key_order-by y z Ordering.eq f) ∙ k) in
          key_order-by x z Ordering.eq (ap (λ (a : List ℕ). order_of a (key z)) (order-equal (key x) (key y) e) ∙ f)
          ∙ le-leb x z (omega arith)
      go Ordering.gt p e f = absurd (true≢false (sym h ∙ key_order-by x y Ordering.gt e))
      go Ordering.lt Ordering.gt e f = absurd (true≢false (sym k ∙ key_order-by y z Ordering.gt f))
      go Ordering.eq Ordering.gt e f = absurd (true≢false (sym k ∙ key_order-by y z Ordering.gt f))
