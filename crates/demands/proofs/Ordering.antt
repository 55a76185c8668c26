-- The order of keys is the one that document 01 describes: less is to precede, octet by octet.
-- Assumes nothing.
use Rattle.std.specs.declared.cmp.Ordering.TheVariants.{Less, Greater}
use Rattle.std.specs.Prelude.{Ok}
use mathlib.Core.Path.{◌≡◌, refl, sym, ◌∙◌}
use Prim.Native.Nat.{ℕ, compare, Ordering}
use native.Mathlib.Omega.{arith}
use mathlib.Core.Logic.{◌↔◌}
use mathlib.Core.List.{List, [], ◌∷◌}
use Rattle.octets.specs.Order.{order_of}
use Rattle.octets.proofs.Order.{compare_refl, compare-equal, compare-below, compare-less, order_flip}
use Rattle.octets.proofs.Orders.{flip}
use Rattle.keys.specs.Keys.{PreparedText}
use Rattle.compare.specs.Compare.{ordered_by, OrderSays}
use Rattle.compare.specs.Compare.{Ordered}
use Rattle.compare.proofs.Preorder.{answers-keys}
use Rattle.demands.specs.Demands.{Precedes, proper-prefix, lower, later}

less-precedes : (xs ys : List ℕ) → order_of xs ys ≡ Ordering.lt → Precedes xs ys
unfolding order_of
less-precedes [] [] e = let z : ◌≡◌ {A = ℕ} 0 1 = cc in absurd (omega arith)
less-precedes [] (b ∷ ys) e = proper-prefix
less-precedes (a ∷ xs) [] e = let z : ◌≡◌ {A = ℕ} 0 1 = cc in absurd (omega arith)
less-precedes (a ∷ xs) (b ∷ ys) e = go (compare a b) refl (less-precedes xs ys)
  where
    go : (o : Ordering) → compare a b ≡ o → (order_of xs ys ≡ Ordering.lt → Precedes xs ys) → Precedes (a ∷ xs) (b ∷ ys)
    go Ordering.lt f rest = lower (compare-less a b f)
    go Ordering.eq f rest = rw (compare-equal a b f) (later (rest (rw f at e)))
    go Ordering.gt f rest = let z : ◌≡◌ {A = ℕ} 0 1 = cc (rw f at e) in absurd (omega arith)

precedes-less : {xs ys : List ℕ} → Precedes xs ys → order_of xs ys ≡ Ordering.lt
unfolding order_of
precedes-less proper-prefix = refl
precedes-less (lower {a} {b} l) = rw (compare-below a b l)
precedes-less (later {a} p) = rw (compare_refl a) (precedes-less p)

less-is : (o : Ordering) → (ordered_by o ≡ Ok Less) ↔ (o ≡ Ordering.lt)
less-is Ordering.lt = (λ e. refl, λ e. refl)
less-is Ordering.eq = (λ e. cc, λ e. cc)
less-is Ordering.gt = (λ e. cc, λ e. cc)

greater-is : (o : Ordering) → (ordered_by o ≡ Ok Greater) ↔ (flip o ≡ Ordering.lt)
greater-is Ordering.lt = (λ e. cc, λ e. cc)
greater-is Ordering.eq = (λ e. cc, λ e. cc)
greater-is Ordering.gt = (λ e. refl, λ e. refl)

module _ {p q : PreparedText} {r : Ordered} (c : OrderSays p q r) where
  -- Less is answered exactly where the first key precedes the second
  pub less-exactly : (r ≡ Ok Less) ↔ Precedes p.key q.key
  less-exactly =
      let is = less-is (order_of p.key q.key) in (
        λ e. less-precedes p.key q.key (is.0 (sym (answers-keys c) ∙ e)),
        λ h. answers-keys c ∙ is.1 (precedes-less h),
      )

  -- and Greater where the second precedes the first
  pub greater-exactly : (r ≡ Ok Greater) ↔ Precedes q.key p.key
  greater-exactly =
      let is = greater-is (order_of p.key q.key) in
      let turned = order_flip p.key q.key in (
        λ e. less-precedes q.key p.key (turned ∙ is.0 (sym (answers-keys c) ∙ e)),
        λ h. answers-keys c ∙ is.1 (sym turned ∙ precedes-less h),
      )
