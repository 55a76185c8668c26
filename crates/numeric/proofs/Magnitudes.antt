-- Laws of magnitudes: they are totally ordered, leading zeros and what follows the digits don't matter, what starts with no digit
-- is infinity, and one digit more is ten times the value and the digit.
-- Assumes nothing.
use mathlib.Core.Path.{◌≡◌, refl, sym, ap, ◌∙◌}
use Prim.Native.Nat.{Ordering}
use Prim.Native.Nat.{ℕ, zero, suc, ◌+◌, ◌-◌, ◌*◌}
use native.Mathlib.Omega.{arith}
use mathlib.Core.Bool.{true, false, not, cond}
use mathlib.Core.List.{List, [], ◌∷◌, ◌++◌}
use lib.Dec.{compare_is_eq}
use lib.ListN.{drop, replicate}
use borrow.Author.Tests.{not-true, not-false}
use Rattle.terms.specs.Lists.{all, empty}
use Rattle.octets.proofs.Orders.{flip, TotalOrder}
use Rattle.octets.proofs.Order.{compare_refl, compare-equal, compare-below, compare-less, compare-flip}
use Rattle.numeric.specs.Numbers.{digit, run, value_from, value, Magnitude, finite, infinite, magnitude_of}
use Rattle.numeric.specs.Numbers.{order_of_magnitudes, same_magnitude}
use Rattle.numeric.specs.Runs.{leading_zeros, shorter_first}
use Rattle.numeric.proofs.Values.{value_from-more}
use Rattle.numeric.proofs.Runs.{run-append, value-replicate, values-past}

-- ---- the order

order-refl : (a : Magnitude) → order_of_magnitudes a a ≡ Ordering.eq
order-refl (finite a) = compare_refl a
order-refl infinite = refl

order-equal : (a b : Magnitude) → order_of_magnitudes a b ≡ Ordering.eq → a ≡ b
order-equal (finite a) (finite b) e = ap finite (compare-equal a b e)
order-equal (finite a) infinite e = cc
order-equal infinite (finite b) e = cc
order-equal infinite infinite e = refl

order_same : (a b : Magnitude) → compare_is_eq (order_of_magnitudes a b) ≡ same_magnitude a b
order_same (finite a) (finite b) = refl
order_same (finite a) infinite = refl
order_same infinite (finite b) = refl
order_same infinite infinite = refl

order_flip : (a b : Magnitude) → order_of_magnitudes b a ≡ flip (order_of_magnitudes a b)
order_flip (finite a) (finite b) = compare-flip a b
order_flip (finite a) infinite = refl
order_flip infinite (finite b) = refl
order_flip infinite infinite = refl

order_trans : (a b c : Magnitude) → order_of_magnitudes a b ≡ Ordering.lt → order_of_magnitudes b c ≡ Ordering.lt
    → order_of_magnitudes a c ≡ Ordering.lt
order_trans (finite a) (finite b) (finite c) e f =
    let first = compare-less a b e in
    let second = compare-less b c f in
    compare-below a c (omega arith)
order_trans (finite a) b infinite e f = refl
order_trans (finite a) infinite (finite c) e f = cc
order_trans infinite (finite b) c e f = cc
order_trans infinite infinite c e f = cc

-- magnitudes are totally ordered
pub magnitudes-ordered : TotalOrder order_of_magnitudes same_magnitude
magnitudes-ordered =
    record { tie = order-refl; tied = order-equal; tested = order_same; turns = order_flip; less = order_trans }

-- ---- what does not matter

-- a text that starts with a digit is a number
magnitude-digit : (d : ℕ) (t : List ℕ) → digit d ≡ true → magnitude_of (d ∷ t) ≡ finite (value (run (d ∷ t)))
unfolding run
magnitude-digit d t e = rw e

-- leading zeros
pub magnitude-zeros : (n d : ℕ) (t : List ℕ) → digit d ≡ true
    → magnitude_of (replicate n 0x30 ++ d ∷ t) ≡ magnitude_of (d ∷ t)
unfolding run value_from
magnitude-zeros zero d t e = refl
magnitude-zeros (suc n) d t e = ap finite (value-replicate n (d ∷ t)) ∙ sym (magnitude-digit d t e)

-- what follows the digits
pub magnitude-run : (ds rest : List ℕ) → empty ds ≡ false → all digit ds ≡ true → run rest ≡ []
    → magnitude_of (ds ++ rest) ≡ finite (value ds)
magnitude-run ds rest e p f = rw (run-append ds rest p f, e)

-- ---- infinity

-- a text that starts with no digit is infinity
pub magnitude-infinite : (t : List ℕ) → run t ≡ [] → magnitude_of t ≡ infinite
magnitude-infinite t e = rw e

-- and no other text is
pub magnitude-infinite-only : (t : List ℕ) → magnitude_of t ≡ infinite → run t ≡ []
magnitude-infinite-only t = go (run t)
  where
    go : (ds : List ℕ) → cond (empty ds) infinite (finite (value ds)) ≡ infinite → ds ≡ []
    go [] e = refl
    go (d ∷ ds) e = cc

-- ---- the value

-- one digit more: ten times the value, and the digit
pub value-more : (ds : List ℕ) (d : ℕ) → value (ds ++ d ∷ []) ≡ value ds * 10 + (d - 0x30)
value-more ds d = value_from-more 0 ds d

-- ---- the order of two texts, by whether each starts with a digit

module _ (s t : List ℕ) where
  -- neither does
  pub order-neither : not (empty (run s)) ≡ false → not (empty (run t)) ≡ false
      → order_of_magnitudes (magnitude_of s) (magnitude_of t) ≡ Ordering.eq
  order-neither p q = rw (not-false (empty (run s)) p, not-false (empty (run t)) q)

  -- the first does
  pub order-first : not (empty (run s)) ≡ true → not (empty (run t)) ≡ false
      → order_of_magnitudes (magnitude_of s) (magnitude_of t) ≡ Ordering.lt
  order-first p q = rw (not-true (empty (run s)) p, not-false (empty (run t)) q)

  -- the second does
  pub order-second : not (empty (run s)) ≡ false → not (empty (run t)) ≡ true
      → order_of_magnitudes (magnitude_of s) (magnitude_of t) ≡ Ordering.gt
  order-second p q = rw (not-false (empty (run s)) p, not-true (empty (run t)) q)

  -- both do: their runs past the zeros decide
  pub order-both : not (empty (run s)) ≡ true → not (empty (run t)) ≡ true
      → order_of_magnitudes (magnitude_of s) (magnitude_of t)
      ≡ shorter_first (run (drop (leading_zeros s) s)) (run (drop (leading_zeros t) t))
  order-both p q = rw (not-true (empty (run s)) p, not-true (empty (run t)) q) (values-past s t)
