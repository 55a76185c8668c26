-- What is so of a list in order: it has the same elements, each as often, and each may stand before all after it.
-- Assumes nothing.
use mathlib.Core.Path.{◌≡◌, refl, ap, ◌∙◌}
use Prim.Native.Nat.{ℕ, zero, suc, ◌+◌, ◌<◌}
use native.Mathlib.Omega.{arith}
use mathlib.Core.Bool.{Bool, true, false, ◌&&◌}
use mathlib.Core.List.{List, [], ◌∷◌}
use lib.ListN.{length, get_or}
use Rattle.terms.specs.Lists.{all, total}
use Rattle.terms.proofs.Tests.{both, join}
use Rattle.terms.proofs.Lists.{all-at, all-mono}
use Rattle.sorting.specs.Sorted.{insert, sorted, ascending}

-- two tests exchanged
and-swap : (a b c : Bool) → a && (b && c) ≡ b && (a && c)
and-swap true b c = refl
and-swap false true c = refl
and-swap false false c = refl

-- ---- the same elements

module _ (le : ℕ → ℕ → Bool) where
  all_insert : (p : ℕ → Bool) (x : ℕ) (ys : List ℕ) → all p (insert le x ys) ≡ p x && all p ys
  unfolding insert
  all_insert p x [] = refl
  all_insert p x (y ∷ ys) = go (le x y) refl (all_insert p x ys)
    where
      go : (b : Bool) → le x y ≡ b → all p (insert le x ys) ≡ p x && all p ys
          → all p (insert le x (y ∷ ys)) ≡ p x && all p (y ∷ ys)
      go true e h = rw e
      go false e h = rw (e, h) (and-swap (p y) (p x) (all p ys))

  pub all-sorted : (p : ℕ → Bool) (xs : List ℕ) → all p (sorted le xs) ≡ all p xs
  unfolding sorted
  all-sorted p [] = refl
  all-sorted p (x ∷ xs) = all_insert p x (sorted le xs) ∙ ap (λ (b : Bool). p x && b) (all-sorted p xs)

  total-insert : (f : ℕ → ℕ) (x : ℕ) (ys : List ℕ) → total f (insert le x ys) ≡ f x + total f ys
  unfolding insert total
  total-insert f x [] = refl
  total-insert f x (y ∷ ys) = go (le x y) refl (total-insert f x ys)
    where
      go : (b : Bool) → le x y ≡ b → total f (insert le x ys) ≡ f x + total f ys
          → total f (insert le x (y ∷ ys)) ≡ f x + total f (y ∷ ys)
      go true e h = rw e
      go false e h = rw e (omega (arith, h))

  -- sums over the list in order are sums over the list
  pub total-sorted : (f : ℕ → ℕ) (xs : List ℕ) → total f (sorted le xs) ≡ total f xs
  unfolding sorted total
  total-sorted f [] = refl
  total-sorted f (x ∷ xs) = total-insert f x (sorted le xs) ∙ ap (λ (n : ℕ). f x + n) (total-sorted f xs)

  length-insert : (x : ℕ) (ys : List ℕ) → length (insert le x ys) ≡ suc (length ys)
  unfolding insert
  length-insert x [] = refl
  length-insert x (y ∷ ys) = go (le x y) refl (length-insert x ys)
    where
      go : (b : Bool) → le x y ≡ b → length (insert le x ys) ≡ suc (length ys)
          → length (insert le x (y ∷ ys)) ≡ suc (length (y ∷ ys))
      go true e h = rw e
      go false e h = rw e (ap suc h)

  pub length-sorted : (xs : List ℕ) → length (sorted le xs) ≡ length xs
  unfolding sorted
  length-sorted [] = refl
  length-sorted (x ∷ xs) = length-insert x (sorted le xs) ∙ ap suc (length-sorted xs)

  -- fewer than two elements are in order
  pub sorted-short : (xs : List ℕ) → length xs < 2 → sorted le xs ≡ xs
  unfolding sorted insert
  sorted-short [] h = refl
  sorted-short (x ∷ []) h = refl
  sorted-short (x ∷ y ∷ xs) h = absurd (omega arith)

  -- ---- in order

  -- what stands at a place of a list in order may stand before what stands at a later one
  pub ascending-at : (xs : List ℕ) (i j : ℕ) → ascending le xs ≡ true → i < j → j < length xs
      → le (get_or xs i 0) (get_or xs j 0) ≡ true
  unfolding ascending
  ascending-at [] i j a h k = absurd (omega arith)
  ascending-at (x ∷ xs) i zero a h k = absurd (omega arith)
  ascending-at (x ∷ xs) zero (suc j) a h k =
      all-at (le x) xs j 0 (both (all (le x) xs) (ascending le xs) a).0 (omega arith)
  ascending-at (x ∷ xs) (suc i) (suc j) a h k =
      ascending-at xs i j (both (all (le x) xs) (ascending le xs) a).1 (omega arith) (omega arith)

  module _
      (trans : (a b c : ℕ) → le a b ≡ true → le b c ≡ true → le a c ≡ true)
      (total : (a b : ℕ) → le a b ≡ false → le b a ≡ true) where
    insert-ascending : (x : ℕ) (ys : List ℕ) → ascending le ys ≡ true → ascending le (insert le x ys) ≡ true
    unfolding insert ascending
    insert-ascending x [] h = refl
    insert-ascending x (y ∷ ys) h =
        let first = both (all (le y) ys) (ascending le ys) h in go (le x y) refl first.0 (insert-ascending x ys first.1)
      where
        go : (b : Bool) → le x y ≡ b → all (le y) ys ≡ true → ascending le (insert le x ys) ≡ true
            → ascending le (insert le x (y ∷ ys)) ≡ true
        go true e first rest =
            rw e
            (join (le x y && all (le x) ys) (ascending le (y ∷ ys))
            (join (le x y) (all (le x) ys) e (all-mono (le y) (le x) (λ z. trans x y z e) ys first))
            h)
        go false e first rest =
            rw e
            (join (all (le y) (insert le x ys)) (ascending le (insert le x ys))
            (all_insert (le y) x ys ∙ join (le y x) (all (le y) ys) (total x y e) first)
            rest)

    pub sorted-ascending : (xs : List ℕ) → ascending le (sorted le xs) ≡ true
    unfolding sorted ascending
    sorted-ascending [] = refl
    sorted-ascending (x ∷ xs) = insert-ascending x (sorted le xs) (sorted-ascending xs)
