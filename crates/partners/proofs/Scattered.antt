-- A value of each number of a list, stored at that number: in whatever order it is done, and for numbers in a row.
-- Assumes nothing.
use mathlib.Core.Path.{◌≡◌, refl, sym, ap, ◌∙◌}
use Prim.Native.Nat.{ℕ, zero, suc, ◌+◌, ◌≤◌}
use native.Mathlib.Omega.{arith}
use native.Mathlib.Decide.{ℕ_discrete}
use mathlib.Core.Bool.{Bool, true, false}
use mathlib.Core.List.{List, [], ◌∷◌, ◌++◌, map}
use lib.ListN.{length, take, drop, set, get_or, length-set, length-map, take-append-drop}
use lib.Seq.{set_comm, set_at, length-take-le, take-suc, append_snoc}
use Rattle.terms.specs.Lists.{over}
use Rattle.sorting.specs.Sorted.{insert, sorted, numbers}
use Rattle.partners.proofs.Those.{length-numbers}

-- a slice after the value of each number of a list was stored at the number, the last first
unfoldable pub scattered : (ℕ → ℕ) → List ℕ → List ℕ → List ℕ
scattered f [] slice = slice
scattered f (x ∷ xs) slice = set (scattered f xs slice) x (f x)

module _ (f : ℕ → ℕ) where
  pub length-scattered : (xs slice : List ℕ) → length (scattered f xs slice) ≡ length slice
  unfolding scattered
  length-scattered [] slice = refl
  length-scattered (x ∷ xs) slice = length-set (scattered f xs slice) x (f x) ∙ length-scattered xs slice

  -- two numbers, in either order
  exchanged : (x y : ℕ) (slice : List ℕ) → set (set slice x (f x)) y (f y) ≡ set (set slice y (f y)) x (f x)
  exchanged x y slice = go (ℕ_discrete x y)
    where
      go : Dec (x ≡ y) → set (set slice x (f x)) y (f y) ≡ set (set slice y (f y)) x (f x)
      go (yes e) = rw e
      go (no e) = set_comm slice x y (f x) (f y) e

  module _ (le : ℕ → ℕ → Bool) where
    scattered-insert : (x : ℕ) (ys slice : List ℕ) → scattered f (insert le x ys) slice ≡ scattered f (x ∷ ys) slice
    unfolding insert scattered
    scattered-insert x [] slice = refl
    scattered-insert x (y ∷ ys) slice = go (le x y) refl (scattered-insert x ys slice)
      where
        go : (b : Bool) → le x y ≡ b → scattered f (insert le x ys) slice ≡ scattered f (x ∷ ys) slice
            → scattered f (insert le x (y ∷ ys)) slice ≡ scattered f (x ∷ y ∷ ys) slice
        go true e h = rw e
        go false e h =
            rw e (ap (λ (s : List ℕ). set s y (f y)) h ∙ exchanged x y (scattered f ys slice))

    pub scattered-sorted : (xs slice : List ℕ) → scattered f (sorted le xs) slice ≡ scattered f xs slice
    unfolding sorted scattered
    scattered-sorted [] slice = refl
    scattered-sorted (x ∷ xs) slice =
        scattered-insert x (sorted le xs) slice ∙ ap (λ (s : List ℕ). set s x (f x)) (scattered-sorted xs slice)

  -- numbers in a row
  scattered-from : (x n : ℕ) (slice : List ℕ) → x + n ≤ length slice
      → scattered f (numbers x n) slice ≡ take x slice ++ (map f (numbers x n) ++ drop (x + n) slice)
  unfolding scattered numbers
  scattered-from x zero slice h =
      let None : x ≡ x + 0 = omega arith in
      sym (take-append-drop x slice) ∙ ap (λ (n : ℕ). take x slice ++ drop n slice) None
  scattered-from x (suc n) slice h =
      let rest = map f (numbers (suc x) n) in
      let more : suc x + n ≡ x + suc n = omega arith in
      ap (λ (s : List ℕ). set s x (f x))
      (scattered-from (suc x) n slice (omega arith)
      ∙ ap (λ (t : List ℕ). t ++ (rest ++ drop (suc x + n) slice)) (take-suc slice x 0 (omega arith))
      ∙ append_snoc (take x slice) (get_or slice x 0) (rest ++ drop (suc x + n) slice))
      ∙ set_at (take x slice) (get_or slice x 0) (rest ++ drop (suc x + n) slice) (f x) x (length-take-le x slice (omega arith))
      ∙ ap (λ (k : ℕ). take x slice ++ f x ∷ (rest ++ drop k slice)) more

  pub scattered-numbers : (n : ℕ) (slice : List ℕ) → n ≤ length slice
      → scattered f (numbers 0 n) slice ≡ over (map f (numbers 0 n)) slice
  scattered-numbers n slice h =
      let count : 0 + n ≡ length (map f (numbers 0 n)) = omega (arith, length-map (numbers 0 n) f, length-numbers 0 n) in
      scattered-from 0 n slice (omega arith)
      ∙ ap (λ (k : ℕ). map f (numbers 0 n) ++ drop k slice) count
