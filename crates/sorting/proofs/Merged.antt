-- Merging two lists in order gives the whole in order: a number put into two merged lists is put into the first of them. No
-- argument about permutations is needed.
-- Assumes nothing.
use mathlib.Core.Path.{◌≡◌, refl, sym, ap, ◌∙◌}
use Prim.Native.Nat.{ℕ}
use mathlib.Core.Bool.{Bool, true, false, cond, true≢false}
use mathlib.Core.List.{List, [], ◌∷◌, ◌++◌}
use Rattle.sorting.specs.Sorted.{insert, sorted, merged}

module _ (le : ℕ → ℕ → Bool) where
  -- nothing to merge with
  pub merged-none : (xs : List ℕ) → merged le xs [] ≡ xs
  unfolding merged
  merged-none [] = refl
  merged-none (x ∷ xs) = refl

  -- one number
  merged-one : (x : ℕ) (ys : List ℕ) → insert le x ys ≡ merged le (x ∷ []) ys
  unfolding merged insert
  merged-one x [] = refl
  merged-one x (y ∷ ys) = ap (λ (t : List ℕ). cond (le x y) (x ∷ y ∷ ys) (y ∷ t)) (merged-one x ys)

  module _
      (trans : (a b c : ℕ) → le a b ≡ true → le b c ≡ true → le a c ≡ true)
      (total : (a b : ℕ) → le a b ≡ false → le b a ≡ true) where
    pub insert-merged : (x : ℕ) (us vs : List ℕ) → insert le x (merged le us vs) ≡ merged le (insert le x us) vs
    unfolding merged insert
    insert-merged x [] vs = merged-one x vs
    insert-merged x (a ∷ us) [] = sym (merged-none (insert le x (a ∷ us)))
    insert-merged x (a ∷ us) (b ∷ vs) =
        go (le x a) (le a b) (le x b) refl refl refl (insert-merged x us (b ∷ vs)) (insert-merged x (a ∷ us) vs)
      where
        go : (p q r : Bool) → le x a ≡ p → le a b ≡ q → le x b ≡ r
            → insert le x (merged le us (b ∷ vs)) ≡ merged le (insert le x us) (b ∷ vs)
            → insert le x (merged le (a ∷ us) vs) ≡ merged le (insert le x (a ∷ us)) vs
            → insert le x (merged le (a ∷ us) (b ∷ vs)) ≡ merged le (insert le x (a ∷ us)) (b ∷ vs)
        go true true true e f g h k = rw (f, e, g, f)
        go true true false e f g h k = absurd (true≢false (sym (trans x a b e f) ∙ g))
        go true false true e f g h k = rw (f, e, g, f)
        go true false false e f g h k = rw (f, e, g) (rw e at (ap (λ (t : List ℕ). b ∷ t) k))
        go false true r e f g h k = rw (f, e, f) (ap (λ (t : List ℕ). a ∷ t) h)
        go false false true e f g h k = absurd (true≢false (sym (trans x b a g (total a b f)) ∙ e))
        go false false false e f g h k = rw (f, g, e, f) (rw e at (ap (λ (t : List ℕ). b ∷ t) k))

    pub sorted-append : (xs ys : List ℕ) → sorted le (xs ++ ys) ≡ merged le (sorted le xs) (sorted le ys)
    unfolding sorted merged
    sorted-append [] ys = refl
    sorted-append (x ∷ xs) ys =
        ap (λ (t : List ℕ). insert le x t) (sorted-append xs ys) ∙ insert-merged x (sorted le xs) (sorted le ys)
