-- What the contracts of the merging step say.
-- Assumes nothing.
use Rattle.std.specs.Prelude.{◌≡◌, ℕ, ◌≤◌, Bool, true, false, List, [], ◌∷◌, ◌++◌, length, take, drop}
use Rattle.sorting.specs.Sorted.{merged}

-- of two lists the number that merging takes first is the first list's
abbrev pub first_left : (ℕ → ℕ → Bool) → List ℕ → List ℕ → Bool
first_left le [] ys = false
first_left le (x ∷ xs) [] = true
first_left le (x ∷ xs) (y ∷ ys) = le x y

-- the two parts of a row merged are the first n numbers of another, and after them those of the row itself
pub record Merges (le : ℕ → ℕ → Bool) (row : List ℕ) (half n : ℕ) (out : List ℕ) : Type 0 where
  pub within : n ≤ length row
  pub whole : take n out ++ drop n row ≡ merged le (take half row) (drop half row)
