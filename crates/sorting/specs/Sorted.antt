-- Lists in order (document 02, request 3: "in key order, ties by position"). The order is a test, which says of two numbers
-- whether the first may stand before the second.
-- Assumes nothing.
use Rattle.std.specs.Prelude.{ℕ, zero, suc, Bool, true, cond, ◌&&◌, List, [], ◌∷◌}
use Rattle.terms.specs.Lists.{all}

-- a number put into a list, before the first that it may stand before
unfoldable pub insert : (ℕ → ℕ → Bool) → ℕ → List ℕ → List ℕ
insert le x [] = x ∷ []
insert le x (y ∷ ys) = cond (le x y) (x ∷ y ∷ ys) (y ∷ insert le x ys)

-- a list in order: each number put into the rest in order
unfoldable pub sorted : (ℕ → ℕ → Bool) → List ℕ → List ℕ
sorted le [] = []
sorted le (x ∷ xs) = insert le x (sorted le xs)

-- each number of a list may stand before all that come after it
unfoldable pub ascending : (ℕ → ℕ → Bool) → List ℕ → Bool
ascending le [] = true
ascending le (x ∷ xs) = all (le x) xs && ascending le xs

-- two lists merged: of their first numbers always the one that may stand before the other
unfoldable pub merged : (ℕ → ℕ → Bool) → List ℕ → List ℕ → List ℕ
merged le [] ys = ys
merged le (x ∷ xs) [] = x ∷ xs
merged le (x ∷ xs) (y ∷ ys) = cond (le x y) (x ∷ merged le xs (y ∷ ys)) (y ∷ merged le (x ∷ xs) ys)

-- so many numbers from one on, each one more than the one before
unfoldable pub numbers : ℕ → ℕ → List ℕ
numbers x zero = []
numbers x (suc n) = x ∷ numbers (suc x) n
