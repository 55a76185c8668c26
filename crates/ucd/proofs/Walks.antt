-- Walking a list from its start: what is left is the element there and what is left after it. Which lists are empty.
-- Assumes nothing.
use mathlib.Core.Path.{◌≡◌, refl}
use Prim.Native.Nat.{ℕ, ◌+◌, ◌<◌}
use native.Mathlib.Numerals.{add-one}
use native.Mathlib.Omega.{arith}
use mathlib.Core.Bool.{Bool, true, false}
use mathlib.Core.List.{List, [], ◌∷◌}
use lib.ListN.{length, drop, get_or}
use lib.Seq.{drop-cons}
use Rattle.std.specs.List.{list_all}
use Rattle.terms.specs.Lists.{all, empty}

-- a list from a place on: the element there, and the list from the next place on
pub drop-one : (t : List ℕ) (i : ℕ) → i < length t → drop i t ≡ get_or t i 0 ∷ drop (i + 1) t
drop-one t i h = rw (add-one i, drop-cons t i 0 h)

-- a test of all elements is std's
pub all_std : (f : ℕ → Bool) (t : List ℕ) → all f t ≡ list_all f t
all_std f [] = refl
all_std f (x ∷ xs) = rw (all_std f xs)

-- a list of no elements is empty
pub empty-yes : (t : List ℕ) → length t ≡ 0 → empty t ≡ true
empty-yes [] e = refl
empty-yes (x ∷ xs) e = absurd (omega arith)

-- a list of some elements is not
pub empty-no : (t : List ℕ) → (length t ≡ 0 → ⊥) → empty t ≡ false
empty-no [] ne = absurd (ne refl)
empty-no (x ∷ xs) ne = refl
