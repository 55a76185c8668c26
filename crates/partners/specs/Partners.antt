-- What two lists of keys share (document 02, request 3): "The totals are defined over all pairs, without sorting." Nothing here
-- says how it is found.
-- Assumes nothing.
use Rattle.std.specs.Prelude.{ℕ, suc, Bool, cond, not, List, [], ◌∷◌, map, length, get_or}
use Rattle.std.specs.Prelude.{Option, None, Some}
use Rattle.terms.specs.Lists.{empty, lowest, total, same}
use Rattle.sorting.specs.Sorted.{sorted, numbers}
use Rattle.sorting.specs.KeyOrder.{key_order}

-- those elements of a list that pass a test
unfoldable pub those {ℓ} : {A : Type ℓ} → (A → Bool) → List A → List A
those test [] = []
those test (x ∷ xs) = cond (test x) (x ∷ those test xs) (those test xs)

-- the keys of a list that are this key: its partners there
abbrev pub equal_to : List (List ℕ) → List ℕ → List (List ℕ)
equal_to qs k = those (same k) qs

-- "equal pairs across them"
unfoldable pub equal_pairs_of : List (List ℕ) → List (List ℕ) → ℕ
equal_pairs_of ks qs = total (λ k. length (equal_to qs k)) ks

-- "names of the first list with any partner"
unfoldable pub partnered : List (List ℕ) → List (List ℕ) → ℕ
partnered ks qs = length (those (λ k. not (empty (equal_to qs k))) ks)

-- "counted from 1; 0 if none"
abbrev pub counted_from1 : Option ℕ → ℕ
counted_from1 None = 0
counted_from1 (Some j) = suc j

-- "the lowest-numbered partner of each"
unfoldable pub partner_of : List (List ℕ) → List ℕ → ℕ
partner_of qs k = counted_from1 (lowest (λ j. same k (get_or qs j [])) (length qs))

-- "the first list's positions, from 1 too, in key order, ties by position"
unfoldable pub key_positions : List (List ℕ) → List ℕ
key_positions ks = map suc (sorted (key_order (λ x. get_or ks x [])) (numbers 0 (length ks)))
