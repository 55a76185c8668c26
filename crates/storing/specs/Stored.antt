-- Keys in a store one after another (document 02, request 3), by where they end; and one key put.
-- Assumes nothing.
use Rattle.std.specs.Prelude.{◌≡◌, ℕ, ◌+◌, List, [], ◌∷◌, map, length}
use Rattle.std.specs.Prelude.{Option, None, Some}
use Rattle.terms.specs.Lists.{each, over, put_at}
use Rattle.terms.specs.declared.Collation.{Collation}
use Rattle.table.specs.Mapping.{Mapping}
use Rattle.keys.specs.Keys.{PreparedText, key_of}
use Rattle.keys.specs.Summaries.{summary_numbers, prepared_numbers}
use Rattle.keys.specs.declared.Summary.{Summary}
use Rattle.sorting.specs.Sorted.{numbers}
use Rattle.sorting.specs.KeyOrder.{key_in}

-- the keys of names; a number that is no collation's gives none
abbrev pub keys_under : Option Collation → Mapping → List (List ℕ) → List (List ℕ)
keys_under None m names = []
keys_under (Some k) m names = map (key_of k m) names

-- "Keys stand .. one after another"
abbrev pub joined : List (List ℕ) → List ℕ
joined ks = each (λ k. k) ks

-- where the keys end that stand one after another from a place on
unfoldable pub ends_from : ℕ → List (List ℕ) → List ℕ
ends_from at [] = []
ends_from at (k ∷ ks) = (at + length k) ∷ ends_from (at + length k) ks

-- the octet strings of a slice that end at these places, in their order
abbrev pub strings_in : List ℕ → List ℕ → List (List ℕ)
strings_in octets ends = map (key_in octets ends) (numbers 0 (length ends))

-- keys were put into a store from a place on, and their ends into a row: where the last one ends
pub record PutsKeys (ks : List (List ℕ)) (at : ℕ) (store : List ℕ) (index : ℕ) (ends : List ℕ) (last : ℕ)
    (storeAfter endsAfter : List ℕ) : Type 0 where
  pub upto : last ≡ at + length (joined ks)
  pub stored : storeAfter ≡ put_at at (joined ks) store
  pub ended : endsAfter ≡ put_at index (ends_from at ks) ends

-- the key of a prepared text was put at the start of a slice, also where it is the text itself
pub record KeyPut (p : PreparedText) (before : List ℕ) (s : Summary) (after : List ℕ) : Type 0 where
  pub numbers : summary_numbers s ≡ prepared_numbers p
  pub left : after ≡ over p.key before
