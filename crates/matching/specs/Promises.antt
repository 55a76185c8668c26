-- What the contracts of the inner functions say.
-- Assumes nothing.
use Rattle.std.specs.Prelude.{◌≡◌, ℕ, suc, ◌-◌, List, map, length}
use Rattle.terms.specs.Lists.{over}
use Rattle.sorting.specs.Sorted.{sorted, numbers}
use Rattle.sorting.specs.KeyOrder.{key_in, key_order}
use Rattle.partners.specs.Partners.{equal_pairs_of, partnered, partner_of}
use Rattle.partners.specs.Promises.{keys_from}
use Rattle.partners.specs.declared.Totals.{Totals}
use Rattle.matching.specs.Matching.{repeated}

-- the numbers of all keys in their order
abbrev pub sorted_numbers : List ℕ → List ℕ → List ℕ
sorted_numbers store ends = sorted (key_order (key_in store ends)) (numbers 0 (length ends))

-- the keys of two lists were matched, the first so many being the first list's: the totals, the rows, the partners
pub record MatchesIn (store ends : List ℕ) (middle : ℕ) (partners : List ℕ) (t : Totals)
    (rowAfter repeatsAfter partnersAfter : List ℕ) : Type 0 where
  pub pairs : t.equal_pairs ≡ equal_pairs_of (keys_from (key_in store ends) 0 middle)
      (keys_from (key_in store ends) middle (length ends - middle))
  pub names : t.partnered ≡ partnered (keys_from (key_in store ends) 0 middle)
      (keys_from (key_in store ends) middle (length ends - middle))
  pub ordered : rowAfter ≡ map suc (sorted_numbers store ends)
  pub grouped : repeatsAfter ≡ repeated (map (key_in store ends) (sorted_numbers store ends))
  pub lowest : partnersAfter ≡ over (map (partner_of (keys_from (key_in store ends) middle (length ends - middle)))
      (keys_from (key_in store ends) 0 middle)) partners
