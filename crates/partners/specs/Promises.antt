-- What the contracts say.
-- Assumes nothing.
use Rattle.std.specs.Prelude.{◌≡◌, ℕ, ◌-◌, List, map, length}
use Rattle.terms.specs.Lists.{over}
use Rattle.sorting.specs.Sorted.{numbers}
use Rattle.sorting.specs.KeyOrder.{key_in}
use Rattle.partners.specs.Partners.{equal_pairs_of, partnered, partner_of, key_positions}
use Rattle.partners.specs.declared.Totals.{Totals}

-- the keys of so many numbers from one on
abbrev pub keys_from : (ℕ → List ℕ) → ℕ → ℕ → List (List ℕ)
keys_from key x n = map key (numbers x n)

-- what two lists of keys share was found: the totals, and both arrays, which stay beyond the first list's names
pub record Finds (ks qs : List (List ℕ)) (partners positions : List ℕ) (t : Totals) (partnersAfter positionsAfter : List ℕ)
    : Type 0 where
  pub pairs : t.equal_pairs ≡ equal_pairs_of ks qs
  pub names : t.partnered ≡ partnered ks qs
  pub lowest : partnersAfter ≡ over (map (partner_of qs) ks) partners
  pub ordered : positionsAfter ≡ over (key_positions ks) positions

-- the same of keys in a store, of which the first so many are the first list's
abbrev pub FindsIn : List ℕ → List ℕ → ℕ → List ℕ → List ℕ → Totals → List ℕ → List ℕ → Type 0
FindsIn store ends middle partners positions t partnersAfter positionsAfter =
    Finds (keys_from (key_in store ends) 0 middle) (keys_from (key_in store ends) middle
    (length ends - middle)) partners positions t
    partnersAfter positionsAfter
