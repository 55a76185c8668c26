-- What the contracts of the inner functions say with the definitions of the other file.
-- Assumes nothing.
use Rattle.std.specs.Prelude.{◌≡◌, ℕ, ◌-◌, ◌≤◌, ◌<◌, List, length, get_or}
use Rattle.std.specs.Prelude.{Option, Some, Result, Ok}
use Rattle.std.specs.Result.{result_err}
use Rattle.terms.specs.declared.Refusal.{Refusal}
use Rattle.terms.specs.Lists.{over}
use Rattle.terms.specs.Refusals.{text_most, ends_most, first}
use Rattle.terms.specs.declared.Collation.{Collation}
use Rattle.sorting.specs.KeyOrder.{start_of, Ends}
use Rattle.storing.specs.Stored.{joined, ends_from}
use Rattle.many.specs.Many.{texts_checks}

-- many texts were checked for 1, 14, 36 and 2: the refusal, and else the collation
pub record ChecksMany (o : Option Collation) (octets : ℕ) (ends : List ℕ) (r : Result Collation Refusal) : Type 0 where
  pub refusal : result_err r ≡ first (texts_checks o octets ends)
  pub known : (k : Collation) → r ≡ Ok k → o ≡ Some k

-- the ends are those of texts within the limit, and not too many
pub record Texts (octets ends : List ℕ) : Type 0 where
  pub sound : Ends octets ends
  pub few : length ends ≤ ends_most
  pub short : (i : ℕ) → i < length ends → get_or ends i 0 - start_of ends i ≤ text_most

-- keys were put at the start of a store, one after another, their ends and validity at the start of two rows: the octets they
-- have together
pub record PutsMany (ks : List (List ℕ)) (vs store key_ends valid : List ℕ) (n : ℕ)
    (storeAfter keyEndsAfter valid_after : List ℕ) : Type 0 where
  pub size : n ≡ length (joined ks)
  pub stored : storeAfter ≡ over (joined ks) store
  pub ended : keyEndsAfter ≡ over (ends_from 0 ks) key_ends
  pub checked : valid_after ≡ over vs valid
