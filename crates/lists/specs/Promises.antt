-- What the contracts of the inner functions say with the definitions of the other files.
-- Assumes nothing.
use Rattle.std.specs.Prelude.{◌≡◌, ℕ, ◌-◌, ◌*◌, ◌≤◌, List, ◌++◌, length, take, drop}
use Rattle.std.specs.Prelude.{Option, None, Some, Result, Ok}
use Rattle.std.specs.Result.{result_err}
use Rattle.terms.specs.Lists.{total, over}
use Rattle.terms.specs.Refusals.{names_most, text_most, first}
use Rattle.terms.specs.declared.Collation.{Collation}
use Rattle.terms.specs.declared.Refusal.{Refusal}
use Rattle.records.specs.Items.{list_rules, of_text}
use Rattle.records.specs.Reading.{item, read_at}
use Rattle.partners.specs.Promises.{Finds}
use Rattle.partners.specs.declared.Totals.{Totals}
use Rattle.lists.specs.Names.{names_in, list_fault}
use Rattle.storing.specs.Stored.{joined, ends_from}
use Rattle.lists.specs.Lists.{placed, names_checks}
use Rattle.lists.specs.declared.checks.CheckedLists.{CheckedLists}
use Rattle.lists.specs.declared.names.NameCount.{NameCount}
use Rattle.lists.specs.declared.names.NamePlace.{NamePlace}

-- the octets that the names of a list have together
abbrev pub name_octets : List ℕ → ℕ
name_octets list = total (λ t. length t) (names_in list)

-- the most octets that the names of a list have together, where it has at most 1,024
abbrev pub octets_most : ℕ
octets_most = names_most * text_most

-- the name at a position of a list was read: it stands from a start to an end, where the next record begins
pub record NameRead (list : List ℕ) (p : ℕ) (r : NamePlace) : Type 0 where
  pub read : read_at list_rules list p ≡ item (of_text (take (r.end.0 - r.start.0) (drop r.start.0 list))) r.end.0
  pub forward : r.start.0 ≤ r.end.0
  pub within : r.end.0 ≤ length list
  pub short : r.end.0 - r.start.0 ≤ text_most

-- how many names a list has, and how many octets these have
pub record Counted (list : List ℕ) (n : NameCount) : Type 0 where
  pub names : n.names ≡ length (names_in list)
  pub octets : n.octets ≡ name_octets list

-- a list was read: its refusal, and else its names counted
pub record Lists (list : List ℕ) (r : Result NameCount Refusal) : Type 0 where
  pub refusal : result_err r ≡ list_fault list
  pub counted : (n : NameCount) → r ≡ Ok n → Counted list n

-- the same of the first or the second list, which the refusal names
pub record ListsIn (place : ℕ) (list : List ℕ) (r : Result NameCount Refusal) : Type 0 where
  pub refusal : result_err r ≡ placed place (list_fault list)
  pub counted : (n : NameCount) → r ≡ Ok n → Counted list n

-- two lists were checked for 1 and 11 to 14: the refusal, and else the collation and both counted
pub record ChecksLists (o : Option Collation) (one two : List ℕ) (r : Result CheckedLists Refusal) : Type 0 where
  pub refusal : result_err r ≡ first (names_checks o one two)
  pub known : (c : CheckedLists) → r ≡ Ok c → (o ≡ Some c.collation) × Counted one c.first × Counted two c.second

-- keys were put at the start of a store, one after another, and their ends at the start of a row
pub record PutsAll (ks : List (List ℕ)) (store ends storeAfter endsAfter : List ℕ) : Type 0 where
  pub stored : storeAfter ≡ over (joined ks) store
  pub ended : endsAfter ≡ over (ends_from 0 ks) ends

-- a list has so many names, and at most 1,024
pub record Named (list : List ℕ) (n : ℕ) : Type 0 where
  pub whole : list_fault list ≡ None
  pub names : n ≡ length (names_in list)
  pub most : n ≤ names_most

-- the same, with the octets of its names
pub record Listed (list : List ℕ) (n : NameCount) : Type 0 where
  pub named : Named list n.names
  pub octets : n.octets ≡ name_octets list

-- what two lists of keys share was found, and all keys were left in the store
pub record Reports (ks qs : List (List ℕ)) (store partners positions : List ℕ) (t : Totals)
    (storeAfter partnersAfter positionsAfter : List ℕ) : Type 0 where
  pub stored : storeAfter ≡ over (joined (ks ++ qs)) store
  pub found : Finds ks qs partners positions t partnersAfter positionsAfter
