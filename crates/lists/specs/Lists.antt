-- Which names two lists share (document 02, request 3): a call on two lists as one value, its refusals in the paper's order,
-- what it answers, and what it leaves in the store and in the arrays.
-- Assumes nothing.
use Rattle.std.specs.Prelude.{◌≡◌, ℕ, List, [], ◌∷◌, ◌++◌, map, ltb, length}
use Rattle.std.specs.Prelude.{Option, None, Some, Result}
use Rattle.terms.specs.Lists.{over}
use Rattle.terms.specs.Refusals.{names_most, refusal, check, first, Outcome, outcome, answer}
use Rattle.terms.specs.declared.Collation.{Collation}
use Rattle.terms.specs.declared.Refusal.{Refusal}
use Rattle.table.specs.Table.{Table, table, mapping_of}
use Rattle.pages.specs.Pages.{Pages, pages}
use Rattle.prepare.specs.Calls.{collation_check, lookup_check, pages_by}
use Rattle.storing.specs.Stored.{keys_under, joined}
use Rattle.storing.specs.Rooms.{store_check, arrays_check}
use Rattle.partners.specs.Partners.{equal_pairs_of, partnered, partner_of, key_positions}
use Rattle.lists.specs.Names.{names_in, list_fault}
use Rattle.lists.specs.declared.Totals.{Totals}

-- ---- a call

-- a call on two lists: the collation that its number names, if it names one; the lists; the table; pages, store and
-- arrays as lent
pub record ListsCall : Type 0 where
  pub collation : Option Collation
  pub first_list : List ℕ
  pub second_list : List ℕ
  pub table : Table
  pub pages : Pages
  pub store : List ℕ
  pub partners : List ℕ
  pub positions : List ℕ

-- a call by the parameters of a function
abbrev pub lists_call : Option Collation → List ℕ → List ℕ → List ℕ → List ℕ → List ℕ → List ℕ → List ℕ → List ℕ → List ℕ → ListsCall
lists_call k one two entries pool presence ranks s p q = record {
  collation = k;
  first_list = one;
  second_list = two;
  table = table entries pool;
  pages = pages presence ranks;
  store = s;
  partners = p;
  positions = q;
}

-- the keys of the first list's names
abbrev pub first_keys : ListsCall → List (List ℕ)
first_keys c = keys_under c.collation (mapping_of c.table) (names_in c.first_list)

-- and of the second's
abbrev pub second_keys : ListsCall → List (List ℕ)
second_keys c = keys_under c.collation (mapping_of c.table) (names_in c.second_list)

-- "first list first"
abbrev pub all_keys : ListsCall → List ℕ
all_keys c = joined (first_keys c ++ second_keys c)

-- ---- refusals

-- a refusal with its place: "place 1 or 2 for the list in 11 to 14"
abbrev pub placed : ℕ → Option Refusal → Option Refusal
placed place None = None
placed place (Some x) = Some (refusal x.number place x.detail)

-- "14 over 1,024 names"
abbrev pub count_check : ℕ → ℕ → Option Refusal
count_check place n = check (ltb names_most n) 14 place 0

-- "order 1, then 11 to 13 on the first list, record by record, and on the second .., 14"
abbrev pub names_checks : Option Collation → List ℕ → List ℕ → List (Option Refusal)
names_checks k one two =
    collation_check k
    ∷ placed 1 (list_fault one)
    ∷ placed 2 (list_fault two)
    ∷ count_check 1 (length (names_in one))
    ∷ count_check 2 (length (names_in two))
    ∷ []

-- "8 for the store .., then 8 for either array"
abbrev pub rooms_refusal : ListsCall → Option Refusal
rooms_refusal c =
    first
    (store_check (length c.store) (length (all_keys c))
    ∷ arrays_check (length c.partners) (length c.positions) (length (names_in c.first_list))
    ∷ [])

-- the refusal before any key is looked at: 1, 11 to 14, "the table's 3 to 7", and 15 (request 6)
abbrev pub ready_refusal : ListsCall → Option Refusal
ready_refusal c =
    first
    (first (names_checks c.collation c.first_list c.second_list)
    ∷ lookup_check c.collation c.table c.pages
    ∷ [])

-- the refusal of a call, if there is one: 1, 11 to 14, 3 to 7, 15, 8
unfoldable pub lists_refusal : ListsCall → Option Refusal
lists_refusal c =
    first
    (first (names_checks c.collation c.first_list c.second_list)
    ∷ lookup_check c.collation c.table c.pages
    ∷ rooms_refusal c
    ∷ [])

-- ---- the whole call

-- what is told: "names in each list, equal pairs across them, names of the first list with any partner"
abbrev pub shared_values : ListsCall → List ℕ
shared_values c =
    length (names_in c.first_list)
    ∷ length (names_in c.second_list)
    ∷ equal_pairs_of (first_keys c) (second_keys c)
    ∷ partnered (first_keys c) (second_keys c)
    ∷ []

-- what the call answers: what the lists share, or the refusal
abbrev pub Shared : Type 0
Shared = Result Totals Refusal

-- the same in the papers' numbers
abbrev pub totals_numbers : Totals → List ℕ
totals_numbers s = s.first_names ∷ s.second_names ∷ s.equal_pairs ∷ s.partnered ∷ []

abbrev pub shared_outcome : Shared → Outcome
shared_outcome r = outcome totals_numbers r

-- store, partners and positions after a call: "both stay beyond that"; on a refusal all stay
abbrev pub slices_after : Option Refusal → ListsCall → List (List ℕ)
slices_after None c =
    over (all_keys c) c.store
    ∷ over (map (partner_of (second_keys c)) (first_keys c)) c.partners
    ∷ over (key_positions (first_keys c)) c.positions
    ∷ []
slices_after (Some r) c = c.store ∷ c.partners ∷ c.positions ∷ []

-- the pages after a call: filled where none of 1, 11 to 14, 3 to 7 and 15 applies
abbrev pub pages_after : ListsCall → Pages
pages_after c = pages_by (ready_refusal c) c.collation c.table c.pages

-- a call was answered: its outcome is the refusal or its values, and the lent slices are those after it. The refusal is the
-- call's, or what is left of it where some checks were passed.
pub record Shares (x : Option Refusal) (c : ListsCall) (r : Shared) (after : List (List ℕ)) : Type 0 where
  pub answered : shared_outcome r ≡ answer x (shared_values c)
  pub left : after ≡ slices_after x c

-- the whole call, which was lent the pages to fill
pub record SharesPaging (c : ListsCall) (r : Shared) (after : List (List ℕ)) (p : Pages) : Type 0 where
  pub shares : Shares (lists_refusal c) c r after
  pub paged : p ≡ pages_after c
