-- Many texts prepared in one call: a call as one value, its refusals in the order of a preparation, what it answers, and what it
-- leaves in the lent slices. A text's key and validity are document 01's; keys stand in a store as request 3 has them. No paper
-- has this call: docs/DECISIONS.md says how its refusals were chosen.
-- Assumes nothing.
use Rattle.std.specs.Prelude.{◌≡◌, ℕ, ◌-◌, Bool, List, [], ◌∷◌, map, ltb, length, get_or}
use Rattle.std.specs.Prelude.{Option, None, Some, Result}
use Rattle.terms.specs.Lists.{lowest, over}
use Rattle.terms.specs.Refusals.{text_most, first, Outcome, outcome, answer}
use Rattle.terms.specs.declared.Collation.{Collation}
use Rattle.terms.specs.declared.Refusal.{Refusal}
use Rattle.table.specs.Mapping.{Mapping}
use Rattle.table.specs.Table.{Table, table, mapping_of}
use Rattle.keys.specs.Keys.{prepared}
use Rattle.keys.specs.Summaries.{truth}
use Rattle.pages.specs.Pages.{Pages, pages}
use Rattle.prepare.specs.Calls.{collation_check, lookup_check, pages_by}
use Rattle.sorting.specs.KeyOrder.{start_of}
use Rattle.storing.specs.Ends.{string_at, ends_refusal}
use Rattle.storing.specs.Rooms.{store_check, arrays_check}
use Rattle.storing.specs.Stored.{keys_under, joined, ends_from, strings_in}

-- ---- a call

-- a call on many texts: the collation that its number names, if it names one; the octets of all texts, and where each ends; the
-- table; pages, store, ends of keys and validity as lent
pub record ManyCall : Type 0 where
  pub collation : Option Collation
  pub octets : List ℕ
  pub ends : List ℕ
  pub table : Table
  pub pages : Pages
  pub store : List ℕ
  pub key_ends : List ℕ
  pub valid : List ℕ

-- a call by the parameters of a function
abbrev pub many_call : Option Collation → List ℕ → List ℕ → List ℕ → List ℕ → List ℕ → List ℕ → List ℕ → List ℕ → List ℕ → ManyCall
many_call k o e entries pool presence ranks s q v = record {
  collation = k;
  octets = o;
  ends = e;
  table = table entries pool;
  pages = pages presence ranks;
  store = s;
  key_ends = q;
  valid = v;
}

-- its texts, in their order
abbrev pub texts_of : ManyCall → List (List ℕ)
texts_of c = strings_in c.octets c.ends

-- their keys, each text by itself
abbrev pub many_keys : ManyCall → List (List ℕ)
many_keys c = keys_under c.collation (mapping_of c.table) (texts_of c)

-- whether texts are valid, as numbers; a number that is no collation's gives none
abbrev pub valid_under : Option Collation → Mapping → List (List ℕ) → List ℕ
valid_under None m ts = []
valid_under (Some k) m ts = map (λ t. truth (prepared k m t).valid) ts

-- the same of a call's texts
abbrev pub many_valid : ManyCall → List ℕ
many_valid c = valid_under c.collation (mapping_of c.table) (texts_of c)

-- ---- refusals

-- 2: a text over 4,096 octets, by where it begins and ends
abbrev pub long_text : List ℕ → ℕ → Bool
long_text ends i = ltb text_most (get_or ends i 0 - start_of ends i)

-- 1; 14 and 36 of the ends; 2, the detail the number of the lowest such text
abbrev pub texts_checks : Option Collation → ℕ → List ℕ → List (Option Refusal)
texts_checks k octets ends =
    collation_check k
    ∷ ends_refusal octets ends
    ∷ string_at 2 (lowest (long_text ends) (length ends))
    ∷ []

-- 8 for the store, the detail all keys together, then 8 for the other two slices, the detail the number of texts
abbrev pub rooms_refusal : ManyCall → Option Refusal
rooms_refusal c =
    first
    (store_check (length c.store) (length (joined (many_keys c)))
    ∷ arrays_check (length c.key_ends) (length c.valid) (length c.ends)
    ∷ [])

-- the refusal before any key is looked at: 1, 14, 36, 2, the table's 3 to 7, and 15
abbrev pub ready_refusal : ManyCall → Option Refusal
ready_refusal c =
    first
    (first (texts_checks c.collation (length c.octets) c.ends)
    ∷ lookup_check c.collation c.table c.pages
    ∷ [])

-- the refusal of a call, if there is one: 1, 14, 36, 2, 3 to 7, 15, 8
unfoldable pub many_refusal : ManyCall → Option Refusal
many_refusal c =
    first
    (first (texts_checks c.collation (length c.octets) c.ends)
    ∷ lookup_check c.collation c.table c.pages
    ∷ rooms_refusal c
    ∷ [])

-- ---- the whole call

-- what is told: the octets of all keys together
abbrev pub many_values : ManyCall → List ℕ
many_values c = length (joined (many_keys c)) ∷ []

-- what the call answers: the octets of all keys together, or the refusal
abbrev pub Batch : Type 0
Batch = Result ℕ Refusal

-- the same in the numbers of documents 01 and 02
abbrev pub batch_outcome : Batch → Outcome
batch_outcome r = outcome (λ n. n ∷ []) r

-- store, ends of keys and validity after a call: they stay beyond what is written, and on a refusal all stay
abbrev pub slices_after : Option Refusal → ManyCall → List (List ℕ)
slices_after None c =
    over (joined (many_keys c)) c.store
    ∷ over (ends_from 0 (many_keys c)) c.key_ends
    ∷ over (many_valid c) c.valid
    ∷ []
slices_after (Some r) c = c.store ∷ c.key_ends ∷ c.valid ∷ []

-- the pages after a call: filled where none of 1, 14, 36, 2, 3 to 7 and 15 applies
abbrev pub pages_after : ManyCall → Pages
pages_after c = pages_by (ready_refusal c) c.collation c.table c.pages

-- a call was answered: its outcome is the refusal or its values, and the lent slices are those after it. The refusal is the
-- call's, or what is left of it where some checks were passed.
pub record PreparesMany (x : Option Refusal) (c : ManyCall) (r : Batch) (after : List (List ℕ)) : Type 0 where
  pub answered : batch_outcome r ≡ answer x (many_values c)
  pub left : after ≡ slices_after x c

-- the whole call, which was lent the pages to fill
pub record PreparesManyPaging (c : ManyCall) (r : Batch) (after : List (List ℕ)) (p : Pages) : Type 0 where
  pub prepares : PreparesMany (many_refusal c) c r after
  pub paged : p ≡ pages_after c
