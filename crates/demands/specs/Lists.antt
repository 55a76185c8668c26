-- Lists in words (document 02, request 3): which names a list has, which record of it is refused, and the refusals of a
-- call on two lists, each where those before it don't apply.
-- Assumes nothing.
use Rattle.std.specs.Prelude.{◌≡◌, ℕ, ◌≤◌, ◌<◌, ◌⊎◌, List, [], ◌∷◌, length}
use Rattle.std.specs.Prelude.{None, Some}
use Rattle.terms.specs.Refusals.{refusal}
use Rattle.terms.specs.declared.Collation.{Collation}
use Rattle.terms.specs.declared.Collation.TheVariants.{UnicodeCasemap}
use Rattle.terms.specs.declared.Refusal.{Refusal}
use Rattle.records.specs.Items.{list_rules, of_text}
use Rattle.records.specs.Reading.{stopped, item, kind_in, body_in, read_at}
use Rattle.decompose.specs.TableCheck.{table_refusal}
use Rattle.prepare.specs.Calls.{lookup_check}
use Rattle.lists.specs.Lists.{ListsCall, all_keys, lists_refusal, Shares}
use Rattle.lists.specs.Lists.{Shared}
use Rattle.demands.specs.Demands.{ShortPages}
use Rattle.demands.specs.Faults.{Fault, plain}
use Rattle.demands.specs.Records.{following_at, fault11}

-- a call of `find_shared` or of its accepted twin answered r and left these slices: its contract
abbrev pub ShareCall : ListsCall → Shared → List (List ℕ) → Type 0
ShareCall c r after = Shares (lists_refusal c) c r after

-- ---- one list

-- "lists of kind 1 records": from position p on these names stand in the list, one after another up to its end
pub data Names (list : List ℕ) : ℕ → List (List ℕ) → Type 0 where
  no_more : {p : ℕ} → p ≡ length list → Names list p []
  one_more : {p next : ℕ} {t : List ℕ} {ts : List (List ℕ)}
      → read_at list_rules list p ≡ item (of_text t) next
      → Names list next ts
      → Names list p (t ∷ ts)

-- "11 to 13 .., record by record": from position p on the first record that is no name has this refusal
pub data Faulty (list : List ℕ) : ℕ → Refusal → Type 0 where
  here : {p : ℕ} {x : Refusal} → read_at list_rules list p ≡ stopped x → Faulty list p x
  later : {p next : ℕ} {t : List ℕ} {x : Refusal}
      → read_at list_rules list p ≡ item (of_text t) next
      → Faulty list next x
      → Faulty list p x

-- 12 in a list: "a kind 2 record is 12", as is every other kind but 1
abbrev pub NoText : List ℕ → ℕ → Type 0
NoText list p = kind_in (following_at list p) ≡ 1 → ⊥

-- 11, 12 and 13 of a list's record; only a text's length can be 13
abbrev pub list_faults : List ℕ → ℕ → List Fault
list_faults list p =
    fault11 list p ∷ plain 12 (NoText list p) ∷ plain 13 (4096 < length (body_in (following_at list p))) ∷ []

-- ---- a call

-- the collation is known, and both lists are lists of at most 1,024 names; what the checks of the table and of the pages say is
-- left. Under collations 1 and 2 `lookup_check` is none, whatever the table and the pages
pub record Listed (c : ListsCall) (ts us : List (List ℕ)) : Type 0 where
  pub collation : Collation
  pub known : c.collation ≡ Some collation
  pub first : Names c.first_list 0 ts
  pub second : Names c.second_list 0 us
  pub first_most : length ts ≤ 1024
  pub second_most : length us ≤ 1024

-- "order 1, then 11 to 13 on the first list, record by record, and on the second .., 14 (place 1 or 2 for the list in 11
-- to 14), the table's 3 to 7, 8 for the store (detail all keys together), then 8 for either array (detail the first
-- list's names)"; with request 6 15 "after 7 and before 8"
pub data ListsRefused (c : ListsCall) : Refusal → Type 0 where
  number-1 : c.collation ≡ None → ListsRefused c (refusal 1 0 0)
  first-11-to-13 : (k : Collation) (x : Refusal)
      → c.collation ≡ Some k
      → Faulty c.first_list 0 x
      → ListsRefused c (refusal x.number 1 x.detail)
  second-11-to-13 : (k : Collation) (ts : List (List ℕ)) (x : Refusal)
      → c.collation ≡ Some k
      → Names c.first_list 0 ts
      → Faulty c.second_list 0 x
      → ListsRefused c (refusal x.number 2 x.detail)
  first-14 : (k : Collation) (ts us : List (List ℕ))
      → c.collation ≡ Some k
      → Names c.first_list 0 ts
      → Names c.second_list 0 us
      → 1024 < length ts
      → ListsRefused c (refusal 14 1 0)
  second-14 : (k : Collation) (ts us : List (List ℕ))
      → c.collation ≡ Some k
      → Names c.first_list 0 ts
      → Names c.second_list 0 us
      → length ts ≤ 1024
      → 1024 < length us
      → ListsRefused c (refusal 14 2 0)
  number-3-to-7 : (ts us : List (List ℕ)) (x : Refusal)
      → Listed c ts us
      → c.collation ≡ Some UnicodeCasemap
      → table_refusal c.table ≡ Some x
      → ListsRefused c x
  number-15 : (ts us : List (List ℕ))
      → Listed c ts us
      → c.collation ≡ Some UnicodeCasemap
      → table_refusal c.table ≡ None
      → ShortPages c.pages
      → ListsRefused c (refusal 15 0 0)
  store-8 : (ts us : List (List ℕ))
      → Listed c ts us
      → lookup_check c.collation c.table c.pages ≡ None
      → length c.store < length (all_keys c)
      → ListsRefused c (refusal 8 0 (length (all_keys c)))
  array-8 : (ts us : List (List ℕ))
      → Listed c ts us
      → lookup_check c.collation c.table c.pages ≡ None
      → length (all_keys c) ≤ length c.store
      → (length c.partners < length ts) ⊎ (length c.positions < length ts)
      → ListsRefused c (refusal 8 0 (length ts))
