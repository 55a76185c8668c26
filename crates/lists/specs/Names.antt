-- The names of a list (document 02, request 3): a list is kind 1 records, one after another.
-- Assumes nothing.
use Rattle.std.specs.Prelude.{ℕ, zero, suc, ◌-◌, List, [], ◌∷◌, length}
use Rattle.std.specs.Prelude.{Option, None, Some}
use Rattle.terms.specs.declared.Refusal.{Refusal}
use Rattle.records.specs.Items.{list_rules, of_text, of_key}
use Rattle.records.specs.Reading.{Reading, end, stopped, item, read_at}

-- the name that was read, and then those from the next position on; a list has no keys
abbrev pub name_and : Reading → (ℕ → List (List ℕ)) → List (List ℕ)
name_and end rest = []
name_and (stopped x) rest = []
name_and (item (of_text t) next) rest = t ∷ rest next
name_and (item (of_key f k) next) rest = rest next

-- the refusal of what was read, or else of what follows from the next position on
abbrev pub fault_or : Reading → (ℕ → Option Refusal) → Option Refusal
fault_or end rest = None
fault_or (stopped x) rest = Some x
fault_or (item i next) rest = rest next

-- reading a list from a position on, record by record, in at most so many steps: what was read, and then the rest
unfoldable pub read_on : {A : Type 0} → A → (Reading → (ℕ → A) → A) → ℕ → List ℕ → ℕ → A
read_on stop put zero list p = stop
read_on stop put (suc steps) list p = put (read_at list_rules list p) (read_on stop put steps list)

-- the names from a position on, up to the end or a record that is refused; a record has six octets at least, so as many
-- steps as octets are left suffice (`names-step`)
unfoldable pub names_from : List ℕ → ℕ → List (List ℕ)
names_from list p = read_on [] name_and (length list - p) list p

-- "11 to 13 .., record by record": the refusal of the first record from a position on that has one (`fault-step`)
unfoldable pub fault_from : List ℕ → ℕ → Option Refusal
fault_from list p = read_on None fault_or (length list - p) list p

-- the names of a list
abbrev pub names_in : List ℕ → List (List ℕ)
names_in list = names_from list 0

-- why it is no list: the refusal of its first record that has one
abbrev pub list_fault : List ℕ → Option Refusal
list_fault list = fault_from list 0
