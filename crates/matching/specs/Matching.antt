-- Which keys of two lists are equal, for any number of names: a call on keys in a store as one value, its refusals, what it
-- answers, and what it leaves in the lent rows. What keys share is defined in the crate partners; nothing here says how it is
-- found. No paper has this call: docs/DECISIONS.md says how its refusals were chosen.
-- Assumes nothing.
use Rattle.std.specs.Prelude.{◌≡◌, ℕ, ◌-◌, cond, List, [], ◌∷◌, map, ltb, length, get_or}
use Rattle.std.specs.Prelude.{Option, None, Some, Result}
use Rattle.terms.specs.Lists.{over, same}
use Rattle.terms.specs.Refusals.{check, first, Outcome, outcome, answer}
use Rattle.terms.specs.declared.Refusal.{Refusal}
use Rattle.sorting.specs.KeyOrder.{key_in}
use Rattle.storing.specs.Ends.{ends_refusal}
use Rattle.storing.specs.Rooms.{store_check, arrays_check}
use Rattle.storing.specs.Stored.{strings_in}
use Rattle.partners.specs.Partners.{equal_pairs_of, partnered, partner_of, key_positions}
use Rattle.partners.specs.Promises.{keys_from}
use Rattle.partners.specs.declared.Totals.{Totals}

-- ---- a call

-- a call on the keys of two lists: the store, where its keys end, how many of them are the first list's, and the rows as lent
pub record KeysCall : Type 0 where
  pub store : List ℕ
  pub ends : List ℕ
  pub first_names : ℕ
  pub row : List ℕ
  pub repeats : List ℕ
  pub partners : List ℕ

-- a call by the parameters of a function
abbrev pub keys_call : List ℕ → List ℕ → ℕ → List ℕ → List ℕ → List ℕ → KeysCall
keys_call s e n r q p = record { store = s; ends = e; first_names = n; row = r; repeats = q; partners = p }

-- the keys of both lists
abbrev pub both_keys : KeysCall → List (List ℕ)
both_keys c = strings_in c.store c.ends

-- the first list's
abbrev pub first_keys : KeysCall → List (List ℕ)
first_keys c = keys_from (key_in c.store c.ends) 0 c.first_names

-- and the second's, which are the rest
abbrev pub second_keys : KeysCall → List (List ℕ)
second_keys c = keys_from (key_in c.store c.ends) c.first_names (length c.ends - c.first_names)

-- ---- groups of equal keys

-- keys in their order, equal ones by position
abbrev pub in_order : List (List ℕ) → List (List ℕ)
in_order ks = map (λ p. get_or ks (p - 1) []) (key_positions ks)

-- for each of some keys: 1 where the next one is equal to it, else 0
unfoldable pub repeated : List (List ℕ) → List ℕ
repeated [] = []
repeated (k ∷ []) = 0 ∷ []
repeated (k ∷ q ∷ ks) = cond (same k q) 1 0 ∷ repeated (q ∷ ks)

-- ---- refusals

-- 14 and 36 of the ends; 37, more names of the first list than keys; 8 for row and repeats, 8 for partners, by their lengths
unfoldable pub keys_checked : ℕ → List ℕ → ℕ → ℕ → ℕ → ℕ → Option Refusal
keys_checked octets ends first_names row repeats partners =
    first
    (ends_refusal octets ends
    ∷ check (ltb (length ends) first_names) 37 0 (length ends)
    ∷ arrays_check row repeats (length ends)
    ∷ store_check partners first_names
    ∷ [])

-- the refusal of a call, if there is one
abbrev pub keys_refusal : KeysCall → Option Refusal
keys_refusal c =
    keys_checked (length c.store) c.ends c.first_names (length c.row) (length c.repeats) (length c.partners)

-- ---- the whole call

-- what is told: equal pairs across the lists, names of the first list with any partner
abbrev pub matched_values : KeysCall → List ℕ
matched_values c = equal_pairs_of (first_keys c) (second_keys c) ∷ partnered (first_keys c) (second_keys c) ∷ []

-- the same of what the call answers
abbrev pub matched_outcome : Result Totals Refusal → Outcome
matched_outcome r = outcome (λ t. t.equal_pairs ∷ t.partnered ∷ []) r

-- row, repeats and partners after a call: they stay beyond what is written, and on a refusal all stay
abbrev pub rows_after : Option Refusal → KeysCall → List (List ℕ)
rows_after None c =
    over (key_positions (both_keys c)) c.row
    ∷ over (repeated (in_order (both_keys c))) c.repeats
    ∷ over (map (partner_of (second_keys c)) (first_keys c)) c.partners
    ∷ []
rows_after (Some r) c = c.row ∷ c.repeats ∷ c.partners ∷ []

-- a call was answered: its outcome is the refusal or its values, and the lent rows are those after it
pub record Matches (c : KeysCall) (r : Result Totals Refusal) (after : List (List ℕ)) : Type 0 where
  pub answered : matched_outcome r ≡ answer (keys_refusal c) (matched_values c)
  pub left : after ≡ rows_after (keys_refusal c) c
