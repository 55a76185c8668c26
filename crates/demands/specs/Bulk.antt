-- The bulk calls in words: the refusals of `prepare_many` and of `match_keys`, each rule with its number, place and detail, and
-- the first that applies.
-- Assumes nothing.
use Rattle.std.specs.Prelude.{◌≡◌, ℕ, ◌-◌, ◌<◌, ◌⊎◌, List, [], ◌∷◌, length, get_or}
use Rattle.std.specs.Prelude.{None, Some}
use Rattle.terms.specs.Refusals.{refusal}
use Rattle.terms.specs.declared.Refusal.{Refusal}
use Rattle.prepare.specs.Calls.{table_check, pages_check}
use Rattle.sorting.specs.KeyOrder.{start_of}
use Rattle.storing.specs.Stored.{joined}
use Rattle.many.specs.Many.{ManyCall, many_keys, many_refusal, PreparesMany}
use Rattle.many.specs.Many.{Batch}
use Rattle.matching.specs.Matching.{KeysCall}
use Rattle.demands.specs.Faults.{LowestAt}

-- ---- rules

-- a rule: with which refusals it applies
abbrev pub Rule : Type 1
Rule = Refusal → Type 0

-- a rule with one refusal, and when it applies
abbrev pub ruled : ℕ → ℕ → ℕ → Type 0 → Rule
ruled n place detail applies x = (x ≡ refusal n place detail) × applies

-- a rule of a lone slice, whose detail is the lowest number of which something holds
abbrev pub ruled_at : ℕ → (ℕ → Type 0) → ℕ → Rule
ruled_at n holds bound x = (i : ℕ) × (x ≡ refusal n 1 i) × LowestAt holds bound i

-- "the first that applies is given": a refusal is that of the first rule of a row, and those before it apply with none
abbrev pub FirstRule : List Rule → Rule
FirstRule [] x = ⊥
FirstRule (r ∷ rs) x = r x ⊎ (((y : Refusal) → r y → ⊥) × FirstRule rs x)

-- ---- ends

-- 36: an end past the octets, or below the one before it
abbrev pub WrongEnd : ℕ → List ℕ → ℕ → Type 0
WrongEnd octets ends i = (octets < get_or ends i 0) ⊎ (get_or ends i 0 < start_of ends i)

-- 14 and 36 of the ends in a slice of so many octets
abbrev pub rule_too_many : List ℕ → Rule
rule_too_many ends = ruled 14 1 0 (4294967295 < length ends)

abbrev pub rule_end : ℕ → List ℕ → Rule
rule_end octets ends = ruled_at 36 (WrongEnd octets ends) (length ends)

-- ---- many texts

-- a call of `prepare_many` answered r and left these slices: its contract
abbrev pub ManyCalled : ManyCall → Batch → List (List ℕ) → Type 0
ManyCalled c r after = PreparesMany (many_refusal c) c r after

-- 1, 14, 36, 2, 3 to 7, 15, 8 for the store, 8 for the other two slices
abbrev pub many_rules : ManyCall → List Rule
many_rules c =
    ruled 1 0 0 (c.collation ≡ None)
    ∷ rule_too_many c.ends
    ∷ rule_end (length c.octets) c.ends
    ∷ ruled_at 2 (λ i. 4096 < get_or c.ends i 0 - start_of c.ends i) (length c.ends)
    ∷ (λ x. table_check c.collation c.table ≡ Some x)
    ∷ (λ x. pages_check c.collation c.pages ≡ Some x)
    ∷ ruled 8 0 (length (joined (many_keys c))) (length c.store < length (joined (many_keys c)))
    ∷ ruled 8 0 (length c.ends) ((length c.key_ends < length c.ends) ⊎ (length c.valid < length c.ends))
    ∷ []

-- ---- keys

-- 14, 36, 37, 8 for row and repeats, 8 for partners
abbrev pub keys_rules : KeysCall → List Rule
keys_rules c =
    rule_too_many c.ends
    ∷ rule_end (length c.store) c.ends
    ∷ ruled 37 0 (length c.ends) (length c.ends < c.first_names)
    ∷ ruled 8 0 (length c.ends) ((length c.row < length c.ends) ⊎ (length c.repeats < length c.ends))
    ∷ ruled 8 0 c.first_names (length c.partners < c.first_names)
    ∷ []
