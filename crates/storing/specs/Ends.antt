-- Which numbers can be the ends of octet strings that stand one after another in a slice: 14 and 36. No paper has these two;
-- docs/DECISIONS.md says why they are as they are.
-- Assumes nothing.
use Rattle.std.specs.Prelude.{ℕ, Bool, ◌||◌, List, [], ◌∷◌, ltb, length, get_or}
use Rattle.std.specs.Prelude.{Option, None, Some}
use Rattle.terms.specs.Lists.{lowest}
use Rattle.terms.specs.Refusals.{ends_most, refusal, check, first}
use Rattle.terms.specs.declared.Refusal.{Refusal}
use Rattle.sorting.specs.KeyOrder.{start_of}

-- a check of a lone slice, whose detail is the lowest number of an octet string at fault
abbrev pub string_at : ℕ → Option ℕ → Option Refusal
string_at number None = None
string_at number (Some i) = Some (refusal number 1 i)

-- 36: an end past the octets, or below the one before it
abbrev pub faulty_end : ℕ → List ℕ → ℕ → Bool
faulty_end octets ends i = ltb octets (get_or ends i 0) || ltb (get_or ends i 0) (start_of ends i)

-- 14, more ends than are taken, and then 36
unfoldable pub ends_refusal : ℕ → List ℕ → Option Refusal
ends_refusal octets ends =
    first
    (check (ltb ends_most (length ends)) 14 1 0
    ∷ string_at 36 (lowest (faulty_end octets ends) (length ends))
    ∷ [])
