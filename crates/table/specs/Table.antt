-- A table: its two slices as one value, the form that it must have (3 to 6), and the mapping that it means.
-- Sums are of plain numbers: nothing wraps.
-- Assumes nothing.
use Rattle.std.specs.Prelude.{ℕ, zero, suc, ◌+◌, Bool, false, ◌&&◌, ◌||◌, not, List, [], ◌∷◌, leb, ltb, eqb, length, get_or, take, drop}
use Rattle.std.specs.Prelude.{Option, None, Some}
use Rattle.terms.specs.CodePoints.{scalar}
use Rattle.terms.specs.Lists.{lowest, or_else, when}
use Rattle.terms.specs.Refusals.{entries_most, pool_most, parts_most, refusal, check, first}
use Rattle.terms.specs.declared.Refusal.{Refusal}
use Rattle.hangul.specs.Hangul.{syllable}
use Rattle.table.specs.Layout.{entry_count, whole_entries, code_at, title_at, start_at, count_at}
use Rattle.table.specs.Mapping.{Mapping, with_syllables}

-- "Two lent slices of 32-bit numbers: the entries, .. and the pool"
pub record Table : Type 0 where
  pub entries : List ℕ
  pub pool : List ℕ

-- the table of two slices
abbrev pub table : List ℕ → List ℕ → Table
table entries pool = record { entries = entries; pool = pool }

-- ---- the form (refusals 3 to 6), each over the whole table

-- 3: "entry slice not a multiple of 4 long, over 16,384 entries, or pool over 65,536"
abbrev pub faulty_size : Table → Bool
faulty_size t =
    not (whole_entries t.entries) || ltb entries_most (entry_count t.entries) || ltb pool_most (length t.pool)

-- the code point of entry i is not above that of the entry before
unfoldable pub not_above : List ℕ → ℕ → Bool
not_above es zero = false
not_above es (suc i) = leb (code_at es (suc i)) (code_at es i)

-- 4: "an entry's code point or titlecase not scalar, or its code point not above the entry before", or "an entry for a code
-- point in that range", a syllable
abbrev pub faulty_code : List ℕ → ℕ → Bool
faulty_code es i =
    not (scalar (code_at es i)) || not (scalar (title_at es i)) || syllable (code_at es i) || not_above es i

-- "the sum of all earlier counts": of the entries below i
unfoldable pub counts_below : List ℕ → ℕ → ℕ
counts_below es zero = 0
counts_below es (suc i) = counts_below es i + count_at es i

-- "An entry whose titlecase is itself and whose count is 0 says nothing"
abbrev pub says_nothing : List ℕ → ℕ → Bool
says_nothing es i = eqb (title_at es i) (code_at es i) && eqb (count_at es i) 0

-- 5: "an entry with count over 32, wrong start, parts past the pool's end, or saying nothing"
abbrev pub faulty_entry : Table → ℕ → Bool
faulty_entry t i =
    ltb parts_most (count_at t.entries i)
    || not (eqb (start_at t.entries i) (counts_below t.entries i))
    || ltb (length t.pool) (start_at t.entries i + count_at t.entries i)
    || says_nothing t.entries i

-- 5, of the whole: "or pool longer than all counts"
abbrev pub pool_left : Table → Bool
pool_left t = ltb (counts_below t.entries (entry_count t.entries)) (length t.pool)

-- 6: "a pool number not scalar"
abbrev pub faulty_number : List ℕ → ℕ → Bool
faulty_number pool j = not (scalar (get_or pool j 0))

-- a check whose detail is the lowest place of a fault, if there is one
abbrev pub refused_at : ℕ → Option ℕ → Option Refusal
refused_at number None = None
refused_at number (Some i) = Some (refusal number 0 i)

-- where 5 finds a fault: "lowest such entry; if no entry is faulty, the number of entries"
abbrev pub entry_fault : Table → Option ℕ
entry_fault t =
    or_else (lowest (faulty_entry t) (entry_count t.entries)) (when (pool_left t) (entry_count t.entries))

-- 3 to 6 in the paper's order
abbrev pub form_checks : Table → List (Option Refusal)
form_checks t =
    check (faulty_size t) 3 0 0
    ∷ refused_at 4 (lowest (faulty_code t.entries) (entry_count t.entries))
    ∷ refused_at 5 (entry_fault t)
    ∷ refused_at 6 (lowest (faulty_number t.pool) (length t.pool))
    ∷ []

-- "A table has the form that demand 3 names if none of 3 to 6 below applies to it"
unfoldable pub form_refusal : Table → Option Refusal
form_refusal t = first (form_checks t)

-- ---- the mapping that a table means

-- the entry of a code point, if it has one
unfoldable pub entry_of : List ℕ → ℕ → Option ℕ
entry_of es c = lowest (λ i. eqb (code_at es i) c) (entry_count es)

-- the titlecase that an entry says; "A code point without an entry maps to itself"
abbrev pub title_in : List ℕ → ℕ → Option ℕ → ℕ
title_in es c None = c
title_in es c (Some i) = title_at es i

-- "Its decomposition is that many code points of the pool; count 0 means none"
abbrev pub parts_in : Table → Option ℕ → List ℕ
parts_in t None = []
parts_in t (Some i) = take (count_at t.entries i) (drop (start_at t.entries i) t.pool)

-- the titlecase of a code point, and the decomposition that its entry says
abbrev pub title_of : List ℕ → ℕ → ℕ
title_of es c = title_in es c (entry_of es c)

abbrev pub entry_parts : Table → ℕ → List ℕ
entry_parts t c = parts_in t (entry_of t.entries c)

-- the mapping of the entries
abbrev pub entry_mapping : Table → Mapping
entry_mapping t = record { title = title_of t.entries; parts = entry_parts t }

-- the mapping of a table: that of its entries with the syllables by rule
abbrev pub mapping_of : Table → Mapping
mapping_of t = with_syllables (entry_mapping t)

-- the decomposition of a code point
abbrev pub parts_of : Table → ℕ → List ℕ
parts_of t = (mapping_of t).parts
