-- The whole check of a table: 3 to 7 in the paper's order; and the tables that demand 3 says are accepted.
-- Assumes nothing.
use Rattle.std.specs.Prelude.{◌≡◌, ℕ, ◌+◌, ◌≤◌, ◌<◌, Bool, true, ◌&&◌, not, List, [], ◌∷◌, leb, length}
use Rattle.std.specs.Prelude.{Option, None}
use Rattle.terms.specs.Lists.{there, or_else, when, lowest}
use Rattle.terms.specs.Refusals.{levels_most, full_most, first, answer, Outcome}
use Rattle.terms.specs.declared.Refusal.{Refusal}
use Rattle.hangul.specs.Hangul.{s_base, s_count, syllable}
use Rattle.table.specs.Mapping.{Mapping}
use Rattle.table.specs.Layout.{entry_count, code_at}
use Rattle.table.specs.Table.{Table, refused_at, form_refusal, mapping_of}
use Rattle.pages.specs.Pages.{Pages}
use Rattle.pages.specs.Promises.{Paged}
use Rattle.decompose.specs.Levels.{Level, Unfolds, within, full}

-- a code point unfolds within 8 levels into at most 32 code points
abbrev pub unfolds : Mapping → ℕ → Bool
unfolds m c = within m levels_most c && leb (length (full m levels_most c)) full_most

-- 7: "an entry whose code point has no level, a level over 8, or a full decomposition over 32 code points"
abbrev pub faulty_level : Table → ℕ → Bool
faulty_level t i = not (unfolds (mapping_of t) (code_at t.entries i))

-- "Check 7 .. now covers the syllables too, whether or not the table names them": one of them does not unfold so
unfoldable pub faulty_syllable : Mapping → Bool
faulty_syllable m = there (lowest (λ s. not (unfolds m (s_base + s))) s_count)

-- where 7 finds a fault: "lowest such entry"; "if no entry is at fault but a syllable is, the detail is the number of entries"
abbrev pub level_fault : Table → Option ℕ
level_fault t =
    or_else (lowest (faulty_level t) (entry_count t.entries)) (when (faulty_syllable (mapping_of t)) (entry_count t.entries))

-- the refusal of a table, 3 to 7 in the paper's order; the paper's "accepted" is none
unfoldable pub table_refusal : Table → Option Refusal
table_refusal t = first (form_refusal t ∷ refused_at 7 (level_fault t) ∷ [])

-- what checking a table by itself answers
abbrev pub table_answer : Table → Outcome
table_answer t = answer (table_refusal t) []

-- a table was accepted, and two slices hold its pages: what a call over it may go on with
pub record Usable (t : Table) (p : Pages) : Type 0 where
  pub accepted : table_refusal t ≡ None
  pub paged : Paged t.entries p

-- ---- the same in demand 3's words

-- a code point "unfolds completely within 8 levels into at most 32 code points": it has a level, of at most 8, and what it
-- unfolds into is at most 32 code points
pub record UnfoldsWell (m : Mapping) (c : ℕ) : Type 0 where
  pub level : ℕ
  pub has : Level m c level
  pub within8 : level ≤ levels_most
  pub codes : List ℕ
  pub asked : ℕ
  pub unfolded : Unfolds m c codes asked
  pub short : length codes ≤ full_most

-- a table has "document 01's form", none of 3 to 6, "and every code point in it unfolds" so: that of every entry, and every
-- syllable, "whether or not the table names them". (Then every code point at all does: `accepted-level` of proofs/Demand3.antt.)
pub record Sound (t : Table) : Type 0 where
  pub form : form_refusal t ≡ None
  pub entries : (i : ℕ) → i < entry_count t.entries → UnfoldsWell (mapping_of t) (code_at t.entries i)
  pub syllables : (c : ℕ) → syllable c ≡ true → UnfoldsWell (mapping_of t) c

-- 7 names entry i: "an entry whose code point has no level, a level over 8, or a full decomposition over 32 code points", the
-- "lowest such entry"
pub record LowestUnsound (t : Table) (i : ℕ) : Type 0 where
  pub below : i < entry_count t.entries
  pub unsound : UnfoldsWell (mapping_of t) (code_at t.entries i) → ⊥
  pub lower : (j : ℕ) → j < i → UnfoldsWell (mapping_of t) (code_at t.entries j)

-- 7 names the number of entries: "no entry is at fault but a syllable is"
pub record SyllableUnsound (t : Table) (i : ℕ) : Type 0 where
  pub count : i ≡ entry_count t.entries
  pub entries : (j : ℕ) → j < entry_count t.entries → UnfoldsWell (mapping_of t) (code_at t.entries j)
  pub code : ℕ
  pub is-syllable : syllable code ≡ true
  pub unsound : UnfoldsWell (mapping_of t) code → ⊥
