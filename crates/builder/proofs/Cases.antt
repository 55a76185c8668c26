-- Lines by computation: what the builder answers to them, from a fresh state with room for two entries and four pool numbers.
-- Assumes nothing.
use mathlib.Core.Path.{◌≡◌, refl}
use mathlib.Core.List.{List, [], ◌∷◌, ◌++◌, map}
use Prim.Native.Nat.{ℕ}
use lib.ListN.{replicate}
use Rattle.terms.specs.Refusals.{Outcome, refused, gives, refusal}
use Rattle.hangul.specs.Hangul.{syllable}
use Rattle.table.specs.Layout.{entry, entry_numbers, entry_count, put_entry}
use Rattle.table.specs.Table.{table}
use Rattle.ucd.specs.Fields.{cut, digits, code_point, code_points, decomposition, code_point_or, titlecase}
use Rattle.ucd.specs.Lines.{line_properties}
use Rattle.builder.specs.Builder.{Built, built, fresh, line_refusal, add_line, add_lines, line_answer}

-- the fresh state, with room
abbrev start : Built
start = built fresh (replicate 8 0) (replicate 4 0)

-- a line with its fields 0, 5, 12 and 14, and the others empty
abbrev line_of : List ℕ → List ℕ → List ℕ → List ℕ → List ℕ
line_of code parts upper title = code ++ replicate 5 0x3B ++ parts ++ replicate 7 0x3B ++ upper ++ replicate 2 0x3B ++ title

-- 0061, titlecase 0041, no parts
abbrev small-a : List ℕ
small-a =
    line_of
    (0x30 ∷ 0x30 ∷ 0x36 ∷ 0x31 ∷ [])
    []
    []
    (0x30 ∷ 0x30 ∷ 0x34 ∷ 0x31 ∷ [])

-- the same with its titlecase in field 12 alone
abbrev small-a-upper : List ℕ
small-a-upper =
    line_of
    (0x30 ∷ 0x30 ∷ 0x36 ∷ 0x31 ∷ [])
    []
    (0x30 ∷ 0x30 ∷ 0x34 ∷ 0x31 ∷ [])
    []

-- and with no code point in either of fields 12 and 14
abbrev small-a-malformed : List ℕ
small-a-malformed =
    line_of
    (0x30 ∷ 0x30 ∷ 0x36 ∷ 0x31 ∷ [])
    []
    (0x41 ∷ [])
    (0x41 ∷ [])

-- 00E9, titlecase 00C9, parts 0065 and 0301
abbrev e-acute : List ℕ
e-acute =
    line_of
    (0x30 ∷ 0x30 ∷ 0x45 ∷ 0x39 ∷ [])
    (0x30 ∷ 0x30 ∷ 0x36 ∷ 0x35 ∷ 0x20 ∷ 0x30 ∷ 0x33 ∷ 0x30 ∷ 0x31 ∷ [])
    []
    (0x30 ∷ 0x30 ∷ 0x43 ∷ 0x39 ∷ [])

-- FB01, no titlecase, the tag <compat>, parts 0066 and 0069
abbrev ligature : List ℕ
ligature =
    line_of
    (0x46 ∷ 0x42 ∷ 0x30 ∷ 0x31 ∷ [])
    (0x3C ∷ 0x63 ∷ 0x6F ∷ 0x6D ∷ 0x70 ∷ 0x61 ∷ 0x74 ∷ 0x3E ∷ 0x20 ∷ 0x30 ∷ 0x30 ∷ 0x36 ∷ 0x36 ∷ 0x20 ∷ 0x30 ∷ 0x30 ∷ 0x36
    ∷ 0x39 ∷ [])
    []
    []

-- D800, no titlecase, no parts
abbrev surrogate : List ℕ
surrogate =
    line_of
    (0x44 ∷ 0x38 ∷ 0x30 ∷ 0x30 ∷ [])
    []
    []
    []

-- D800, titlecase 0041
abbrev surrogate-mapped : List ℕ
surrogate-mapped =
    line_of
    (0x44 ∷ 0x38 ∷ 0x30 ∷ 0x30 ∷ [])
    []
    []
    (0x30 ∷ 0x30 ∷ 0x34 ∷ 0x31 ∷ [])

-- AC00, no titlecase, no parts: the line that begins the range of the syllables
abbrev first-syllable : List ℕ
first-syllable =
    line_of
    (0x41 ∷ 0x43 ∷ 0x30 ∷ 0x30 ∷ [])
    []
    []
    []

-- D7A3, the same: the line that ends it
abbrev last-syllable : List ℕ
last-syllable =
    line_of
    (0x44 ∷ 0x37 ∷ 0x41 ∷ 0x33 ∷ [])
    []
    []
    []

-- AC00, parts 1100 and 1161
abbrev first-syllable-mapped : List ℕ
first-syllable-mapped =
    line_of
    (0x41 ∷ 0x43 ∷ 0x30 ∷ 0x30 ∷ [])
    (0x31 ∷ 0x31 ∷ 0x30 ∷ 0x30 ∷ 0x20 ∷ 0x31 ∷ 0x31 ∷ 0x36 ∷ 0x31 ∷ [])
    []
    []

-- D7A3, titlecase 0041
abbrev last-syllable-mapped : List ℕ
last-syllable-mapped =
    line_of
    (0x44 ∷ 0x37 ∷ 0x41 ∷ 0x33 ∷ [])
    []
    []
    (0x30 ∷ 0x30 ∷ 0x34 ∷ 0x31 ∷ [])

-- 1100, titlecase AC00
abbrev jamo-mapped : List ℕ
jamo-mapped =
    line_of
    (0x31 ∷ 0x31 ∷ 0x30 ∷ 0x30 ∷ [])
    []
    []
    (0x41 ∷ 0x43 ∷ 0x30 ∷ 0x30 ∷ [])

-- FB01, the tag <a> with nothing after it
abbrev tag-alone : List ℕ
tag-alone =
    line_of
    (0x46 ∷ 0x42 ∷ 0x30 ∷ 0x31 ∷ [])
    (0x3C ∷ 0x61 ∷ 0x3E ∷ [])
    []
    []

-- 00061
abbrev leading-zero : List ℕ
leading-zero =
    line_of
    (0x30 ∷ 0x30 ∷ 0x30 ∷ 0x36 ∷ 0x31 ∷ [])
    []
    []
    (0x30 ∷ 0x30 ∷ 0x34 ∷ 0x31 ∷ [])

-- ---- answers

-- a line and what the builder answers to it
abbrev rows : List (List ℕ × Outcome)
rows =
    -- a titlecase alone: one entry
    (small-a, gives (1 ∷ 0 ∷ 0x62 ∷ []))
    -- in field 12 as in field 14
    ∷ (small-a-upper, gives (1 ∷ 0 ∷ 0x62 ∷ []))
    -- 29 before 24
    ∷ (small-a-malformed, refused (refusal 29 0 0))
    -- parts: one entry, two pool numbers
    ∷ (e-acute, gives (1 ∷ 2 ∷ 0xEA ∷ []))
    -- a line that says nothing only moves the last code point, that of a surrogate too
    ∷ (surrogate, gives (0 ∷ 0 ∷ 0xD801 ∷ []))
    -- a surrogate with a mapping
    ∷ (surrogate-mapped, refused (refusal 25 0 0))
    -- the lines of the range of syllables say nothing
    ∷ (first-syllable, gives (0 ∷ 0 ∷ 0xAC01 ∷ []))
    ∷ (last-syllable, gives (0 ∷ 0 ∷ 0xD7A4 ∷ []))
    -- a syllable with a mapping
    ∷ (first-syllable-mapped, refused (refusal 25 0 0))
    ∷ (last-syllable-mapped, refused (refusal 25 0 0))
    -- a mapping to a syllable
    ∷ (jamo-mapped, gives (1 ∷ 0 ∷ 0x1101 ∷ []))
    -- a tag with no code point after it
    ∷ (tag-alone, refused (refusal 23 0 0))
    -- a leading zero past four digits
    ∷ (leading-zero, refused (refusal 22 0 0))
    ∷ []

pub answers : map (λ r. line_answer start r.0) rows ≡ map (λ r. r.1) rows
unfolding add_line line_refusal line_properties entry_count put_entry
    cut digits code_point code_points decomposition code_point_or titlecase syllable
answers = refl

-- a code point below the last
pub answer-26 : line_answer (add_line start e-acute) small-a ≡ refused (refusal 26 0 0)
unfolding add_line line_refusal line_properties entry_count put_entry
    cut digits code_point code_points decomposition code_point_or titlecase syllable
answer-26 = refl

-- the entry of a line whose titlecase is in field 12 alone
pub uppercase-stored : (add_line start small-a-upper).table ≡ (add_line start small-a).table
unfolding add_line line_refusal line_properties entry_count put_entry
    cut digits code_point code_points decomposition code_point_or titlecase syllable
uppercase-stored = refl

-- two lines: each start is the sum of the counts before it, and the parts stand one after another
pub two-lines : (add_lines start (e-acute ∷ ligature ∷ [])).table
    ≡ table
    (entry_numbers (entry 0xE9 0xC9 0 2) ++ entry_numbers (entry 0xFB01 0xFB01 2 2))
    (0x65 ∷ 0x301 ∷ 0x66 ∷ 0x69 ∷ [])
unfolding add_lines add_line line_refusal line_properties entry_count put_entry
    cut digits code_point code_points decomposition code_point_or titlecase syllable
two-lines = refl
