-- A line of UnicodeData.txt: the properties that it gives its code point, and the checks of its reading (20 to 24, 29).
-- Assumes nothing.
use Rattle.std.specs.Prelude.{◌≡◌, ℕ, Bool, ◌&&◌, not, List, [], ◌∷◌, ltb, eqb, length}
use Rattle.std.specs.Prelude.{Option, Some, option_map, option_and_then}
use Rattle.terms.specs.Lists.{there}
use Rattle.terms.specs.Refusals.{line_most, check, first}
use Rattle.terms.specs.declared.Refusal.{Refusal}
use Rattle.ucd.specs.declared.SimpleProperties.{SimpleProperties}
use Rattle.ucd.specs.declared.LineFault.{LineFault}
use Rattle.ucd.specs.declared.LineFault.TheVariants.{Length, FieldCount, Field0, Field5, Field12, Field14}
use Rattle.ucd.specs.Fields.{fields, field, code_point, decomposition, optional, titlecase}

-- ---- what a line gives

-- a code point, its "titlecase (the code point itself if none)", and its decomposition, of no parts if it has none
pub record Properties : Type 0 where
  pub code : ℕ
  pub title : ℕ
  pub parts : List ℕ

-- simple properties with parts
abbrev pub with_parts : SimpleProperties → List ℕ → Properties
with_parts s parts = record { code = s.code.0; title = s.title.0; parts = parts }

-- "Field 0 is the code point, 5 the decomposition, 14 the titlecase", or 12 where that is empty; nothing where one of the four
-- is malformed
unfoldable pub line_properties : List ℕ → Option Properties
line_properties line =
    option_and_then
    (λ c. option_and_then
    (λ ps. option_map (λ t. record { code = c; title = t; parts = ps }) (titlecase c (field 12 line) (field 14 line)))
    (decomposition (field 5 line)))
    (code_point (field 0 line))

-- the same by each field: what a line says
pub record LineSays (line : List ℕ) (p : Properties) : Type 0 where
  pub code : code_point (field 0 line) ≡ Some p.code
  pub parts : decomposition (field 5 line) ≡ Some p.parts
  pub title : titlecase p.code (field 12 line) (field 14 line) ≡ Some p.title

-- "Lines that say nothing (no parts, titlecase none or itself ..)"
abbrev pub says_nothing : Properties → Bool
says_nothing p = eqb p.title p.code && eqb (length p.parts) 0

-- ---- the checks of the reading, which look at the line alone

-- a check of a line: "place and detail are 0"
abbrev pub line_check : Bool → ℕ → Option Refusal
line_check applies n = check applies n 0 0

-- the numbers of the faults of a line
abbrev pub fault_number : LineFault → ℕ
fault_number Length = 20
fault_number FieldCount = 21
fault_number Field0 = 22
fault_number Field5 = 23
fault_number Field12 = 29
fault_number Field14 = 24

-- "20 line over 512 octets; 21 not exactly 14 semicolons; 22, 23, 24 field 0, 5, 14 malformed", and "29, field 12 malformed,
-- checked even when 14 is filled, between 23 and 24"
abbrev pub reading_checks : List ℕ → List (Option Refusal)
reading_checks line =
    line_check (ltb line_most (length line)) 20
    ∷ line_check (not (eqb (length (fields line)) 15)) 21
    ∷ line_check (not (there (code_point (field 0 line)))) 22
    ∷ line_check (not (there (decomposition (field 5 line)))) 23
    ∷ line_check (not (optional (field 12 line))) 29
    ∷ line_check (not (optional (field 14 line))) 24
    ∷ []

-- the first of them that applies
unfoldable pub reading_refusal : List ℕ → Option Refusal
reading_refusal line = first (reading_checks line)
