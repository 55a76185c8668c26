-- What the contracts of the inner functions cite: where a piece ends, what reading a number or parts answers, and
-- what a line's reading answers.
-- Assumes nothing.
use Rattle.std.specs.Prelude.{◌≡◌, ℕ, suc, ◌≤◌, true, false, cond, List, [], ◌∷◌, eqb, take}
use Rattle.std.specs.Prelude.{Option, None, Some, option_map, unwrap_or, Result, Ok, Err}
use Rattle.terms.specs.Refusals.{parts_most, refusal}
use Rattle.ucd.specs.Fields.{field, optional, titlecase}
use Rattle.ucd.specs.Lines.{with_parts, line_properties, reading_refusal, fault_number}
use Rattle.terms.specs.declared.CodePoint.{CodePoint}
use Rattle.ucd.specs.declared.LineFault.{LineFault}
use Rattle.ucd.specs.declared.LineFault.TheVariants.{Length, FieldCount, Field0, Field5, Field12, Field14}
use Rattle.ucd.specs.declared.SimpleProperties.{SimpleProperties}

-- ---- cutting

-- how many octets stand before the first separator, or all of them
unfoldable pub piece_end : ℕ → List ℕ → ℕ
piece_end sep [] = 0
piece_end sep (o ∷ os) = cond (eqb o sep) 0 (suc (piece_end sep os))

-- ---- numbers

-- the number of the code point that was read, if there is one
abbrev pub number_read : Option CodePoint → Option ℕ
number_read r = option_map (λ c. c.0) r

-- ---- a titlecase

-- field 14 of a line is malformed, and field 12 is not
pub record OnlyTitlecaseMalformed (line : List ℕ) : Type 0 where
  pub formed : optional (field 12 line) ≡ true
  pub malformed : optional (field 14 line) ≡ false

-- the titlecase of a code point was read from a line, or which field is the first that is malformed
abbrev pub TitlecaseRead : ℕ → List ℕ → Result CodePoint LineFault → Type 0
TitlecaseRead c line (Ok t) = titlecase c (field 12 line) (field 14 line) ≡ Some t.0
TitlecaseRead c line (Err Field12) = optional (field 12 line) ≡ false
TitlecaseRead c line (Err Field14) = OnlyTitlecaseMalformed line
TitlecaseRead c line (Err Length) = ⊥
TitlecaseRead c line (Err FieldCount) = ⊥
TitlecaseRead c line (Err Field0) = ⊥
TitlecaseRead c line (Err Field5) = ⊥

-- ---- parts

-- the parts that were read, which stand at the front of a slice
abbrev pub parts_read : Option ℕ → List ℕ → Option (List ℕ)
parts_read count out = option_map (λ n. take n out) count

-- the parts were read, and written to the front of a slice
pub record Listed (parts : Option (List ℕ)) (r : Option ℕ) (out : List ℕ) : Type 0 where
  pub read : parts_read r out ≡ parts
  pub within : unwrap_or r 0 ≤ parts_most

-- ---- a line

-- a line was read, with its parts at the front of a slice: none of 20 to 24 and 29 applies, and it gives these properties
pub record LineRead (line out : List ℕ) (s : SimpleProperties) (count : ℕ) : Type 0 where
  pub unrefused : reading_refusal line ≡ None
  pub given : line_properties line ≡ Some (with_parts s (take count out))
  pub within : count ≤ parts_most

-- the answer of reading a line
abbrev pub Reads : List ℕ → List ℕ → Result (SimpleProperties × ℕ) LineFault → Type 0
Reads line out (Ok (s, count)) = LineRead line out s count
Reads line out (Err fault) = reading_refusal line ≡ Some (refusal (fault_number fault) 0 0)
