-- A mapping: what the published steps ask of a code point. All of level, full decomposition, key, count and covering run is
-- defined over a mapping; a table comes in through `mapping_of` (specs/Table.antt) alone.
-- Assumes nothing.
use Rattle.std.specs.Prelude.{ℕ, cond, List}
use Rattle.hangul.specs.Hangul.{syllable, syllable_parts}

-- the titlecase code point of a code point, itself if it has none; and its decomposition, empty if it has none
pub record Mapping : Type 0 where
  pub title : ℕ → ℕ
  pub parts : ℕ → List ℕ

-- a mapping with the syllables by rule: "for AC00 to D7A3 .. the parts are .." (request 4), whatever the mapping says of one
abbrev pub with_syllables : Mapping → Mapping
with_syllables m = record { title = m.title; parts = λ c. cond (syllable c) (syllable_parts c) (m.parts c) }
