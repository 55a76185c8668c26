-- The paper's "published steps" (RFC 5051, section 2; document 01, "Preparation"), over a list of characters and a mapping.
-- Nothing here speaks of slices, buffers, tables or collation numbers.
-- Assumes nothing.
use Rattle.std.specs.Prelude.{ℕ, suc, ◌+◌, List, [], ◌∷◌, ◌++◌}
use Rattle.terms.specs.Lists.{each, total}
use Rattle.terms.specs.Refusals.{levels_most}
use Rattle.table.specs.Mapping.{Mapping}
use Rattle.utf8.specs.Utf8.{Character, encodes}
use Rattle.decompose.specs.Levels.{Unfolds, full, asks}

-- ---- as a relation, in the paper's words

-- the published steps on characters give a key with so many lookups: they "take a valid text's code points in order: one ask
-- for the titlecase, then the unfolding of the titlecase code point, or of the code point itself if it has none"
pub data StepsGive (m : Mapping) : List Character → List ℕ → ℕ → Type 0 where
  no-character : StepsGive m [] [] 0
  character : {ch : Character} {chs : List Character} {codes key : List ℕ} {asked later : ℕ}
      → Unfolds m (m.title ch.code) codes asked
      → StepsGive m chs key later
      → StepsGive m (ch ∷ chs) (encodes codes ++ key) (suc asked + later)

-- ---- as definitions that compute, which contracts cite (over an accepted table they give what the relation says:
-- `accepted-steps` of proofs/Demand3.antt)

-- what a code point becomes: "take its titlecase code point once, if it has one; then replace it by its decomposition .. until
-- none decomposes"
abbrev pub expansion : Mapping → ℕ → List ℕ
expansion m c = full m levels_most (m.title c)

-- the octets of a code point's expansion
abbrev pub expanded : Mapping → ℕ → List ℕ
expanded m c = encodes (expansion m c)

-- the lookups for a code point: "one ask for the titlecase, then the unfolding of the titlecase code point"
abbrev pub lookups : Mapping → ℕ → ℕ
lookups m c = suc (asks m levels_most (m.title c))

-- "their key is the full decompositions in UTF-8"
unfoldable pub steps_key : Mapping → List Character → List ℕ
steps_key m chs = each (λ (ch : Character). expanded m ch.code) chs

-- "Their lookups are all these asks, a code point that comes up again being asked again"
unfoldable pub steps_lookups : Mapping → List Character → ℕ
steps_lookups m chs = total (λ (ch : Character). lookups m ch.code) chs
