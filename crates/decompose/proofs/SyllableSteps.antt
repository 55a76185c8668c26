-- What the published steps make of a syllable over a table: its level, its lookups, and that it becomes what its jamo become.
-- Assumes nothing.
use mathlib.Core.Path.{◌≡◌, refl, sym, ap, ◌∙◌}
use Prim.Native.Nat.{ℕ, suc}
use native.Mathlib.Omega.{arith}
use mathlib.Core.Bool.{true, ◌&&◌}
use Rattle.std.specs.Prelude.{None}
use mathlib.Core.List.{List, [], ◌∷◌, ◌++◌}
use lib.Dec.{leb}
use lib.ListN.{length}
use Rattle.terms.specs.Lists.{all, empty, each, total}
use Rattle.terms.specs.Refusals.{levels_most}
use Rattle.terms.proofs.Lists.{all_first, all_rest, each_same, each_append, total-same}
use Rattle.hangul.specs.Hangul.{syllable, syllable_parts}
use Rattle.hangul.proofs.Syllables.{parts-jamo}
use Rattle.table.specs.Mapping.{Mapping}
use Rattle.table.specs.Table.{Table, mapping_of}
use Rattle.table.proofs.Form.{parts_of-syllable, formed-title-syllable}
use Rattle.utf8.specs.Utf8.{encode, encodes}
use Rattle.decompose.specs.Levels.{Level, Highest, within, full, asks}
use Rattle.decompose.specs.Levels.Level.{whole, split}
use Rattle.decompose.specs.Levels.Highest.{done, more}
use Rattle.decompose.specs.Steps.{expanded, lookups}
use Rattle.decompose.specs.TableCheck.{table_refusal}
use Rattle.decompose.specs.Promises.{jamo_levels, Split}
use Rattle.decompose.proofs.Levels.{empty-true, full-same, asks-same}
use Rattle.decompose.proofs.Walk.{within-parts, full-parts, asks-parts, syllable-split, bounded_unfolds}
use Rattle.decompose.proofs.Demand3.{accepted-form, accepted-all}

-- ---- its level

-- the highest level of parts that don't decompose
highest-whole : (m : Mapping) (ps : List ℕ) → all (λ p. empty (m.parts p)) ps ≡ true → Highest m ps 0
highest-whole m [] e = done
highest-whole m (p ∷ ps) e =
    more (whole (empty-true (m.parts p) (all_first (λ p. empty (m.parts p)) p ps e)))
    (highest-whole m ps (all_rest (λ p. empty (m.parts p)) p ps e))

module _ (t : Table) (c : ℕ) (is : syllable c ≡ true) where
  -- it has parts
  some-jamo : (mapping_of t).parts c ≡ [] → ⊥
  some-jamo e = let s = syllable-split t c is refl in omega (arith, s.some, ap length (s.parts ∙ e))

  -- one more than the highest level among its jamo
  pub syllable-level : {n : ℕ} → Highest (mapping_of t) (syllable_parts c) n → Level (mapping_of t) c (suc n)
  syllable-level {n} h = split {n = n} some-jamo (rw (parts_of-syllable t c is) h)

  -- so 1, if none of them decomposes
  pub syllable-level-one : all (λ p. empty ((mapping_of t).parts p)) (syllable_parts c) ≡ true → Level (mapping_of t) c 1
  syllable-level-one e = syllable-level (highest-whole (mapping_of t) (syllable_parts c) e)

-- ---- its lookups and its octets, over an accepted table

-- the octets of joined code points
encodes-each : (f : ℕ → List ℕ) (ps : List ℕ) → encodes (each f ps) ≡ each (λ p. encodes (f p)) ps
unfolding each
encodes-each f [] = refl
encodes-each f (p ∷ ps) =
    each_append encode (f p) (each f ps) ∙ ap (λ (xs : List ℕ). encodes (f p) ++ xs) (encodes-each f ps)

module _ (t : Table) (e : table_refusal t ≡ None) (c : ℕ) (is : syllable c ≡ true) where
  abbrev m : Mapping
  m = mapping_of t

  parts : Split m c (syllable_parts c)
  parts = syllable-split t c is refl

  title : m.title c ≡ c
  title = formed-title-syllable t (accepted-form t e) c is

  -- each jamo is within one level less
  level : all (λ p. within m jamo_levels p) (syllable_parts c) ≡ true
  level = sym (within-parts parts levels_most (omega arith)) ∙ (bounded_unfolds m c (accepted-all t e c)).level

  -- one ask for the titlecase, one for its decomposition, and those of its jamo, "asked like any others"
  pub lookups-syllable : lookups m c ≡ suc (suc (total (λ p. asks m levels_most p) (syllable_parts c)))
  lookups-syllable =
      ap (λ (x : ℕ). suc (asks m levels_most x)) title
      ∙ ap suc (asks-parts parts levels_most (omega arith))
      ∙ ap (λ (n : ℕ). suc (suc n)) (total-same (λ p. asks m jamo_levels p) (λ p. asks m levels_most p) (λ p. within m jamo_levels p)
      (λ p w. sym (asks-same m jamo_levels levels_most p w (omega arith))) (syllable_parts c) level)

  -- it becomes what its jamo become, each by itself, where these are their own titlecases
  pub expanded-syllable : ((j : ℕ) → (leb 0x1100 j && leb j 0x11C2) ≡ true → m.title j ≡ j)
      → expanded m c ≡ each (λ p. expanded m p) (syllable_parts c)
  expanded-syllable own =
      ap (λ (x : ℕ). encodes (full m levels_most x)) title
      ∙ ap (λ (xs : List ℕ). encodes xs) (full-parts parts levels_most (omega arith))
      ∙ encodes-each (λ p. full m jamo_levels p) (syllable_parts c)
      ∙ each_same (λ p. encodes (full m jamo_levels p)) (λ p. encodes (full m levels_most p)) (λ p. within m jamo_levels p)
      (λ p w. ap (λ (xs : List ℕ). encodes xs) (sym (full-same m jamo_levels levels_most p w (omega arith)))) (syllable_parts c) level
      ∙ each_same (λ p. encodes (full m levels_most p)) (λ p. expanded m p) (λ j. leb 0x1100 j && leb j 0x11C2)
      (λ p j. ap (λ (x : ℕ). encodes (full m levels_most x)) (sym (own p j))) (syllable_parts c) (parts-jamo c is)
