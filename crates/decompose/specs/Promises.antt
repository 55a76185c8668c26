-- What the contracts of the crate say with the definitions of the other files.
-- Assumes nothing.
use Rattle.std.specs.Prelude.{◌≡◌, ℕ, zero, suc, max, ◌+◌, ◌-◌, ◌≤◌, ◌<◌, Bool, true, ◌&&◌, ◌||◌, not, List, leb, length}
use Rattle.std.specs.Prelude.{Option, None, Some}
use Rattle.terms.specs.Lists.{empty, when, over}
use Rattle.terms.specs.Refusals.{levels_most, full_most}
use Rattle.hangul.specs.Hangul.{syllable}
use Rattle.table.specs.Mapping.{Mapping}
use Rattle.utf8.specs.Utf8.{encodes}
use Rattle.decompose.specs.Levels.{within, full, asks}
use Rattle.decompose.specs.Steps.{expansion, lookups}
use Rattle.decompose.specs.declared.Unfolded.{Unfolded}

-- how many code points a code point unfolds into, if within n levels and into at most `room`
abbrev pub measured : Mapping → ℕ → ℕ → ℕ → Option ℕ
measured m n room c = when (within m n c && leb (length (full m n c)) room) (length (full m n c))

-- the larger of two measurements, if both fit
abbrev pub larger : Option ℕ → Option ℕ → Option ℕ
larger None b = None
larger (Some x) None = None
larger (Some x) (Some y) = Some (max x y)

-- the most levels of a jamo in an accepted table: a syllable has one more
abbrev pub jamo_levels : ℕ
jamo_levels = levels_most - 1

-- the largest measurement of n jamo from `from` on, if each is within those levels and has at most `room` code points
unfoldable pub largest : Mapping → ℕ → ℕ → ℕ → Option ℕ
largest m room from zero = Some 0
largest m room from (suc n) = larger (largest m room from n) (measured m jamo_levels room (from + n))

-- the parts of a code point, of which there are some
pub record Split (m : Mapping) (c : ℕ) (ps : List ℕ) : Type 0 where
  pub parts : ps ≡ m.parts c
  pub some : 0 < length ps

-- a code point of which the entries say these parts decomposes: they say some, or it is a syllable
abbrev pub decomposing : ℕ → List ℕ → Bool
decomposing c listed = not (empty listed) || syllable c

-- these are the parts of a code point or, where there are none, it is a syllable, whose parts are by rule
pub record Listed (m : Mapping) (c : ℕ) (ps : List ℕ) : Type 0 where
  pub parts : (length ps ≡ 0 → ⊥) → ps ≡ m.parts c
  pub by-rule : length ps ≡ 0 → syllable c ≡ true

-- a code point unfolds within n of the 8 levels into at most 32 code points: what unfolding it asks for
pub record Bounded (m : Mapping) (n c : ℕ) : Type 0 where
  pub levels : n ≤ levels_most
  pub level : within m n c ≡ true
  pub size : length (full m n c) ≤ full_most

-- code points were unfolded: the octets of their encoding, and the asks
pub record Counted (cs : List ℕ) (k : ℕ) (r : Unfolded) : Type 0 where
  pub octets : r.octets ≡ length (encodes cs)
  pub asked : r.asks ≡ k

-- and their octets were written at the start of a slice
pub record Filled (cs : List ℕ) (k : ℕ) (slice : List ℕ) (r : Unfolded) (after : List ℕ) : Type 0 where
  pub counted : Counted cs k r
  pub written : after ≡ over (encodes cs) slice

-- the full decomposition of a code point was counted, and written
abbrev pub FullCounted : Mapping → ℕ → ℕ → Unfolded → Type 0
FullCounted m n c r = Counted (full m n c) (asks m n c) r

abbrev pub FullFilled : Mapping → ℕ → ℕ → List ℕ → Unfolded → List ℕ → Type 0
FullFilled m n c slice r after = Filled (full m n c) (asks m n c) slice r after

-- the expansion of a code point by the published steps was counted, and written
abbrev pub ExpansionCounted : Mapping → ℕ → Unfolded → Type 0
ExpansionCounted m c r = Counted (expansion m c) (lookups m c) r

abbrev pub ExpansionFilled : Mapping → ℕ → List ℕ → Unfolded → List ℕ → Type 0
ExpansionFilled m c slice r after = Filled (expansion m c) (lookups m c) slice r after
