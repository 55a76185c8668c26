-- A code point's expansion by its titlecase, over a mapping: what was counted and written of it.
-- Assumes nothing.
use mathlib.Core.Path.{◌≡◌, ap, ◌∙◌}
use Prim.Native.Nat.{ℕ, suc, ◌+◌}
use native.Mathlib.Numerals.{add-one}
use mathlib.Core.List.{List, []}
use lib.ListN.{length}
use Rattle.terms.specs.Refusals.{levels_most}
use Rattle.table.specs.Mapping.{Mapping}
use Rattle.utf8.specs.Utf8.{encode, encodes}
use Rattle.utf8.specs.Promises.{Written}
use Rattle.decompose.specs.Levels.{full, asks}
use Rattle.decompose.specs.Steps.{expanded}
use Rattle.decompose.specs.Promises.{Counted, Filled, ExpansionCounted, ExpansionFilled}
use Rattle.decompose.specs.declared.Unfolded.{Unfolded}
use Rattle.decompose.proofs.Walk.{encodes-whole, counted-whole, filled-whole}

module _ (m : Mapping) (c x : ℕ) (e : m.title c ≡ x) where
  -- the code point becomes the full decomposition of its titlecase
  pub expanded-title : expanded m c ≡ encodes (full m levels_most x)
  expanded-title = ap (λ y. encodes (full m levels_most y)) e

  -- for one ask more than that takes
  pub counted-title : (r : Unfolded) → Counted (full m levels_most x) (asks m levels_most x) r
      → ExpansionCounted m c (record { octets = r.octets; asks = r.asks + 1 })
  counted-title r w = rw e (record { octets = w.octets; asked = add-one r.asks ∙ ap suc w.asked })

  -- and these are what was written
  pub filled-title : (slice : List ℕ) (r : Unfolded) (after : List ℕ)
      → Filled (full m levels_most x) (asks m levels_most x) slice r after
      → ExpansionFilled m c slice (record { octets = r.octets; asks = r.asks + 1 }) after
  filled-title slice r after w = record { counted = counted-title r w.counted; written = rw e w.written }

  -- ---- a titlecase with no parts

  module _ (p : m.parts x ≡ []) where
    -- it stays as it is
    pub expanded-plain : expanded m c ≡ encode x
    expanded-plain = expanded-title ∙ encodes-whole m levels_most x p

    -- for two asks
    pub counted-plain : (k : ℕ) → k ≡ length (encode x) → ExpansionCounted m c (record { octets = k; asks = 2 })
    counted-plain k h = counted-title (record { octets = k; asks = 1 }) (counted-whole m levels_most x p k h)

    -- and is what was written
    pub filled-plain : (slice : List ℕ) (k : ℕ) (after : List ℕ) → Written x slice k after
        → ExpansionFilled m c slice (record { octets = k; asks = 2 }) after
    filled-plain slice k after w =
        filled-title slice (record { octets = k; asks = 1 }) after (filled-whole m levels_most x p slice k after w)
