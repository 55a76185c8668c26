-- No default of a definition is reached where a contract cites it: the levels left run out for no code point that has a level
-- of at most so many, and so for none of an accepted table.
-- Assumes nothing.
use mathlib.Core.Path.{◌≡◌}
use Prim.Native.Nat.{ℕ, ◌≤◌}
use Rattle.std.specs.Prelude.{None}
use Rattle.terms.specs.Refusals.{levels_most}
use Rattle.table.specs.Mapping.{Mapping}
use Rattle.table.specs.Table.{Table, mapping_of}
use Rattle.decompose.specs.Levels.{Level, full, asks}
use Rattle.decompose.specs.TableCheck.{table_refusal}
use Rattle.decompose.proofs.Levels.{level→within, full-same, asks-same}
use Rattle.decompose.proofs.Walk.{bounded_unfolds}
use Rattle.decompose.proofs.Demand3.{accepted-all}

module _ (m : Mapping) {c l : ℕ} (level : Level m c l) (n k : ℕ) (enough : l ≤ n) (more : n ≤ k) where
  -- more levels than a code point's level change nothing of its full decomposition
  pub level-full : full m k c ≡ full m n c
  level-full = full-same m n k c (level→within m level n enough) more

  -- nor of its asks
  pub level-asks : asks m k c ≡ asks m n c
  level-asks = asks-same m n k c (level→within m level n enough) more

module _ (t : Table) (e : table_refusal t ≡ None) (k : ℕ) (more : levels_most ≤ k) (c : ℕ) where
  -- the number 8 cuts nothing off in an accepted table: more levels change nothing of a full decomposition
  pub accepted-full-same : full (mapping_of t) k c ≡ full (mapping_of t) levels_most c
  accepted-full-same =
      let m = mapping_of t in
      full-same m levels_most k c (bounded_unfolds m c (accepted-all t e c)).level more

  -- nor of the asks
  pub accepted-asks-same : asks (mapping_of t) k c ≡ asks (mapping_of t) levels_most c
  accepted-asks-same =
      let m = mapping_of t in
      asks-same m levels_most k c (bounded_unfolds m c (accepted-all t e c)).level more
