-- What is known under a collation that reads the table: that the table was checked, whether the text is valid, and what is
-- left in the buffer of one that is not.
-- Assumes nothing.
use mathlib.Core.Path.{◌≡◌, refl, ap}
use mathlib.Core.Bool.{Bool, true, false, cond, true≢false}
use Rattle.std.specs.Prelude.{Option, None, Some}
use mathlib.Core.List.{List, [], ◌∷◌}
use Prim.Native.Nat.{ℕ}
use lib.ListN.{length}
use Rattle.terms.specs.Collations.{reads_table}
use Rattle.terms.specs.Lists.{there}
use Rattle.terms.specs.declared.Collation.{Collation}
use Rattle.terms.specs.declared.Collation.TheVariants.{UnicodeCasemap}
use Rattle.table.specs.Mapping.{Mapping}
use Rattle.utf8.specs.Utf8.{Character, characters}
use Rattle.table.specs.Table.{Table}
use Rattle.pages.specs.Pages.{Pages}
use Rattle.decompose.specs.TableCheck.{table_refusal, Usable}
use Rattle.keys.specs.Keys.{unicode_prepared, prepared, table_under, UsableUnder}
use Rattle.keys.specs.Summaries.{summary_numbers, prepared_numbers, KeyFilled}
use Rattle.keys.specs.declared.Summary.{Summary}
use Rattle.keys.proofs.Injective.{truth-inj}

-- an invalid text is its own key under collation 3, and the buffer stays
pub filled-kept : (m : Mapping) (t buffer : List ℕ) (o : Option (List Character)) (s : Summary) → there o ≡ false
    → summary_numbers s ≡ 0 ∷ 0 ∷ length t ∷ 0 ∷ []
    → KeyFilled (unicode_prepared m t o) buffer s buffer
filled-kept m t buffer None s e h = record { numbers = h; left = refl }
filled-kept m t buffer (Some chs) s e h = absurd (true≢false e)

-- a table that may be gone on with was accepted
pub usable-accepted : (k : Collation) (t : Table) (p : Pages) → UsableUnder k t p → table_under k t ≡ None
usable-accepted k t p u = go (reads_table k) u
  where
    go : (b : Bool) → (b ≡ true → Usable t p) → cond b (table_refusal t) None ≡ None
    go true v = (v refl).accepted
    go false v = refl

-- ---- under collation 3

module _ (k : Collation) (e : k ≡ UnicodeCasemap) where
  -- the table and the pages that a call reads may be gone on with
  pub usable-unicode : {t : Table} {p : Pages} → UsableUnder k t p → Usable t p
  usable-unicode u = u (ap reads_table e)

  -- and the table was accepted
  pub table_under-unicode : (t : Table) → table_under k t ≡ None → table_refusal t ≡ None
  table_under-unicode t h = rw e at h

  pub prepared-unicode : (m : Mapping) (t : List ℕ) → prepared k m t ≡ unicode_prepared m t (characters t)
  prepared-unicode m t = rw e

  -- a summary says whether its text is valid
  pub summary-valid : (m : Mapping) (t : List ℕ) (s : Summary) → summary_numbers s ≡ prepared_numbers (prepared k m t)
      → s.valid ≡ there (characters t)
  summary-valid m t s h = go (characters t) (rw e at h)
    where
      go : (o : Option (List Character)) → summary_numbers s ≡ prepared_numbers (unicode_prepared m t o) → s.valid ≡ there o
      go None h = truth-inj s.valid false (cc)
      go (Some chs) h = truth-inj s.valid true (cc)
