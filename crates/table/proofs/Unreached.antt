-- No default of a definition is reached where a contract cites it: what is read stands in the slices.
-- Assumes nothing.
use Prim.Native.Nat.{ℕ, ◌+◌, ◌*◌, ◌<◌}
use native.Mathlib.Omega.{arith}
use mathlib.Core.Path.{◌≡◌}
use Rattle.std.specs.Prelude.{None, Some}
use mathlib.Core.List.{List}
use lib.ListN.{length, length-take, length-drop}
use Rattle.table.specs.Layout.{entry_width, entry_count, start_at, count_at}
use Rattle.table.specs.Table.{Table, form_refusal, parts_in}
use Rattle.table.proofs.Entries.{length_whole}
use Rattle.table.proofs.Form.{formed, sound-whole, formed-fits}

-- the numbers of an entry stand in the slice
pub number-within : (es : List ℕ) (i j : ℕ) → i < entry_count es → j < entry_width → i * entry_width + j < length es
unfolding entry_count
number-within es i j l h = omega arith

module _ (t : Table) (form : form_refusal t ≡ None) where
  -- the entry slice is its entries: nothing is left over
  pub entries-whole : entry_count t.entries * entry_width ≡ length t.entries
  entries-whole = length_whole t.entries (sound-whole t (formed t form).size)

  -- each part of an entry stands in the pool
  pub part-within : (i j : ℕ) → i < entry_count t.entries → j < count_at t.entries i
      → start_at t.entries i + j < length t.pool
  part-within i j l m = omega (arith, formed-fits t form i l)

  -- so the decomposition that an entry says has as many code points as its count
  pub length-parts_in : (i : ℕ) → i < entry_count t.entries → length (parts_in t (Some i)) ≡ count_at t.entries i
  length-parts_in i l = let fits = formed-fits t form i l in simp (length-take, length-drop) (omega arith)
