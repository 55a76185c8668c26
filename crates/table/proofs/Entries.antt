-- Laws of the layout: how many entries there are, and what is read after an entry was written and of the first entries.
-- Assumes nothing.
use mathlib.Core.Path.{◌≡◌}
use Prim.Native.Nat.{ℕ, ◌+◌, ◌*◌, ◌%◌, ◌≤◌, ◌<◌}
use native.Mathlib.Omega.{arith}
use native.Mathlib.Decide.{dec_lt}
use mathlib.Core.Bool.{true}
use mathlib.Core.Logic.{◌↔◌}
use mathlib.Core.List.{List}
use lib.ListN.{length, get_or}
use lib.Seq.{length-take-le, get_or-take}
use borrow.Author.Tests.{eqb-true, eq-eqb}
use Rattle.terms.specs.Lists.{put_at}
use Rattle.table.specs.Layout.{entry_width, Entry, entry_numbers, entry_count, whole_entries, number_at, put_entry, first_entries}
use Rattle.terms.proofs.PutAt.{length-put_at, get_d-put_at-before, get_d-put_at, get_d-put_at-after}

-- there are no more entries than numbers
pub entry_count-most : (es : List ℕ) → entry_count es ≤ length es
unfolding entry_count
entry_count-most es = omega arith

-- a slice of whole entries is its entries: nothing is left over
pub length_whole : (es : List ℕ) → whole_entries es ≡ true → entry_count es * entry_width ≡ length es
unfolding entry_count whole_entries
length_whole es e = omega (arith, eqb-true (length es % entry_width) 0 e)

-- there are whole entries exactly when the length is a multiple of 4
pub whole-exactly : (es : List ℕ) → (whole_entries es ≡ true) ↔ (length es % 4 ≡ 0)
unfolding whole_entries
whole-exactly es = (eqb-true (length es % entry_width) 0, eq-eqb (length es % entry_width) 0)

-- ---- an entry was written

module _ (es : List ℕ) (i : ℕ) (e : Entry) (l : i < entry_count es) where
  -- there is room for it
  pub entry-fits : i * entry_width + length (entry_numbers e) ≤ length es
  unfolding entry_count
  entry-fits = omega arith

  -- the slice is as long as before
  pub length-put_entry : length (put_entry i e es) ≡ length es
  unfolding put_entry
  length-put_entry = length-put_at (i * entry_width) (entry_numbers e) es entry-fits

  -- so there are as many entries
  pub entry_count-put_entry : entry_count (put_entry i e es) ≡ entry_count es
  unfolding entry_count
  entry_count-put_entry = rw length-put_entry

  -- the entry is what was written
  pub number_at-put_entry : (j : ℕ) → j < entry_width → number_at (put_entry i e es) i j ≡ get_or (entry_numbers e) j 0
  unfolding number_at put_entry
  number_at-put_entry j h = get_d-put_at (i * entry_width) (entry_numbers e) es entry-fits j h

  -- and every other entry is as before
  pub number_at-put_entry-other : (k j : ℕ) → (k ≡ i → ⊥) → j < entry_width → number_at (put_entry i e es) k j ≡ number_at es k j
  unfolding number_at put_entry
  number_at-put_entry-other k j ne h = go (dec_lt k i)
    where
      go : Dec (k < i) → get_or (put_at (i * entry_width) (entry_numbers e) es) (k * entry_width + j) 0 ≡ get_or es
          (k * entry_width + j) 0
      go (yes b) = get_d-put_at-before (i * entry_width) (entry_numbers e) es entry-fits (k * entry_width + j) (omega arith)
      go (no b) = get_d-put_at-after (i * entry_width) (entry_numbers e) es entry-fits (k * entry_width + j) (omega arith)

-- ---- the first entries

module _ (n : ℕ) (es : List ℕ) where
  -- an entry among them is as it was
  pub number_at-first_entries : (k j : ℕ) → k < n → j < entry_width → number_at (first_entries n es) k j ≡ number_at es k j
  unfolding number_at first_entries
  number_at-first_entries k j l h = get_or-take (n * entry_width) es (k * entry_width + j) 0 (omega arith)

  module _ (h : n ≤ entry_count es) where
    -- they are n entries
    length-first_entries : length (first_entries n es) ≡ n * entry_width
    unfolding entry_count first_entries
    length-first_entries = length-take-le (n * entry_width) es (omega arith)

    pub entry_count-first_entries : entry_count (first_entries n es) ≡ n
    unfolding entry_count
    entry_count-first_entries = omega (arith, length-first_entries)

    -- and nothing else
    pub whole_entries-first_entries : whole_entries (first_entries n es) ≡ true
    unfolding whole_entries
    whole_entries-first_entries =
        eq-eqb (length (first_entries n es) % entry_width) 0 (omega (arith, length-first_entries))
