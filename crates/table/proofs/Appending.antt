-- The first n entries, and one more that was written behind them: those before are as they were, and the new one is the last.
-- Assumes nothing.
use mathlib.Core.Path.{◌≡◌, refl, sym, ◌∙◌, ap, ap₂}
use Prim.Native.Nat.{ℕ, zero, suc, ◌+◌, ◌≤◌, ◌<◌}
use native.Mathlib.Numerals.{add-one}
use native.Mathlib.Omega.{arith}
use mathlib.Core.Bool.{true}
use mathlib.Core.List.{List}
use lib.Dec.{leb, eqb}
use lib.ListN.{get_or}
use Rattle.terms.specs.Lists.{lowest, or_else, when}
use Rattle.terms.proofs.Lowest.{lowest-cong}
use Rattle.table.specs.Layout.{entry_width, Entry, entry_numbers, entry_count, whole_entries, number_at, code_at, title_at}
use Rattle.table.specs.Layout.{start_at, count_at, put_entry, first_entries}
use Rattle.table.specs.Table.{not_above, counts_below, entry_of}
use Rattle.table.proofs.Entries.{entry_count-put_entry, number_at-put_entry, number_at-put_entry-other}
use Rattle.table.proofs.Entries.{number_at-first_entries, entry_count-first_entries, whole_entries-first_entries}

-- the first n entries after one more was written behind them
abbrev pub append_entry : ℕ → Entry → List ℕ → List ℕ
append_entry n e es = first_entries (n + 1) (put_entry n e es)

module _ (n : ℕ) (e : Entry) (es : List ℕ) (room : n < entry_count es) where
  -- they are one more
  pub entry_count-append : entry_count (append_entry n e es) ≡ n + 1
  entry_count-append = entry_count-first_entries (n + 1) (put_entry n e es) (omega (arith, entry_count-put_entry es n e room))

  -- and nothing else
  pub whole_entries-append : whole_entries (append_entry n e es) ≡ true
  whole_entries-append = whole_entries-first_entries (n + 1) (put_entry n e es) (omega (arith, entry_count-put_entry es n e room))

  -- ---- an entry before

  number_at-before : (k j : ℕ) → k < n → j < entry_width → number_at (append_entry n e es) k j ≡ number_at (first_entries n es) k j
  number_at-before k j l h =
      number_at-first_entries (n + 1) (put_entry n e es) k j (omega arith) h
      ∙ number_at-put_entry-other es n e room k j (λ same. omega arith) h
      ∙ sym (number_at-first_entries n es k j l h)

  -- its code point
  pub code_at-before : (k : ℕ) → k < n → code_at (append_entry n e es) k ≡ code_at (first_entries n es) k
  code_at-before k l = number_at-before k 0 l (omega arith)

  -- its titlecase
  pub title_at-before : (k : ℕ) → k < n → title_at (append_entry n e es) k ≡ title_at (first_entries n es) k
  title_at-before k l = number_at-before k 1 l (omega arith)

  -- its start
  pub start_at-before : (k : ℕ) → k < n → start_at (append_entry n e es) k ≡ start_at (first_entries n es) k
  start_at-before k l = number_at-before k 2 l (omega arith)

  -- its count
  pub count_at-before : (k : ℕ) → k < n → count_at (append_entry n e es) k ≡ count_at (first_entries n es) k
  count_at-before k l = number_at-before k 3 l (omega arith)

  -- the sum of the counts below it, or below the new one
  pub counts_below-before : (k : ℕ) → k ≤ n → counts_below (append_entry n e es) k ≡ counts_below (first_entries n es) k
  unfolding counts_below
  counts_below-before zero h = refl
  counts_below-before (suc k) h =
      ap₂ ◌+◌ (counts_below-before k (omega arith)) (count_at-before k (omega arith))

  -- whether it is not above the one before it
  pub not_above-before : (k : ℕ) → k < n → not_above (append_entry n e es) k ≡ not_above (first_entries n es) k
  unfolding not_above
  not_above-before zero h = refl
  not_above-before (suc k) h =
      ap₂ leb (code_at-before (suc k) h) (code_at-before k (omega arith))

  -- ---- the new entry

  number_at-last : (j : ℕ) → j < entry_width → number_at (append_entry n e es) n j ≡ get_or (entry_numbers e) j 0
  number_at-last j h =
      number_at-first_entries (n + 1) (put_entry n e es) n j (omega arith) h ∙ number_at-put_entry es n e room j h

  -- its code point
  pub code_at-last : code_at (append_entry n e es) n ≡ e.code
  code_at-last = number_at-last 0 (omega arith)

  -- its titlecase
  pub title_at-last : title_at (append_entry n e es) n ≡ e.title
  title_at-last = number_at-last 1 (omega arith)

  -- its start
  pub start_at-last : start_at (append_entry n e es) n ≡ e.start
  start_at-last = number_at-last 2 (omega arith)

  -- its count
  pub count_at-last : count_at (append_entry n e es) n ≡ e.count
  count_at-last = number_at-last 3 (omega arith)

  -- the entry of a code point: the one before, or else the new one
  pub entry_of-append : (c : ℕ)
      → entry_of (append_entry n e es) c ≡ or_else (entry_of (first_entries n es) c) (when (eqb e.code c) n)
  unfolding entry_of lowest
  entry_of-append c =
      let before = entry_count-first_entries n es (omega arith) in
      let same : lowest (λ i. eqb (code_at (append_entry n e es) i) c) n ≡ lowest (λ i. eqb (code_at (first_entries n es) i) c) n =
      lowest-cong (λ i. eqb (code_at (append_entry n e es) i) c) (λ i. eqb (code_at (first_entries n es) i) c) n
      (λ i h. ap (λ (x : ℕ). eqb x c) (code_at-before i h)) in
      let one_more : entry_count (append_entry n e es) ≡ suc n = entry_count-append ∙ add-one n in
      rw (one_more, before) (ap₂ or_else same (ap (λ (x : ℕ). when (eqb x c) n) code_at-last))
