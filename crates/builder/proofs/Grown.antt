-- What holds of a table that the builder has grown, cut to what is used: its entries pass 4 and 5 and stand below the next
-- code point, and its pool is exactly the parts of the entries. A table of no entries is grown, and so is a grown one with
-- one more line.
-- Assumes nothing.
use mathlib.Core.Path.{◌≡◌, refl, sym, ◌∙◌, ap, ap₂}
use Prim.Native.Nat.{ℕ, zero, suc, ◌+◌, ◌≤◌, ◌<◌}
use native.Mathlib.Numerals.{add-one}
use native.Mathlib.Omega.{arith}
use mathlib.Core.Bool.{true, false}
use mathlib.Core.List.{◌++◌}
use lib.ListN.{length, length-append}
use lib.Seq.{length-take-le}
use borrow.Author.Count.{below_more}
use borrow.Author.Tests.{lt-leb, le-ltb, eq-eqb}
use Rattle.terms.specs.CodePoints.{scalar}
use Rattle.terms.specs.Lists.{all}
use Rattle.terms.specs.Refusals.{parts_most}
use Rattle.terms.proofs.Lists.{all_append}
use Rattle.table.specs.Layout.{Entry, entry_count, code_at, start_at, count_at}
use Rattle.table.specs.Table.{Table, not_above, faulty_code, counts_below, faulty_entry}
use Rattle.terms.proofs.PutAt.{length-put_at, take-put_at}
use Rattle.table.proofs.Entries.{entry_count-put_entry}
use Rattle.table.proofs.Form.{sound-fits}
use Rattle.table.proofs.Appending.{code_at-before, title_at-before, start_at-before, count_at-before, counts_below-before}
use Rattle.table.proofs.Appending.{not_above-before, code_at-last, title_at-last, start_at-last, count_at-last}
use Rattle.ucd.specs.Lines.{Properties, says_nothing}
use Rattle.builder.specs.Builder.{Built, entry_for, appended, moved}
use Rattle.builder.specs.Built.{start_of, cut}
use Rattle.builder.specs.Promises.{UsedFits, NextFits}
use Rattle.builder.proofs.Refusals.{Allowed}

-- a table that the builder has grown
pub record Grown (b : Built) : Type 0 where
  pub fits : UsedFits b
  pub codes : (i : ℕ) → i < b.state.entries_used → faulty_code (cut b).entries i ≡ false
  pub entries : (i : ℕ) → i < b.state.entries_used → faulty_entry (cut b) i ≡ false
  pub below : (i : ℕ) → i < b.state.entries_used → code_at (cut b).entries i < b.state.next
  pub counted : counts_below (cut b).entries b.state.entries_used ≡ b.state.pool_used
  pub numbers : all scalar (cut b).pool ≡ true

-- the pool is as long as is used
pub length-pool : {b : Built} → Grown b → length (cut b).pool ≡ b.state.pool_used
length-pool {b} g = length-take-le b.state.pool_used b.table.pool g.fits.pool-held

-- at first nothing is used
pub grown-start : (t : Table) → Grown (start_of t)
unfolding counts_below
grown-start t = record {
  fits = omega arith;
  codes = λ i h. absurd (omega arith);
  entries = λ i h. absurd (omega arith);
  below = λ i h. absurd (omega arith);
  counted = refl;
  numbers = refl;
}

-- a line that says nothing only moves the next code point
pub grown-moved : {b : Built} (p : Properties) → Grown b → b.state.next ≤ p.code → Grown (moved b p)
grown-moved p g next = record {
  fits = g.fits;
  codes = g.codes;
  entries = g.entries;
  below = λ i h. omega (arith, g.below i h);
  counted = g.counted;
  numbers = g.numbers;
}

-- ---- one more entry

-- its parts stand last in the pool
pub pool-appended : (b : Built) (p : Properties) → NextFits b p → (cut (appended b p)).pool ≡ (cut b).pool ++ p.parts
pool-appended b p room = take-put_at b.state.pool_used p.parts b.table.pool room.pool-held

-- what is used then has room
pub fits-appended : (b : Built) (p : Properties) → NextFits b p → UsedFits (appended b p)
fits-appended b p room =
    let n = b.state.entries_used in
    let long = length-put_at b.state.pool_used p.parts b.table.pool room.pool-held in
    let many = entry_count-put_entry b.table.entries n (entry_for b.state p) (omega (arith, room.entries-held)) in
    omega (arith, room)

module _ (b : Built) (p : Properties) (g : Grown b) (next : b.state.next ≤ p.code) (room : NextFits b p) where
  abbrev n : ℕ
  n = b.state.entries_used

  abbrev e : Entry
  e = entry_for b.state p

  abbrev after : Table
  after = cut (appended b p)

  within : n < entry_count b.table.entries
  within = omega (arith, room.entries-held)

  length-after : length after.pool ≡ b.state.pool_used + length p.parts
  length-after = ap length (pool-appended b p room) ∙ omega (arith, length-append (cut b).pool p.parts, length-pool g)

  counts-before : counts_below after.entries n ≡ b.state.pool_used
  counts-before = counts_below-before n e b.table.entries within n (omega arith) ∙ g.counted

  -- an entry before is as it was
  code-before : (i : ℕ) → i < n → faulty_code after.entries i ≡ false
  code-before i h =
      rw (
        code_at-before n e b.table.entries within i h,
        title_at-before n e b.table.entries within i h,
        not_above-before n e b.table.entries within i h,
      )
      (g.codes i h)

  entry-before : (i : ℕ) → i < n → faulty_entry after i ≡ false
  entry-before i h =
      let inside = sound-fits (cut b) i (g.entries i h) in
      let es = (cut b).entries in
      rw (
        code_at-before n e b.table.entries within i h,
        title_at-before n e b.table.entries within i h,
        start_at-before n e b.table.entries within i h,
        count_at-before n e b.table.entries within i h,
        counts_below-before n e b.table.entries within i (omega arith),
        le-ltb (length after.pool) (start_at es i + count_at es i) (omega (arith, length-after, length-pool g)),
      )
      (rw (le-ltb (length (cut b).pool) (start_at es i + count_at es i) inside) at (g.entries i h))

  -- the new one is above those before
  below_last : (i : ℕ) → i < n → code_at after.entries i < p.code
  below_last i h = omega (arith, code_at-before n e b.table.entries within i h, g.below i h)

  above-last : (k : ℕ) → n ≡ k → not_above after.entries k ≡ false
  unfolding not_above
  above-last zero same = refl
  above-last (suc k) same =
      let last : code_at after.entries (suc k) ≡ p.code =
      ap (code_at after.entries) (sym same) ∙ code_at-last n e b.table.entries within in
      lt-leb (code_at after.entries (suc k)) (code_at after.entries k) (omega (arith, below_last k (omega arith)))

  code-last : Allowed p → faulty_code after.entries n ≡ false
  code-last s =
      rw (
        code_at-last n e b.table.entries within,
        title_at-last n e b.table.entries within,
        s.code,
        s.title,
        s.other,
      )
      (above-last n refl)

  entry-last : says_nothing p ≡ false → length p.parts ≤ parts_most → faulty_entry after n ≡ false
  entry-last maps few =
      rw (
        code_at-last n e b.table.entries within,
        title_at-last n e b.table.entries within,
        start_at-last n e b.table.entries within,
        count_at-last n e b.table.entries within,
        counts-before,
        le-ltb parts_most (length p.parts) few,
        eq-eqb b.state.pool_used b.state.pool_used refl,
        le-ltb (length after.pool) (b.state.pool_used + length p.parts) (omega (arith, length-after)),
      )
      maps

  -- a mapping above the last one that is allowed gives a table that is grown
  pub grown-appended : says_nothing p ≡ false → Allowed p → length p.parts ≤ parts_most → Grown (appended b p)
  unfolding counts_below
  grown-appended maps s few = record {
    fits = fits-appended b p room;
    codes = below_more _ n code-before (code-last s);
    entries = below_more _ n entry-before (entry-last maps few);
    below =
        below_more _ n (λ i h. omega (arith, below_last i h)) (omega (arith, code_at-last n e b.table.entries within));
    counted =
        ap (counts_below after.entries) (add-one n) ∙ ap₂ ◌+◌ counts-before (count_at-last n e b.table.entries within);
    numbers = rw (pool-appended b p room) (all_append scalar (cut b).pool p.parts g.numbers s.parts);
  }
