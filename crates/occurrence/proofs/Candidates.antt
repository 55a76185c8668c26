-- Laws of the loop that notes a needle's rows: what holds at a candidate j, once it is matched, and once it has its row or
-- needs none.
-- Assumes nothing.
use Prim.Native.Nat.{ℕ, suc, ◌+◌, ◌-◌, ◌/◌, ◌^◌, ◌≤◌, ◌<◌}
use native.Mathlib.Omega.{arith}
use mathlib.Core.Path.{◌≡◌}
use mathlib.Core.List.{List}
use lib.ListN.{length, set, length-set}
use Rattle.std.proofs.lemmas.List.{map-set}
use Rattle.occurrence.specs.declared.rows.Row.{Row}
use Rattle.occurrence.specs.declared.rows.Rows as table
use Rattle.occurrence.specs.Promises.{periods, reaches}
use Rattle.occurrence.specs.Matches.{Matched, Extended}
use Rattle.occurrence.specs.Rows.{rows_most, Shifted, Rows}
use Rattle.occurrence.proofs.Matching.{matched-none}
use Rattle.occurrence.proofs.Coverage.{rows_none, rows_short, rows_on}
use Rattle.occurrence.proofs.Noting.{Last, last_none, last-room, rows-reached, rows-noted, last-noted}
use Rattle.occurrence.proofs.Searching.{matched-shifted}

-- a table of n rows for the periods below b, the last of which reaches r
pub record Table (x P R : List ℕ) (n r b : ℕ) : Type 0 where
  pub periods : length P ≡ rows_most
  pub reaches : length R ≡ rows_most
  pub few : n < rows_most
  pub rows : Rows x P R n b
  pub last : Last x P R n r

-- candidate j is next, and i octets are known to match there
pub record Candidate (x : List ℕ) (j i : ℕ) : Type 0 where
  pub start : 0 < j
  pub within : j ≤ suc (length x)
  pub room : i ≤ length x - j
  pub matched : Matched x x j i

-- ---- the start

-- no row is noted
pub table_none : (x P R : List ℕ) → length P ≡ rows_most → length R ≡ rows_most → Table x P R 0 0 1
table_none x P R a b =
    record { periods = a; reaches = b; few = omega arith; rows = rows_none x P R; last = last_none x P R }

-- the first candidate is 1
pub candidate-first : {x : List ℕ} → Candidate x 1 0
candidate-first = record { start = omega arith; within = omega arith; room = omega arith; matched = matched-none }

-- ---- one candidate

module _ {x P R : List ℕ} {n r j i : ℕ} (t : Table x P R n r j) (e : Extended x x j (length x - j) i) (pos : 0 < j) where
  -- the match is too short for a row
  pub table-short : i / 2 < j → Table x P R n r (j + 1)
  table-short h = record {
    periods = t.periods;
    reaches = t.reaches;
    few = t.few;
    rows = rows_short t.rows e (omega arith);
    last = t.last;
  }

  -- the last row reaches as far
  pub table-reached : j + i ≤ r → Table x P R n r (j + 1)
  table-reached h = record {
    periods = t.periods;
    reaches = t.reaches;
    few = t.few;
    rows = rows-reached t.rows t.last e pos h;
    last = t.last;
  }

  -- a row is noted
  pub table-noted : j ≤ i / 2 → r < j + i → j ≤ length x → length x < 2 ^ 64
      → Table x (set P n j) (set R n (j + i)) (n + 1) (j + i) (j + 1)
  table-noted long far within small =
      let a : n < length P = omega (arith, t.periods, t.few) in
      let b : n < length R = omega (arith, t.reaches, t.few) in
      let new : Last x (set P n j) (set R n (j + i)) (n + 1) (j + i) =
      last-noted t.rows e pos a b t.last (omega arith) far within
      in
      record {
        periods = simp length-set t.periods;
        reaches = simp length-set t.reaches;
        few = last-room new small;
        rows = rows-noted t.rows e pos a b;
        last = new;
      }

-- a row is noted in a needle's rows
pub periods-set : (t : table.Rows) (row : Row) → periods (record { rows = set t.rows t.count row; count = t.count + 1 })
    ≡ set (periods t) t.count row.period
periods-set t row = map-set (λ (r : Row). r.period) t.rows t.count row

pub reaches-set : (t : table.Rows) (row : Row) → reaches (record { rows = set t.rows t.count row; count = t.count + 1 })
    ≡ set (reaches t) t.count row.reach
reaches-set t row = map-set (λ (r : Row). r.reach) t.rows t.count row

-- the table that a needle's rows are
abbrev pub TableOf : List ℕ → table.Rows → ℕ → ℕ → Type 0
TableOf x t r b = Table x (periods t) (reaches t) t.count r b

-- the same by another name
pub table_same : {x : List ℕ} {t t' : table.Rows} {r r' b : ℕ} → t' ≡ t → r' ≡ r → TableOf x t r b → TableOf x t' r' b
table_same a b t = rw (a, b) t

-- ---- on to the next

module _ {x P R : List ℕ} {n r j i by kept : ℕ} (t : Table x P R n r (j + 1)) (e : Extended x x j (length x - j) i) (pos : 0 < j)
    (within : j ≤ length x / 3) (shift : Shifted P R n i by kept) where
  -- the candidates that are skipped need no row
  pub table_on : Table x P R n r (j + by)
  table_on = record {
    periods = t.periods;
    reaches = t.reaches;
    few = t.few;
    rows = rows_on t.rows e pos (omega arith) shift;
    last = t.last;
  }

  -- the next candidate
  pub candidate-on : Candidate x (j + by) kept
  candidate-on = record {
    start = omega arith;
    within = omega (arith, shift.within, e.within);
    room = omega (arith, shift.rest, e.within);
    matched = matched-shifted t.rows e.matched shift;
  }
