-- Laws of `Shifted`: what the rows say of how far to go on, as they are looked through from the first.
-- Assumes nothing.
use Prim.Native.Nat.{ℕ, ◌+◌, ◌-◌, ◌/◌, ◌≤◌, ◌<◌}
use native.Mathlib.Omega.{arith}
use native.Mathlib.Decide.{dec_lt, ℕ_discrete}
use mathlib.Core.Path.{◌≡◌, refl}
use mathlib.Core.List.{List}
use lib.ListN.{get_or, get_or-map, length, length-take, take}
use lib.Seq.{get_or-take}
use Rattle.occurrence.specs.declared.rows.Row.{Row}
use Rattle.occurrence.specs.declared.rows.Rows.{Rows}
use Rattle.occurrence.specs.Promises.{periods, reaches}
use Rattle.occurrence.specs.Rows.{Ordered, Shifted}

-- a row that counts is in the lists of periods and of reaches
pub record Counted (t : Rows) (k : ℕ) (row : Row) : Type 0 where
  pub below : k < t.count
  pub period : get_or (periods t) k 0 ≡ row.period
  pub reach : get_or (reaches t) k 0 ≡ row.reach

pub counted : (t : Rows) (k : ℕ) → k < length (take t.count t.rows)
    → Counted t k (get_or (take t.count t.rows) k (record { period = 0; reach = 0 }))
counted t k h =
    let below : k < t.count = omega (arith, length-take t.count t.rows) in
    record {
      below = below;
      period = rw (get_or-take t.count t.rows k (record { period = 0; reach = 0 }) below)
          (get_or-map (λ (r : Row). r.period) t.rows k (record { period = 0; reach = 0 }));
      reach = rw (get_or-take t.count t.rows k (record { period = 0; reach = 0 }) below)
          (get_or-map (λ (r : Row). r.reach) t.rows k (record { period = 0; reach = 0 }));
    }

-- no row before k reaches i
pub record Passed (reaches : List ℕ) (i k : ℕ) : Type 0 where
  pub short : (l : ℕ) → l < k → get_or reaches l 0 < i

-- no row is passed at first
pub passed_none : {R : List ℕ} {i : ℕ} → Passed R i 0
passed_none = record { short = λ l h. absurd (omega arith) }

-- one row more is passed
pub passed-more : {R : List ℕ} {i k : ℕ} → Passed R i k → get_or R k 0 < i → Passed R i (k + 1)
passed-more {R} {i} {k} p s = record { short = λ l h. go l h (ℕ_discrete l k) }
  where
    go : (l : ℕ) → l < k + 1 → Dec (l ≡ k) → get_or R l 0 < i
    go l h (yes e) = rw e s
    go l h (no n) = p.short l (omega arith)

-- among the rows that reach i, none has a period below that of the first that isn't passed
not-less : {P R : List ℕ} {n i k l : ℕ} → Ordered P n → Passed R i k → l < n → i ≤ get_or R l 0 → get_or P k 0 ≤ get_or P l 0
not-less {P} {R} {n} {i} {k} {l} o p b r = go (dec_lt k l) (dec_lt l k)
  where
    same : k ≡ l → get_or P k 0 ≤ get_or P l 0
    same e = rw e (omega arith)

    go : Dec (k < l) → Dec (l < k) → get_or P k 0 ≤ get_or P l 0
    go (yes h) d = omega (arith, o.ascending k l h b)
    go (no h) (yes g) = absurd (omega (arith, p.short l g))
    go (no h) (no g) = same (omega arith)

-- every row is passed: on past a third
pub shifted_none : {P R : List ℕ} {n i : ℕ} → Passed R i n → Shifted P R n i (i / 3 + 1) 0
shifted_none p = record {
  positive = omega arith;
  within = omega arith;
  rest = omega arith;
  held = λ h. absurd (omega arith);
  least = λ k b r. absurd (omega (arith, p.short k b));
}

-- the next row's period is over a third: on past a third
pub shifted-over : {P R : List ℕ} {n i : ℕ} (k : ℕ) → Ordered P n → Passed R i k → i / 3 < get_or P k 0
    → Shifted P R n i (i / 3 + 1) 0
shifted-over k o p h = record {
  positive = omega arith;
  within = omega arith;
  rest = omega arith;
  held = λ w. absurd (omega arith);
  least = λ l b r. omega (arith, not-less o p b r);
}

-- the next row's period is at most a third, and it reaches: on by the period
pub shifted_row : {P R : List ℕ} {n i : ℕ} (k : ℕ) → Ordered P n → Passed R i k → k < n → get_or P k 0 ≤ i / 3 → i ≤ get_or R k 0
    → Shifted P R n i (get_or P k 0) (i - get_or P k 0)
shifted_row {P} {R} {n} {i} k o p b h r = record {
  positive = o.positive k b;
  within = omega arith;
  rest = omega arith;
  held = λ w. record { number = k; below = b; period = refl; reach = r };
  least = λ l c s. not-less o p c s;
}
