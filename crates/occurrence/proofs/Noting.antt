-- Laws of a row that is noted: it is right, and its period is more than twice the last one's, so that rows_most rows are enough.
-- Assumes nothing.
use Prim.Native.Nat.{ℕ, ◌+◌, ◌-◌, ◌*◌, ◌^◌, ◌≤◌, ◌<◌}
use native.Mathlib.Omega.{arith}
use native.Mathlib.Decide.{dec_lt, ℕ_discrete}
use mathlib.Core.Path.{◌≡◌, ap, sym, ◌∙◌}
use mathlib.Core.List.{List}
use lib.ListN.{length, get_or, set}
use lib.Seq.{get_or-set_same, get_or-set_other}
use lib.Pow.{pow-add, pow_mono}
use Rattle.occurrence.specs.Matches.{Matched, Period, Extended}
use Rattle.occurrence.specs.Rows.{rows_most, Ordered, Row, Rows}
use Rattle.occurrence.proofs.Matching.{matched→period, period-less}
use Rattle.occurrence.proofs.Coverage.{Over, ends, rows-up}

-- ---- the last row

-- the last of n rows reaches r and no further, and the periods have doubled n times; its period and r are 0 where there is none
pub record Last (x P R : List ℕ) (n r : ℕ) : Type 0 where
  pub period : ℕ
  pub doubled : 2 ^ n ≤ period + 1
  pub thrice : 3 * period ≤ r
  pub within : r ≤ length x
  pub stops : 0 < r → r < length x → get_or x (r - period) 0 ≡ get_or x r 0 → ⊥
  pub held : 0 < r → Row P R n r period

-- there is none at first
pub last_none : (x P R : List ℕ) → Last x P R 0 0
last_none x P R = record {
  period = 0;
  doubled = omega arith;
  thrice = omega arith;
  within = omega arith;
  stops = λ h. absurd (omega arith);
  held = λ h. absurd (omega arith);
}

-- the table has room for one more
pub last-room : {x P R : List ℕ} {n r : ℕ} → Last x P R n r → length x < 2 ^ 64 → n < rows_most
last-room {n = n} last h = go (dec_lt n rows_most)
  where
    go : Dec (n < rows_most) → n < rows_most
    go (yes b) = b
    go (no b) =
        let many : 2 ^ 64 ≤ 2 ^ n = pow_mono {i = 64} {j = n} (omega arith) in
        absurd (omega (arith, last.doubled, last.thrice, last.within))

-- the last row reaches as far
pub rows-reached : {x P R : List ℕ} {n j i r : ℕ} → Rows x P R n j → Last x P R n r → Extended x x j (length x - j) i
    → 0 < j → j + i ≤ r → Rows x P R n (j + 1)
rows-reached {P = P} {R} {n} {r = r} t last e a h =
    let row : Row P R n r last.period = last.held (omega arith) in
    rows-up t (λ l b c o q. omega
    (arith, o row.number row.below (omega (arith, ends e c q, row.reach)), t.below row.number row.below))

-- a new row's period is more than twice the last one's, or else the last row would reach further
pub doubles : {x P R : List ℕ} {n j i r : ℕ} → Rows x P R n j → (last : Last x P R n r) → Matched x x j i → 0 < j → r < j + i
    → j + i ≤ length x → 2 * last.period < j
doubles {x} {P} {R} {n} {j} {i} {r} t last m pos far within = go (dec_lt (2 * p) j)
  where
    p : ℕ
    p = last.period

    further : j ≤ 2 * p → Row P R n r p → ⊥
    further h row =
        let period : Period x r p = period-less (rw row.period at (t.right row.number row.below)) row.reach in
        let a : ℕ = r - p - j in
        let low : j + a ≡ r - p = omega (arith, last.thrice) in
        let high : j + (p + a) ≡ r = omega (arith, last.thrice) in
        last.stops (omega (arith, last.thrice)) (omega arith)
        (ap (λ k. get_or x k 0) (sym low) ∙ sym (m.same a (omega arith)) ∙ period.same a (omega arith) ∙ m.same (p + a)
        (omega arith)
        ∙ ap (λ k. get_or x k 0) high)

    go : Dec (2 * p < j) → 2 * p < j
    go (yes h) = h
    go (no h) = absurd (further (omega arith) (last.held (omega (arith, last.thrice))))

-- ---- the new row

-- what holds of each row and of the new one holds of each row with the new one
each_row : (Q : ℕ → ℕ → Type 0) (P R : List ℕ) (n p r : ℕ) → n < length P → n < length R
    → ((k : ℕ) → k < n → Q (get_or P k 0) (get_or R k 0)) → Q p r
    → (k : ℕ) → k < n + 1 → Q (get_or (set P n p) k 0) (get_or (set R n r) k 0)
each_row Q P R n p r a b old new k h = go (ℕ_discrete k n)
  where
    go : Dec (k ≡ n) → Q (get_or (set P n p) k 0) (get_or (set R n r) k 0)
    go (yes e) = rw (e, get_or-set_same P n p 0 a, get_or-set_same R n r 0 b) new
    go (no e) = rw (get_or-set_other P n k p 0 e, get_or-set_other R n k r 0 e) (old k (omega arith))

-- one row more, for the period j
module _ {x P R : List ℕ} {n j i : ℕ} (t : Rows x P R n j) (e : Extended x x j (length x - j) i) (pos : 0 < j)
    (a : n < length P) (b : n < length R) where
  ordered-noted : Ordered (set P n j) (n + 1)
  ordered-noted = record {
    positive = each_row (λ p r. 0 < p) P R n j (j + i) a b t.ordered.positive pos;
    ascending = λ k l h g. go k l h g (ℕ_discrete l n);
  }
    where
      go : (k l : ℕ) → k < l → l < n + 1 → Dec (l ≡ n) → get_or (set P n j) k 0 < get_or (set P n j) l 0
      go k l h g (yes q) =
          rw (q, get_or-set_same P n j 0 a, get_or-set_other P n k j 0 (omega arith)) (t.below k (omega arith))
      go k l h g (no q) =
          rw (get_or-set_other P n l j 0 q, get_or-set_other P n k j 0 (omega arith)) (t.ordered.ascending k l h (omega arith))

  covered-noted : (l s : ℕ) → 0 < s → s < j + 1 → 3 * s ≤ l → l ≤ length x → Over (set P n j) (set R n (j + i)) (n + 1) l s
      → Period x l s → ⊥
  covered-noted l s c d f g o p = go (ℕ_discrete s j)
    where
      here : s ≡ j → ⊥
      here q =
          omega (arith, o n (omega arith) (rw (get_or-set_same R n (j + i) 0 b) (ends e g (rw q at p))), get_or-set_same P n j 0 a)

      old : Over P R n l s
      old k h r =
          rw (get_or-set_other P n k j 0 (omega arith)) at (o k (omega arith) (rw (get_or-set_other R n k (j + i) 0 (omega arith)) r))

      go : Dec (s ≡ j) → ⊥
      go (yes q) = here q
      go (no q) = t.covered l s c (omega arith) f g old p

  -- the rows with the new one
  pub rows-noted : Rows x (set P n j) (set R n (j + i)) (n + 1) (j + 1)
  rows-noted = record {
    ordered = ordered-noted;
    below = each_row (λ p r. p < j + 1) P R n j (j + i) a b (λ k h. omega (arith, t.below k h)) (omega arith);
    right = each_row (λ p r. Period x r p) P R n j (j + i) a b t.right (matched→period e.matched);
    covered = covered-noted;
  }

  -- it is the last
  pub last-noted : {r : ℕ} → Last x P R n r → 2 * j ≤ i → r < j + i → j ≤ length x
      → Last x (set P n j) (set R n (j + i)) (n + 1) (j + i)
  last-noted last long far within = record {
    period = j;
    doubled =
        omega (arith, pow-add 2 n 1, last.doubled, doubles t last e.matched pos far (omega (arith, e.within)));
    thrice = omega arith;
    within = omega (arith, e.within);
    stops = λ h g q. e.stops (omega arith) (ap (λ k. get_or x k 0) (omega arith) ∙ q);
    held = λ h. record {
      number = n;
      below = omega arith;
      period = get_or-set_same P n j 0 a;
      reach = rw (get_or-set_same R n (j + i) 0 b) (omega arith);
    };
  }
