-- Laws of `Rows`: what the table covers as the needle is matched with itself, candidate by candidate. The candidates
-- that a shift skips need no row of their own: one that had a period would give the matched octets a shorter one.
-- Assumes nothing.
use Prim.Native.Nat.{ℕ, suc, ◌+◌, ◌-◌, ◌*◌, ◌≤◌, ◌<◌}
use native.Mathlib.Omega.{arith}
use native.Mathlib.Decide.{dec_le, dec_lt, ℕ_discrete}
use mathlib.Core.Path.{◌≡◌}
use mathlib.Core.List.{List}
use lib.ListN.{length, get_or}
use Rattle.occurrence.specs.Matches.{Period, Extended}
use Rattle.occurrence.specs.Rows.{Shifted, Rows}
use Rattle.occurrence.proofs.Matching.{matched→period, period-less, matched-overlap}

-- every row that reaches i has a period over s
abbrev pub Over : List ℕ → List ℕ → ℕ → ℕ → ℕ → Type 0
Over P R n i s = (k : ℕ) → k < n → i ≤ get_or R k 0 → s < get_or P k 0

-- ---- the start

-- no period is below 1
pub rows_none : (x P R : List ℕ) → Rows x P R 0 1
rows_none x P R = record {
  ordered = record { positive = λ k h. absurd (omega arith); ascending = λ k l h g. absurd (omega arith) };
  below = λ k h. absurd (omega arith);
  right = λ k h. absurd (omega arith);
  covered = λ i s a b c d e f. absurd (omega arith);
}

-- ---- a candidate that needs no row

-- the front that has the period j ends with the match
pub ends : {x : List ℕ} {j i l : ℕ} → Extended x x j (length x - j) i → l ≤ length x → Period x l j → l ≤ j + i
ends {x} {j} {i} {l} e b p = go (dec_le l (j + i))
  where
    go : Dec (l ≤ j + i) → l ≤ j + i
    go (yes h) = h
    go (no h) = absurd (e.stops (omega arith) (p.same i (omega arith)))

-- the rows of the periods below j are those of the periods up to j, if j is covered
pub rows-up : {x P R : List ℕ} {n j : ℕ} → Rows x P R n j
    → ((i : ℕ) → 3 * j ≤ i → i ≤ length x → Over P R n i j → Period x i j → ⊥) → Rows x P R n (j + 1)
rows-up {x} {P} {R} {n} {j} t h = record {
  ordered = t.ordered;
  below = λ k b. omega (arith, t.below k b);
  right = t.right;
  covered = λ i s a b c d o p. go i s a b c d o p (ℕ_discrete s j);
}
  where
    go : (i s : ℕ) → 0 < s → s < j + 1 → 3 * s ≤ i → i ≤ length x → Over P R n i s → Period x i s → Dec (s ≡ j) → ⊥
    go i s a b c d o p (yes e) = h i (omega arith) d (λ k q r. omega (arith, o k q r)) (rw e at p)
    go i s a b c d o p (no e) = t.covered i s a (omega arith) c d o p

-- the match is too short for a row
pub rows_short : {x P R : List ℕ} {n j i : ℕ} → Rows x P R n j → Extended x x j (length x - j) i → i < 2 * j
    → Rows x P R n (j + 1)
rows_short t e h = rows-up t (λ l a b o p. omega (arith, ends e b p))

-- ---- the candidates that a shift skips

-- on from candidate j by a shift
pub rows_on : {x P R : List ℕ} {n j i s kept : ℕ} → Rows x P R n (j + 1) → Extended x x j (length x - j) i → 0 < j → j ≤ length x
    → Shifted P R n i s kept → Rows x P R n (j + s)
rows_on {x} {P} {R} {n} {j} {i} {s} t e pos within shift = record {
  ordered = t.ordered;
  below = λ k b. omega (arith, t.below k b, shift.positive);
  right = t.right;
  covered = λ l u a b c d o p. go l u a b c d o p (dec_lt u (j + 1));
}
  where
    whole : Period x (j + i) j
    whole = matched→period e.matched

    -- no front of i octets has a period below the shift
    None : (v : ℕ) → 0 < v → v < s → v < j + 1 → Period x i v → ⊥
    None v a b c p =
        t.covered i v a c (omega (arith, shift.within)) (omega (arith, e.within))
        (λ k q r. omega (arith, shift.least k q r)) p

    -- a shift over j would skip the period j
    small : (v : ℕ) → v < s → v ≤ j
    small v b = small-go (dec_le v j)
      where
        small-go : Dec (v ≤ j) → v ≤ j
        small-go (yes h) = h
        small-go (no h) = absurd (None j pos (omega arith) (omega arith) (period-less whole (omega arith)))

    skipped : (l v : ℕ) → 0 < v → v < s → 3 * (j + v) ≤ l → l ≤ length x → Over P R n l (j + v)
        → Period x l (j + v) → Dec (l < j + i) → ⊥
    skipped l v a b c d o p (yes h) =
        t.covered (j + i) j pos (omega arith) (omega arith) (omega (arith, e.within))
        (λ k q r. omega (arith, o k q (omega arith))) whole
    skipped l v a b c d o p (no h) =
        None v a b (omega (arith, small v b))
        (matched-overlap {l = l - (j + v)} v e.matched (record { same = λ k g. p.same k (omega arith) }) (omega arith))

    go : (l u : ℕ) → 0 < u → u < j + s → 3 * u ≤ l → l ≤ length x → Over P R n l u → Period x l u → Dec (u < j + 1) → ⊥
    go l u a b c d o p (yes h) = t.covered l u a h c d o p
    go l u a b c d o p (no h) =
        let split : u ≡ j + (u - j) = omega arith in
        skipped l (u - j) (omega arith) (omega arith) (omega arith) d (λ k q r. omega (arith, o k q r)) (rw split at p)
        (dec_lt l (j + i))

-- ---- all candidates

-- past a third of the needle every period that could have a row is below j
pub rows_all : {x P R : List ℕ} {n j : ℕ} → Rows x P R n j → length x < 3 * j → j ≤ suc (length x) → Rows x P R n (suc (length x))
rows_all t far within = record {
  ordered = t.ordered;
  below = λ k b. omega (arith, t.below k b);
  right = t.right;
  covered = λ i s a b c d o p. t.covered i s a (omega arith) c d o p;
}
