-- Laws of the search: what a shift skips in the hay, and what the answer is.
-- Assumes nothing.
use Prim.Native.Nat.{ℕ, suc, ◌+◌, ◌-◌, ◌≤◌, ◌<◌}
use native.Mathlib.Omega.{arith}
use native.Mathlib.Decide.{dec_lt, ℕ_discrete}
use mathlib.Core.Path.{◌≡◌}
use Rattle.std.specs.Prelude.{None, Some}
use mathlib.Core.List.{List}
use lib.ListN.{length, take, drop}
use Rattle.occurrence.specs.Matches.{Matched, Extended, Unmatched, Skipped}
use Rattle.occurrence.specs.Occurrence.{occurrence}
use Rattle.occurrence.specs.Rows.{Row, Shifted, Rows}
use Rattle.occurrence.proofs.Laws.{occurrence-is, occurrence-nowhere}
use Rattle.occurrence.proofs.Matching.{matched-none, matched-less, period-less, matched-on, matched-overlap}
use Rattle.occurrence.proofs.Matching.{stands→matched, stands-within, matched→stands}
use Rattle.occurrence.proofs.Skips.{unmatched-skipped}

-- ---- a shift

-- what a shift keeps as matched matches
pub matched-shifted : {x y P R : List ℕ} {n b j i by kept : ℕ} → Rows x P R n b → Matched x y j i → Shifted P R n i by kept
    → Matched x y (j + by) kept
matched-shifted {x} {y} {P} {R} {n} {b} {j} {i} {by} {kept} t m shift = go (dec_lt 0 kept)
  where
    some-kept : Row P R n i by → Matched x y (j + by) kept
    some-kept row =
        matched-less
        (matched-on m (period-less (rw row.period at (t.right row.number row.below)) row.reach))
        shift.rest

    go : Dec (0 < kept) → Matched x y (j + by) kept
    go (yes h) = some-kept (shift.held h)
    go (no h) = record { same = λ k l. absurd (omega arith) }

-- at first no place is passed
pub unmatched-none : {x y : List ℕ} → Unmatched x y 0
unmatched-none = record { fails = λ k h. absurd (omega arith) }

-- nothing stands at the place where an octet differs, nor at those that the shift skips
pub unmatched-on : {x y P R : List ℕ} {n j i by kept : ℕ} → Unmatched x y j → Rows x P R n (suc (length x))
    → Extended x y j (length x) i → i < length x → Shifted P R n i by kept → Unmatched x y (j + by)
unmatched-on {x} {y} {P} {R} {n} {j} {i} {by} u t e short shift =
    record { fails = λ k h m. go k h m (dec_lt k j) (ℕ_discrete k j) }
  where
    skipped : (v : ℕ) → 0 < v → v < by → Matched x y (j + v) (length x) → ⊥
    skipped v a b m =
        t.covered i v a (omega (arith, shift.within)) (omega (arith, shift.within)) (omega arith)
        (λ k q r. omega (arith, shift.least k q r)) (matched-overlap v e.matched m (omega arith))

    go : (k : ℕ) → k < j + by → Matched x y k (length x) → Dec (k < j) → Dec (k ≡ j) → ⊥
    go k h m (yes l) d = u.fails k l m
    go k h m (no l) (yes q) = e.stops short (rw q at (m.same i short))
    go k h m (no l) (no q) =
        let split : k ≡ j + (k - j) = omega arith in
        skipped (k - j) (omega arith) (omega arith) (rw split at m)

-- ---- a place that is looked at

-- from place j₀ on to place j, where i octets are known to match
pub record Reached (x y : List ℕ) (j₀ j i : ℕ) : Type 0 where
  pub onward : j₀ ≤ j
  pub room : j + length x ≤ length y
  pub few : i ≤ length x
  pub unmatched : Unmatched x y j
  pub matched : Matched x y j i

-- where none is known to match, places are skipped
pub reached-skipped : {x y : List ℕ} {j₀ at j i : ℕ} → i ≡ 0 → Unmatched x y j₀ → Skipped x y j₀ at → j ≡ at
    → Reached x y j₀ j i
reached-skipped z u s e = rw (z, e) (record {
  onward = s.onward;
  room = s.room;
  few = omega arith;
  unmatched = unmatched-skipped u s;
  matched = matched-none;
})

-- where some are, the place is kept
pub reached-kept : {x y : List ℕ} {j₀ j i : ℕ} → Unmatched x y j₀ → Matched x y j₀ i → j₀ + length x ≤ length y → i ≤ length x
    → j ≡ j₀ → Reached x y j₀ j i
reached-kept u m room few e =
    rw e (record { onward = omega arith; room = room; few = few; unmatched = u; matched = m })

-- ---- the answer

-- the first place at which the needle matches
pub occurrence-matched : {x y : List ℕ} {j : ℕ} → Unmatched x y j → Matched x y j (length x) → j + length x ≤ length y
    → occurrence x y ≡ Some j
occurrence-matched {x} {y} {j} u m room =
    occurrence-is x y j (matched→stands x y j room m) (λ k h s. u.fails k h (stands→matched x y k s))

-- the needle matches at no place that has room for it
pub occurrence-unmatched : {x y : List ℕ} {j : ℕ} → Unmatched x y j → length y < j + length x → occurrence x y ≡ None
occurrence-unmatched {x} {y} {j} u full = occurrence-nowhere x y (λ k s. go k s (dec_lt k j) (dec_lt 0 (length x)))
  where
    go : (k : ℕ) → take (length x) (drop k y) ≡ x → Dec (k < j) → Dec (0 < length x) → ⊥
    go k s (yes h) d = u.fails k h (stands→matched x y k s)
    go k s (no h) (yes b) = omega (arith, stands-within x y k s)
    go k s (no h) (no b) = u.fails 0 (omega arith) (record { same = λ i l. absurd (omega arith) })
