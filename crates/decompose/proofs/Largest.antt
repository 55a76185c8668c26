-- Laws of `largest`, the largest measurement of some jamo: each fits, one of them is it, and one that doesn't fit is named; and of
-- finding it jamo by jamo.
-- Assumes nothing.
use mathlib.Core.Path.{◌≡◌, refl, sym, ap, ◌∙◌}
use Prim.Native.Nat.{ℕ, zero, suc, max, ◌+◌, ◌≤◌, ◌<◌}
use native.Mathlib.Decide.{dec_lt, ℕ_discrete}
use native.Mathlib.Numerals.{add-one}
use native.Mathlib.Omega.{arith}
use mathlib.Core.Bool.{true}
use Rattle.std.specs.Prelude.{Option, None, Some}
use lib.ListN.{length}
use borrow.Author.Tests.{le-leb}
use Rattle.terms.proofs.Tests.{none-some}
use Rattle.table.specs.Mapping.{Mapping}
use Rattle.decompose.specs.Levels.{within, full}
use Rattle.decompose.specs.Promises.{jamo_levels, measured, larger, largest}
use Rattle.decompose.proofs.Measuring.{measured-some}

-- how many code points a jamo unfolds into
abbrev pub size : Mapping → ℕ → ℕ
size m c = length (full m jamo_levels c)

-- of two measurements that both fit
larger-some : (a b : Option ℕ) (k : ℕ) → larger a b ≡ Some k
    → (x : ℕ) × (y : ℕ) × (a ≡ Some x) × (b ≡ Some y) × (max x y ≡ k)
larger-some None b k e = absurd (none-some k e)
larger-some (Some x) None k e = absurd (none-some k e)
larger-some (Some x) (Some y) k e = (x, y, refl, refl, cc)

-- of two of which one doesn't
larger-none : (a b : Option ℕ) → larger a b ≡ None → (a ≡ None → ⊥) → b ≡ None
larger-none None b e h = absurd (h refl)
larger-none (Some x) None e h = refl
larger-none (Some x) (Some y) e h = absurd (none-some (max x y) (sym e))

module _ (m : Mapping) (room from : ℕ) where
  -- each is within the levels and no larger
  pub largest-each : (n k : ℕ) → largest m room from n ≡ Some k → (i : ℕ) → i < n
      → (within m jamo_levels (from + i) ≡ true) × (size m (from + i) ≤ k)
  unfolding largest
  largest-each zero k e i l = absurd (omega arith)
  largest-each (suc n) k e i l =
      let h = larger-some (largest m room from n) (measured m jamo_levels room (from + n)) k e in
      let last = measured-some m jamo_levels room (from + n) h.1 h.3 in
      go h.0 h.1 (λ l. largest-each n h.0 h.2 i l) last h.4 (ℕ_discrete i n)
    where
      go : (x y : ℕ) → (i < n → (within m jamo_levels (from + i) ≡ true) × (size m (from + i) ≤ x))
          → (within m jamo_levels (from + n) ≡ true) × (size m (from + n) ≡ y) × (y ≤ room)
          → max x y ≡ k
          → Dec (i ≡ n)
          → (within m jamo_levels (from + i) ≡ true) × (size m (from + i) ≤ k)
      go x y a last most (yes same) = rw same (last.0, omega (arith, last.1, most))
      go x y a last most (no other) =
          let before = a (omega arith) in
          (before.0, omega (arith, before.1, most))

  -- there is room for the largest
  pub largest-room : (n k : ℕ) → largest m room from n ≡ Some k → k ≤ room
  unfolding largest
  largest-room zero k e = let same : 0 ≡ k = cc in omega arith
  largest-room (suc n) k e =
      let h = larger-some (largest m room from n) (measured m jamo_levels room (from + n)) k e in
      let last = measured-some m jamo_levels room (from + n) h.1 h.3 in
      omega (arith, largest-room n h.0 h.2, last.2, h.4)

  -- one of them is the largest
  pub largest-one : (n k : ℕ) → 0 < n → largest m room from n ≡ Some k → (i : ℕ) × (i < n) × (size m (from + i) ≡ k)
  unfolding largest
  largest-one zero k h e = absurd (omega arith)
  largest-one (suc n) k l e =
      let h = larger-some (largest m room from n) (measured m jamo_levels room (from + n)) k e in
      let last = measured-some m jamo_levels room (from + n) h.1 h.3 in
      go h.0 h.1 (λ l. largest-one n h.0 l h.2) (λ None. sym h.2 ∙ ap (largest m room from) None) last.1 h.4
      (dec_lt h.1 h.0) (dec_lt 0 n)
    where
      go : (x y : ℕ) → (0 < n → (i : ℕ) × (i < n) × (size m (from + i) ≡ x)) → (n ≡ 0 → Some x ≡ Some 0)
          → size m (from + n) ≡ y
          → max x y ≡ k
          → Dec (y < x)
          → Dec (0 < n)
          → (i : ℕ) × (i < suc n) × (size m (from + i) ≡ k)
      go x y before first last most (no up) d = (n, omega arith, omega (arith, last, most))
      go x y before first last most (yes down) (yes h) =
          let b = before h in
          (b.0, omega (arith, b.1), omega (arith, b.2, most))
      go x y before first last most (yes down) (no h) =
          let None : n ≡ 0 = omega arith in
          let same : Some x ≡ Some 0 = first None in
          let zero : x ≡ 0 = cc in
          absurd (omega arith)

  -- where one doesn't fit, there is such a one
  pub largest-none : (n : ℕ) → largest m room from n ≡ None → (i : ℕ) × (i < n) × (measured m jamo_levels room (from + i) ≡ None)
  unfolding largest
  largest-none zero e = absurd (none-some 0 (sym e))
  largest-none (suc n) e = go (largest m room from n) refl (largest-none n)
    where
      go : (o : Option ℕ) → largest m room from n ≡ o
          → (largest m room from n ≡ None → (i : ℕ) × (i < n) × (measured m jamo_levels room (from + i) ≡ None))
          → (i : ℕ) × (i < suc n) × (measured m jamo_levels room (from + i) ≡ None)
      go None q before = let b = before q in (b.0, omega (arith, b.1), b.2)
      go (Some x) q before =
          let last = larger-none (largest m room from n) (measured m jamo_levels room (from + n)) e
          (λ r. none-some x (sym r ∙ q)) in
          (n, omega arith, last)

-- of no jamo
pub largest-start : (m : Mapping) (room from : ℕ) → largest m room from 0 ≡ Some 0
unfolding largest
largest-start m room from = refl

module _ (m : Mapping) (room from i : ℕ) where
  -- one jamo more that fits
  pub largest-more : (most k : ℕ) → largest m room from i ≡ Some most → measured m jamo_levels room (from + i) ≡ Some k
      → largest m room from (i + 1) ≡ Some (max most k)
  unfolding largest
  largest-more most k e h = ap (largest m room from) (add-one i) ∙ rw (e, h)

  -- one that doesn't: not all fit
  pub largest-stop : measured m jamo_levels room (from + i) ≡ None → (n : ℕ) → i < n → largest m room from n ≡ None
  unfolding largest
  largest-stop h zero l = absurd (omega arith)
  largest-stop h (suc n) l = go (ℕ_discrete i n) (largest-stop h n)
    where
      after : (o : Option ℕ) → larger o None ≡ None
      after None = refl
      after (Some x) = refl

      go : Dec (i ≡ n) → (i < n → largest m room from n ≡ None)
          → larger (largest m room from n) (measured m jamo_levels room (from + n)) ≡ None
      go (yes same) before =
          let last : measured m jamo_levels room (from + n) ≡ None = rw same at h in
          rw last (after (largest m room from n))
      go (no other) before = rw (before (omega arith))

-- a jamo that doesn't fit is not within the levels, or too large
pub too_much : (m : Mapping) (room c : ℕ) → measured m jamo_levels room c ≡ None → within m jamo_levels c ≡ true → size m c ≤ room → ⊥
too_much m room c e level small =
    none-some (size m c) (sym e ∙ rw (level, le-leb (size m c) room small))
