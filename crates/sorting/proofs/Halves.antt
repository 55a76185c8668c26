-- Merging the two parts of a row, number by number: what stands in the other row, and then what is left of both parts
-- merged, is the whole.
-- Assumes nothing.
use mathlib.Core.Path.{◌≡◌, refl, sym, ap, ap₂, ◌∙◌}
use Prim.Native.Nat.{ℕ, suc, ◌+◌, ◌-◌, ◌≤◌, ◌<◌}
use native.Mathlib.Omega.{arith}
use native.Mathlib.Decide.{ℕ_discrete}
use mathlib.Core.Bool.{Bool, true, false, true≢false}
use mathlib.Core.List.{List, [], ◌∷◌, ◌++◌}
use lib.ListN.{length, take, drop, get_or, set, length-set, drop_of_length-le}
use lib.Seq.{drop-cons, get_or-take, length-take-le, take-suc-set, append_snoc}
use Rattle.terms.specs.Lists.{over}
use Rattle.sorting.specs.Sorted.{merged}
use Rattle.sorting.specs.Promises.{first_left, Merges}

module _ (le : ℕ → ℕ → Bool) where
  -- ---- which number is taken

  -- there is no second
  pub first_left-end : (row : List ℕ) (i j : ℕ) → i < length row → j ≡ length row
      → first_left le (drop i row) (drop j row) ≡ true
  first_left-end row i j h e = rw (drop-cons row i 0 h, drop_of_length-le row {i = j} (omega arith))

  -- there are both
  pub first_left-both : (row : List ℕ) (i j : ℕ) → i < length row → j < length row
      → first_left le (drop i row) (drop j row) ≡ le (get_or row i 0) (get_or row j 0)
  first_left-both row i j h k = rw (drop-cons row i 0 h, drop-cons row j 0 k)

  merged-left : (x : ℕ) (us xs ys : List ℕ) → first_left le (x ∷ us) ys ≡ true → merged le (x ∷ xs) ys ≡ x ∷ merged le xs ys
  unfolding merged
  merged-left x us [] [] e = refl
  merged-left x us (z ∷ xs) [] e = refl
  merged-left x us xs (y ∷ ys) e = rw e

  merged-right : (x y : ℕ) (xs ys : List ℕ) → le x y ≡ false → merged le (x ∷ xs) (y ∷ ys) ≡ y ∷ merged le (x ∷ xs) ys
  unfolding merged
  merged-right x y xs ys e = rw e

  -- ---- the loop

  -- the parts before half and from there on were merged up to i and j, into a row of so many numbers
  pub record Merging (row : List ℕ) (half size i j : ℕ) (out : List ℕ) : Type 0 where
    pub left : i ≤ half
    pub right : half ≤ j
    pub within : j ≤ length row
    pub room : length row ≤ size
    pub long : length out ≡ size
    pub whole : take (i + (j - half)) out ++ merged le (drop i (take half row)) (drop j row)
        ≡ merged le (take half row) (drop half row)

  pub merging_start : (row : List ℕ) (half : ℕ) (out : List ℕ) → half ≤ length row → length row ≤ length out
      → Merging row half (length out) 0 half out
  merging_start row half out h k = record {
    left = omega arith;
    right = omega arith;
    within = h;
    room = k;
    long = refl;
    whole =
        let None : 0 + (half - half) ≡ 0 = omega arith in
        ap (λ (n : ℕ). take n out ++ merged le (take half row) (drop half row)) None;
  }

  module _ {row : List ℕ} {half size i j : ℕ} {out : List ℕ} (m : Merging row half size i j out) (more : i < half) where
    -- what is left of the first part
    left-part : drop i (take half row) ≡ get_or row i 0 ∷ drop (suc i) (take half row)
    left-part =
        drop-cons (take half row) i 0
        (omega (arith, m.right, m.within, length-take-le half row (omega (arith, m.right, m.within))))
        ∙ ap (λ (x : ℕ). x ∷ drop (suc i) (take half row)) (get_or-take half row i 0 more)

    inside : i < length row
    inside = omega (arith, m.right, m.within)

    -- a number more, in front of what is left
    put_next : (x : ℕ) (rest : List ℕ) → let k = i + (j - half) in
        k < length out → take (suc k) (set out k x) ++ rest ≡ take k out ++ x ∷ rest
    put_next x rest h =
        let k = i + (j - half) in
        ap (λ (t : List ℕ). t ++ rest) (take-suc-set out k x h) ∙ append_snoc (take k out) x rest

    -- the first part's number
    pub merging-left : first_left le (drop i row) (drop j row) ≡ true
        → Merging row half size (i + 1) j (set out (i + (j - half)) (get_or row i 0))
    merging-left e =
        let k = i + (j - half) in
        let x = get_or row i 0 in
        let first : first_left le (x ∷ drop (suc i) row) (drop j row) ≡ true =
        ap (λ (t : List ℕ). first_left le t (drop j row)) (sym (drop-cons row i 0 inside)) ∙ e
        in
        record {
          left = omega (arith, more);
          right = m.right;
          within = m.within;
          room = m.room;
          long = length-set out k x ∙ m.long;
          whole =
              let one : i + 1 + (j - half) ≡ suc k = omega arith in
              let next : i + 1 ≡ suc i = omega arith in
              rw (one, next)
              (put_next x (merged le (drop (suc i) (take half row)) (drop j row)) (omega
              (arith, m.room, m.long, m.within, m.right, more))
              ∙ ap (λ (t : List ℕ). take k out ++ t)
              (sym (ap (λ (t : List ℕ). merged le t (drop j row)) left-part
              ∙ merged-left x (drop (suc i) row) (drop (suc i) (take half row)) (drop j row) first))
              ∙ m.whole);
        }

    -- there is a number in the second part, if it is to be taken
    pub merging-more : first_left le (drop i row) (drop j row) ≡ false → j < length row
    merging-more e = go (ℕ_discrete j (length row))
      where
        go : Dec (j ≡ length row) → j < length row
        go (yes z) = absurd (true≢false (sym (first_left-end row i j inside z) ∙ e))
        go (no z) = omega (arith, m.within)

    -- the second part's number
    pub merging-right : first_left le (drop i row) (drop j row) ≡ false
        → Merging row half size i (j + 1) (set out (i + (j - half)) (get_or row j 0))
    merging-right e =
        let k = i + (j - half) in
        let x = get_or row i 0 in
        let y = get_or row j 0 in
        let there : j < length row = merging-more e in
        let rest = drop (suc i) (take half row) in
        record {
          left = m.left;
          right = omega (arith, m.right);
          within = omega (arith, there);
          room = m.room;
          long = length-set out k y ∙ m.long;
          whole =
              let one : i + (j + 1 - half) ≡ suc k = omega (arith, m.right) in
              let next : j + 1 ≡ suc j = omega arith in
              rw (one, next)
              (put_next y (merged le (drop i (take half row)) (drop (suc j) row)) (omega
              (arith, m.room, m.long, there, m.right, more))
              ∙ ap (λ (t : List ℕ). take k out ++ t)
              (ap (λ (t : List ℕ). y ∷ merged le t (drop (suc j) row)) left-part
              ∙ sym
              (ap₂ (λ (t u : List ℕ). merged le t u) left-part (drop-cons row j 0 there)
              ∙ merged-right x y rest (drop (suc j) row) (sym (first_left-both row i j inside there) ∙ e)))
              ∙ m.whole);
        }

  -- the first part is used up
  pub merging-done : {row : List ℕ} {half size i j : ℕ} {out : List ℕ} → Merging row half size i j out → half ≤ i
      → Merges le row half j out
  unfolding merged
  merging-done {row} {half} {size} {i} {j} {out} m h = record {
    within = m.within;
    whole =
        let count : i + (j - half) ≡ j = omega (arith, m.left, m.right) in
        let used : drop i (take half row) ≡ [] =
        drop_of_length-le (take half row) {i = i} (omega (
          arith,
          h,
          length-take-le half row (omega
              (arith, m.right, m.within)),
        ))
        in
        ap₂ (λ (n : ℕ) (t : List ℕ). take n out ++ merged le t (drop j row)) (sym count) (sym used) ∙ m.whole;
  }

-- and what was merged is copied back
pub merges-over : {le : ℕ → ℕ → Bool} {row : List ℕ} {half n : ℕ} {out : List ℕ} → Merges le row half n out → n ≤ length out
    → over (take n out) row ≡ merged le (take half row) (drop half row)
merges-over {row = row} {n = n} {out = out} m h =
    ap (λ (k : ℕ). take n out ++ drop k row) (length-take-le n out h) ∙ m.whole
