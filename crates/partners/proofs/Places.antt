-- The walk by places: what is known where it stands at a place of the sorted row, and one place before it.
-- Assumes nothing.
use mathlib.Core.Path.{◌≡◌, refl, sym, ap, ◌∙◌}
use Prim.Native.Nat.{ℕ, suc, ◌+◌, ◌-◌, ◌≤◌, ◌<◌}
use native.Mathlib.Omega.{arith}
use mathlib.Core.Bool.{true, cond}
use mathlib.Core.List.{List, [], ◌∷◌}
use lib.Dec.{eqb, ltb}
use lib.ListN.{length, drop, get_or, set, drop_of_length-le}
use lib.Seq.{drop-cons}
use borrow.Author.Tests.{lt-ltb, le-ltb}
use Rattle.terms.specs.Lists.{all, total}
use Rattle.sorting.specs.Sorted.{sorted, ascending, numbers}
use Rattle.sorting.specs.KeyOrder.{key_order}
use Rattle.sorting.proofs.KeyOrders.{key_order-trans, key_order-total}
use Rattle.sorting.proofs.Sorting.{all-sorted, length-sorted, sorted-ascending}
use Rattle.partners.specs.Partners.{those}
use Rattle.partners.specs.Groups.{partners_in, leading, Tells}
use Rattle.partners.specs.Promises.{keys_from, Finds}
use Rattle.partners.specs.declared.groups.Group.{Group}
use Rattle.partners.specs.declared.Totals.{Totals}
use Rattle.partners.proofs.Those.{those-drop, those-most, numbers-most, length-numbers}
use Rattle.partners.proofs.Leading.{partners-after}
use Rattle.partners.proofs.Telling.{tells-same}
use Rattle.partners.proofs.Finding.{is_first}
use Rattle.partners.proofs.Walked.{found, Walked, walked_start, walked_more, walked-done, pairs-fit, names-fit}

-- ---- the sorted row

module _ (key : ℕ → List ℕ) (n : ℕ) where
  pub row-ascending : ascending (key_order key) (sorted (key_order key) (numbers 0 n)) ≡ true
  row-ascending = sorted-ascending (key_order key) (key_order-trans key) (key_order-total key) (numbers 0 n)

  pub row-numbered : all (λ x. ltb x n) (sorted (key_order key) (numbers 0 n)) ≡ true
  row-numbered =
      let from : 0 + n ≡ n = omega arith in
      all-sorted (key_order key) (λ x. ltb x n) (numbers 0 n) ∙ (rw from at (numbers-most 0 n))

  pub row-length : length (sorted (key_order key) (numbers 0 n)) ≡ n
  row-length = length-sorted (key_order key) (numbers 0 n) ∙ length-numbers 0 n

-- ---- a place

module _ (key : ℕ → List ℕ) (middle : ℕ) (row : List ℕ) (partners₀ positions₀ : List ℕ) where
  -- the walk stands at a place
  pub record Reached (i : ℕ) (g : Group) (free pairs names : ℕ) (partners positions : List ℕ) : Type 0 where
    pub inside : i ≤ length row
    pub tells : Tells middle (leading key middle (drop i row)) g
    pub walked : Walked key middle row partners₀ positions₀ (those (is_first middle)
        (drop i row)) free pairs names partners positions

  pub reached-start : Reached (length row) (record { count = 0; lowest = 0 }) middle 0 0 partners₀ positions₀
  unfolding leading those
  reached-start =
      let None : drop (length row) row ≡ [] = drop_of_length-le row {i = length row} (omega arith) in
      record {
        inside = omega arith;
        tells = rw None (record { count = refl; lowest = refl });
        walked = rw None (walked_start key middle row partners₀ positions₀);
      }

  -- the numbers of the first list from a place on
  first-here : (i : ℕ) → i < length row → get_or row i 0 < middle
      → those (is_first middle) (drop i row) ≡ get_or row i 0 ∷ those (is_first middle) (drop (suc i) row)
  unfolding those
  first-here i h k = rw (drop-cons row i 0 h, lt-ltb (get_or row i 0) middle k)

  second-here : (i : ℕ) → i < length row → middle ≤ get_or row i 0
      → those (is_first middle) (drop i row) ≡ those (is_first middle) (drop (suc i) row)
  unfolding those
  second-here i h k = rw (drop-cons row i 0 h, le-ltb (get_or row i 0) middle k)

  -- what the group of a number of the first list tells
  found_here : ascending (key_order key) row ≡ true → (i : ℕ) → i < length row → get_or row i 0 < middle
      → leading key middle (drop i row) ≡ found key middle row (get_or row i 0)
  unfolding leading
  found_here a i h k =
      ap (leading key middle) (drop-cons row i 0 h)
      ∙ ap (partners_in key middle (key (get_or row i 0))) (sym (drop-cons row i 0 h))
      ∙ partners-after key middle row i a h k

  module _ {i free pairs names : ℕ} {g : Group} {partners positions : List ℕ}
      (r : Reached i g free pairs names partners positions) (Some : 0 < i) where
    back : suc (i - 1) ≡ i
    back = omega arith

    -- that of the next place, as the group is asked for
    pub tells-next : Tells middle (leading key middle (drop (suc (i - 1)) row)) g
    tells-next = rw back r.tells

    module _ (h : Group) (here : Tells middle (leading key middle (drop (i - 1) row)) h) where
      -- a number of the second list
      pub reached-second : middle ≤ get_or row (i - 1) 0 → Reached (i - 1) h free pairs names partners positions
      reached-second k = record {
        inside = omega (arith, r.inside);
        tells = here;
        walked = rw (second-here (i - 1) (omega (arith, r.inside)) k, back) r.walked;
      }

      -- a number of the first
      module _ (order : ascending (key_order key) row ≡ true) (first : get_or row (i - 1) 0 < middle)
          (count : length (those (is_first middle) row) ≡ middle) where
        within : i - 1 < length row
        within = omega (arith, r.inside)

        again : those (is_first middle) (drop (i - 1) row) ≡ get_or row (i - 1) 0 ∷ those (is_first middle) (drop i row)
        again = first-here (i - 1) within first ∙ ap (λ (n : ℕ). get_or row (i - 1) 0 ∷ those (is_first middle) (drop n row)) back

        -- a place is free
        pub free-left : 0 < free
        free-left =
            omega (arith, ap length again, those-drop (is_first middle) (i - 1) row, count, r.walked.left)

        told : Tells middle (found key middle row (get_or row (i - 1) 0)) h
        told = tells-same (found_here order (i - 1) within first) here

        pub reached-first : middle ≤ length positions₀
            → Reached (i - 1) h (free - 1) (pairs + h.count) (names + cond (eqb h.count 0) 0 1)
            (set partners (get_or row (i - 1) 0) h.lowest)
            (set positions (free - 1) (get_or row (i - 1) 0 + 1))
        reached-first room = record {
          inside = omega (arith, r.inside);
          tells = here;
          walked = rw (again, told.count, told.lowest) (walked_more key middle row r.walked (get_or row
              (i - 1) 0) free-left room);
        }

        -- no sum wraps
        pub pairs-here : length row < 0x100000000 → pairs + h.count < 0x10000000000000000
        unfolding total
        pairs-here long =
            let fs = those (is_first middle) (drop (i - 1) row) in
            omega (
              arith,
              pairs-fit key middle row fs (omega (
                arith,
                those-most (is_first middle) row,
                those-drop (is_first middle)
                    (i - 1) row,
              )) long,
              r.walked.counted,
              told.count,
              ap (total (λ x. length (found key middle row x))) again,
            )

        pub names-here : names ≤ length row
        names-here =
            omega (
              arith,
              names-fit key middle row (those (is_first middle) (drop i row)),
              r.walked.named,
              those-most (is_first middle) row,
              those-drop (is_first middle) i row,
            )

-- ---- the start of the row

pub reached-done : (key : ℕ → List ℕ) (middle n : ℕ) {row partners₀ positions₀ : List ℕ} {i free pairs names : ℕ} {g : Group}
    {partners positions : List ℕ} (t : Totals)
    → Reached key middle row partners₀ positions₀ i g free pairs names partners positions
    → i ≡ 0
    → row ≡ sorted (key_order key) (numbers 0 n)
    → middle ≤ n
    → middle ≤ length partners₀
    → t.equal_pairs ≡ pairs
    → t.partnered ≡ names
    → Finds (keys_from key 0 middle) (keys_from key middle (n - middle)) partners₀ positions₀ t partners positions
reached-done key middle n {row} {partners₀} {positions₀} {i} {free} {pairs} {names} {g} {partners} {positions} t r e f h k p q =
    let parts : n ≡ middle + (n - middle) = omega arith in
    let whole : row ≡ sorted (key_order key) (numbers 0 (middle + (n - middle))) =
    f ∙ ap (λ (c : ℕ). sorted (key_order key) (numbers 0 c)) parts
    in
    let all : Walked key middle row partners₀ positions₀ (those (is_first middle) row) free pairs names partners positions =
    rw e at r.walked
    in
    walked-done key middle (n - middle) t (rw whole at all) k p q
