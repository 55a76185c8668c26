-- The second list's numbers with one key, in a row that ascends by key: how they change from place to place, and that for a
-- number of the first list all of them come after it.
-- Assumes nothing.
use mathlib.Core.Path.{◌≡◌, refl, sym, ap, ◌∙◌}
use Prim.Native.Nat.{ℕ, zero, suc, ◌+◌, ◌-◌, ◌≤◌, ◌<◌}
use native.Mathlib.Omega.{arith}
use mathlib.Core.Bool.{Bool, true, false, not, ◌&&◌, true≢false}
use mathlib.Core.List.{List, [], ◌∷◌}
use lib.Dec.{leb}
use lib.ListN.{length, drop, get_or, drop_of_length-le}
use lib.Seq.{drop-cons}
use borrow.Author.Tests.{leb-true, le-leb, lt-leb}
use Rattle.terms.specs.Lists.{all, same}
use Rattle.terms.proofs.Tests.{both, join}
use Rattle.terms.proofs.Lists.{all-at, all-mono}
use Rattle.terms.proofs.Same.{same_refl, same-exactly}
use Rattle.octets.proofs.Order.{AtMost, at-most-both}
use Rattle.sorting.specs.Sorted.{ascending}
use Rattle.sorting.specs.KeyOrder.{key_order}
use Rattle.sorting.proofs.KeyOrders.{key_order-keys, key_order-tie}
use Rattle.partners.specs.Partners.{those}
use Rattle.partners.specs.Groups.{is_partner, partners_in, leading, key_repeats}
use Rattle.partners.proofs.Those.{those-none}

module _ (key : ℕ → List ℕ) where
  module _ (middle : ℕ) where
    -- ---- from place to place

    -- a number of the first list
    pub leading-first : (x : ℕ) (xs : List ℕ) → x < middle → leading key middle (x ∷ xs) ≡ partners_in key middle (key x) xs
    unfolding leading those
    leading-first x xs h = rw (lt-leb middle x h)

    -- a number of the second
    pub leading-second : (x : ℕ) (xs : List ℕ) → middle ≤ x
        → leading key middle (x ∷ xs) ≡ x ∷ partners_in key middle (key x) xs
    unfolding leading those
    leading-second x xs h = rw (le-leb middle x h, same_refl (key x))

    -- the next number has the same key
    pub leading-same : (x y : ℕ) (ys : List ℕ) → same (key x) (key y) ≡ true
        → leading key middle (y ∷ ys) ≡ partners_in key middle (key x) (y ∷ ys)
    unfolding leading
    leading-same x y ys e =
        ap (λ (k : List ℕ). partners_in key middle k (y ∷ ys)) (sym ((same-exactly (key x) (key y)).0 e))

    no-partner : (k : List ℕ) (z : ℕ) → (k ≡ key z → ⊥) → not (is_partner key middle k z) ≡ true
    no-partner k z h = go (leb middle z) (same k (key z)) refl
      where
        go : (a b : Bool) → same k (key z) ≡ b → not (a && b) ≡ true
        go a true e = absurd (h ((same-exactly k (key z)).0 e))
        go true false e = refl
        go false false e = refl

    -- it has another: none after it has the key
    pub leading-other : (x y : ℕ) (ys : List ℕ) → ascending (key_order key) (x ∷ y ∷ ys) ≡ true
        → same (key x) (key y) ≡ false
        → partners_in key middle (key x) (y ∷ ys) ≡ []
    unfolding ascending
    leading-other x y ys a e =
        those-none (is_partner key middle (key x)) (y ∷ ys)
        (join (not (is_partner key middle (key x) y)) (all (λ z. not (is_partner key middle (key x) z)) ys)
        (no-partner (key x) y differ)
        (all-mono (key_order key y) (λ z. not (is_partner key middle (key x) z))
        (λ z h. no-partner (key x) z (λ q. differ (at-most-both (key x) (key y) before (rw q (key_order-keys key y z h)))))
        ys
        later))
      where
        first : (key_order key x y && all (key_order key x) ys ≡ true) × (ascending (key_order key) (y ∷ ys) ≡ true)
        first = both (key_order key x y && all (key_order key x) ys) (ascending (key_order key) (y ∷ ys)) a

        later : all (key_order key y) ys ≡ true
        later = (both (all (key_order key y) ys) (ascending (key_order key) ys) first.1).0

        before : AtMost (key x) (key y)
        before = key_order-keys key x y (both (key_order key x y) (all (key_order key x) ys) first.0).0

        differ : key x ≡ key y → ⊥
        differ q = true≢false (sym ((same-exactly (key x) (key y)).1 q) ∙ e)

    -- ---- all come after a number of the first list

    -- what stands before it is no partner
    before-first : (z x : ℕ) → key_order key z x ≡ true → x < middle → is_partner key middle (key x) z ≡ false
    before-first z x h m = go (leb middle z) (same (key x) (key z)) refl refl
      where
        go : (a b : Bool) → leb middle z ≡ a → same (key x) (key z) ≡ b → a && b ≡ false
        go true true e f =
            let low : z ≤ x = key_order-tie key z x h (sym ((same-exactly (key x) (key z)).0 f)) in
            let high : middle ≤ z = leb-true middle z e in
            absurd (omega arith)
        go true false e f = refl
        go false b e f = refl

    pub partners-after : (row : List ℕ) (i : ℕ) → ascending (key_order key) row ≡ true → i < length row → get_or row i 0 < middle
        → partners_in key middle (key (get_or row i 0)) (drop i row) ≡ partners_in key middle (key (get_or row i 0)) row
    unfolding ascending those
    partners-after [] i a h m = absurd (omega arith)
    partners-after (z ∷ row) zero a h m = refl
    partners-after (z ∷ row) (suc i) a h m =
        let t = both (all (key_order key z) row) (ascending (key_order key) row) a in
        rw (before-first z (get_or row i 0) (all-at (key_order key z) row i 0 t.0 (omega arith)) m)
        (partners-after row i t.1 (omega arith) m)

  -- ---- by places of the row

  ascending-drop : (row : List ℕ) (i : ℕ) → ascending (key_order key) row ≡ true → ascending (key_order key) (drop i row) ≡ true
  unfolding ascending
  ascending-drop row zero a = a
  ascending-drop [] (suc i) a = refl
  ascending-drop (x ∷ row) (suc i) a =
      ascending-drop row i (both (all (key_order key x) row) (ascending (key_order key) row) a).1

  -- no number after a place
  pub repeats-end : (row : List ℕ) (i : ℕ) → i < length row → length row - i < 2 → key_repeats key (drop i row) ≡ false
  repeats-end row i h k =
      rw (drop-cons row i 0 h, drop_of_length-le row {i = suc i} (omega arith))

  -- there is one
  pub repeats-next : (row : List ℕ) (i : ℕ) → i + 1 < length row
      → key_repeats key (drop i row) ≡ same (key (get_or row i 0)) (key (get_or row (i + 1) 0))
  repeats-next row i h =
      let next : i + 1 ≡ suc i = omega arith in
      rw (next, drop-cons row i 0 (omega arith), drop-cons row (suc i) 0 (omega arith))

  module _ (middle : ℕ) (row : List ℕ) (i : ℕ) (inside : i < length row) where
    -- the numbers after a place with its key, where the next has the same
    pub after_same : key_repeats key (drop i row) ≡ true
        → leading key middle (drop (suc i) row) ≡ partners_in key middle (key (get_or row i 0)) (drop (suc i) row)
    after_same e = go (drop (suc i) row) refl
      where
        go : (ys : List ℕ) → drop (suc i) row ≡ ys → leading key middle ys ≡ partners_in key middle (key (get_or row i 0)) ys
        go [] f = absurd (true≢false (sym e ∙ rw (drop-cons row i 0 inside, f)))
        go (y ∷ ys) f = leading-same middle (get_or row i 0) y ys (sym (rw (drop-cons row i 0 inside, f)) ∙ e)

    -- and where it has not
    pub after-other : ascending (key_order key) row ≡ true → key_repeats key (drop i row) ≡ false
        → partners_in key middle (key (get_or row i 0)) (drop (suc i) row) ≡ []
    unfolding those
    after-other a e = go (drop (suc i) row) refl
      where
        go : (ys : List ℕ) → drop (suc i) row ≡ ys → partners_in key middle (key (get_or row i 0)) ys ≡ []
        go [] f = refl
        go (y ∷ ys) f =
            let rest : drop i row ≡ get_or row i 0 ∷ y ∷ ys = drop-cons row i 0 inside ∙ ap (λ
            (t : List ℕ). get_or row i 0 ∷ t) f in
            leading-other middle (get_or row i 0) y ys (rw rest at (ascending-drop row i a)) (rw rest at e)

    -- and at the place itself
    pub at_first : get_or row i 0 < middle
        → leading key middle (drop i row) ≡ partners_in key middle (key (get_or row i 0)) (drop (suc i) row)
    at_first h = rw (drop-cons row i 0 inside) (leading-first middle (get_or row i 0) (drop (suc i) row) h)

    pub at_second : middle ≤ get_or row i 0
        → leading key middle (drop i row) ≡ get_or row i 0 ∷ partners_in key middle (key (get_or row i 0)) (drop (suc i) row)
    at_second h = rw (drop-cons row i 0 inside) (leading-second middle (get_or row i 0) (drop (suc i) row) h)
