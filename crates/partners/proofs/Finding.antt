-- What the walk finds in the sorted row is what the definitions say of the two lists of keys.
-- Assumes nothing.
use mathlib.Core.Path.{◌≡◌, refl, sym, ap, ap₂, ◌∙◌}
use Prim.Native.Nat.{Ordering}
use Prim.Native.Nat.{ℕ, zero, suc, ◌+◌, ◌-◌, ◌<◌}
use native.Mathlib.Omega.{arith}
use mathlib.Core.Bool.{Bool, true, false, not}
use Rattle.std.specs.Prelude.{Option, None, Some}
use mathlib.Core.List.{List, [], ◌∷◌, ◌++◌, map}
use lib.Dec.{leb, ltb}
use lib.ListN.{length, get_or, length-map}
use borrow.Author.Tests.{leb-true, le-leb, lt-leb, ltb-true, le-ltb}
use Rattle.terms.specs.Lists.{all, empty, lowest, or_else, same, total, when}
use Rattle.terms.proofs.Lists.{all-mono}
use Rattle.terms.proofs.Lowest.{lowest-cong}
use Rattle.terms.proofs.Same.{same-exactly}
use Rattle.terms.proofs.Tests.{both}
use Rattle.octets.proofs.Order.{order-refl}
use Rattle.sorting.specs.Sorted.{sorted, numbers}
use Rattle.sorting.specs.KeyOrder.{key_order}
use Rattle.sorting.proofs.KeyOrders.{key_order-by, key_order-trans, key_order-total}
use Rattle.sorting.proofs.Merged.{sorted-append}
use Rattle.sorting.proofs.Sorting.{all-sorted}
use Rattle.partners.specs.Partners.{those, equal_to, counted_from1, partner_of}
use Rattle.partners.specs.Groups.{is_partner, partners_in, first_from1}
use Rattle.partners.specs.Promises.{keys_from}
use Rattle.partners.proofs.Those.{those-append, those-none, those-same, those-map, those-sorted, those-merged}
use Rattle.partners.proofs.Those.{numbers-append, numbers-least, numbers-most, numbers-at, length-numbers}

-- a number of the first list
abbrev pub is_first : ℕ → ℕ → Bool
is_first middle x = ltb x middle

-- ---- sums and lists made of a list

pub total-map : {A B : Type 0} (f : B → ℕ) (g : A → B) (xs : List A) → total f (map g xs) ≡ total (λ x. f (g x)) xs
unfolding total
total-map f g [] = refl
total-map f g (x ∷ xs) = ap (λ (n : ℕ). f (g x) + n) (total-map f g xs)

pub map-map : {A B C : Type 0} (f : B → C) (g : A → B) (xs : List A) → map f (map g xs) ≡ map (λ x. f (g x)) xs
map-map f g [] = refl
map-map {C = C} f g (x ∷ xs) = ap (λ (t : List C). f (g x) ∷ t) (map-map f g xs)

pub map_same : {A B : Type 0} (f g : A → B) → ((x : A) → f x ≡ g x) → (xs : List A) → map f xs ≡ map g xs
map_same f g h [] = refl
map_same {B = B} f g h (x ∷ xs) = ap₂ (λ (a : B) (t : List B). a ∷ t) (h x) (map_same f g h xs)

-- ---- the lowest partner

-- the first of the numbers from a on that pass is the lowest of those
lowest-first : (p : ℕ → Bool) (a m : ℕ) → first_from1 a (those p (numbers a m)) ≡ counted_from1 (lowest (λ j. p (a + j)) m)
unfolding lowest those numbers
lowest-first p a zero = refl
lowest-first p a (suc m) =
    ap (first_from1 a) (split ∙ those-append p (numbers a m) ((a + m) ∷ []))
    ∙ go (those p (numbers a m)) (lowest (λ j. p (a + j)) m) (p (a + m)) refl (lowest-first p a m)
  where
    split : those p (numbers a (suc m)) ≡ those p (numbers a m ++ ((a + m) ∷ []))
    split =
        let one : suc m ≡ m + 1 = omega arith in
        ap (λ (n : ℕ). those p (numbers a n)) one ∙ ap (those p) (numbers-append a m 1)

    go : (us : List ℕ) (o : Option ℕ) (b : Bool) → p (a + m) ≡ b → first_from1 a us ≡ counted_from1 o
        → first_from1 a (us ++ those p ((a + m) ∷ [])) ≡ counted_from1 (or_else o (when (p (a + m)) m))
    go [] None true e h = rw e (ap suc (let n : a + m - a ≡ m = omega arith in n))
    go [] None false e h = rw e
    go [] (Some j) b e h = let z : ◌≡◌ {A = ℕ} 0 (suc j) = h in absurd (omega arith)
    go (u ∷ us) None b e h = absurd (omega (arith, h))
    go (u ∷ us) (Some j) b e h = h

-- ---- the sorted row

module _ (key : ℕ → List ℕ) (middle m : ℕ) where
  abbrev row : List ℕ
  row = sorted (key_order key) (numbers 0 (middle + m))

  parted : numbers 0 (middle + m) ≡ numbers 0 middle ++ numbers middle m
  parted =
      let from : 0 + middle ≡ middle = omega arith in
      numbers-append 0 middle m ∙ ap (λ (x : ℕ). numbers 0 middle ++ numbers x m) from

  below : all (is_first middle) (numbers 0 middle) ≡ true
  below =
      let from : 0 + middle ≡ middle = omega arith in rw from at (numbers-most 0 middle)

  -- its numbers of the first list are these in order
  pub first-sorted : those (is_first middle) row ≡ sorted (key_order key) (numbers 0 middle)
  first-sorted =
      ap (λ (t : List ℕ). those (is_first middle) (sorted (key_order key) t)) parted
      ∙ ap (those (is_first middle))
      (sorted-append (key_order key) (key_order-trans key) (key_order-total key) (numbers 0 middle) (numbers middle m))
      ∙ those-merged (key_order key) (is_first middle) (sorted (key_order key) (numbers 0 middle))
      (sorted (key_order key) (numbers middle m))
      (all-sorted (key_order key) (is_first middle) (numbers 0 middle) ∙ below)
      (all-sorted (key_order key) (λ y. not (is_first middle y)) (numbers middle m)
      ∙ all-mono (leb middle) (λ y. not (is_first middle y)) (λ y h. ap not (le-ltb y middle (leb-true middle y h)))
      (numbers middle m)
      (numbers-least middle m))

  -- the numbers with a key, in the row and in the second list
  pub partners-row : (k : List ℕ) → partners_in key middle k row ≡ those (λ y. same k (key y)) (numbers middle m)
  partners-row k =
      those-sorted (key_order key) (is_partner key middle k) tie 0 (middle + m)
      ∙ ap (those (is_partner key middle k)) parted
      ∙ those-append (is_partner key middle k) (numbers 0 middle) (numbers middle m)
      ∙ ap (λ (t : List ℕ). t ++ those (is_partner key middle k) (numbers middle m))
      (those-none (is_partner key middle k) (numbers 0 middle)
      (all-mono (is_first middle) (λ y. not (is_partner key middle k y)) (λ y h. rw (lt-leb middle y (ltb-true y middle h)))
      (numbers 0 middle)
      below))
      ∙ those-same (is_partner key middle k) (λ y. same k (key y)) (leb middle) (λ y h. rw h) (numbers middle m)
      (numbers-least middle m)
    where
      tie : (x y : ℕ) → x < y → is_partner key middle k x ≡ true → is_partner key middle k y ≡ true → key_order key x y ≡ true
      tie x y h a b =
          let one = (same-exactly k (key x)).0 (both (leb middle x) (same k (key x)) a).1 in
          let two = (same-exactly k (key y)).0 (both (leb middle y) (same k (key y)) b).1 in
          key_order-by key x y Ordering.eq (rw (← one, ← two) (order-refl k)) ∙ le-leb x y (omega arith)

  abbrev qs : List (List ℕ)
  qs = keys_from key middle m

  equal-row : (k : List ℕ) → equal_to qs k ≡ map key (partners_in key middle k row)
  equal-row k = those-map (same k) key (numbers middle m) ∙ ap (map key) (sym (partners-row k))

  -- as many as the second list has equal keys
  pub count-row : (k : List ℕ) → length (partners_in key middle k row) ≡ length (equal_to qs k)
  count-row k = sym (ap length (equal-row k) ∙ length-map (partners_in key middle k row) key)

  empty-map : (xs : List ℕ) → empty (map key xs) ≡ empty xs
  empty-map [] = refl
  empty-map (x ∷ xs) = refl

  pub none_row : (k : List ℕ) → empty (partners_in key middle k row) ≡ empty (equal_to qs k)
  none_row k = sym (ap empty (equal-row k) ∙ empty-map (partners_in key middle k row))

  -- the first is the lowest partner
  pub lowest-row : (k : List ℕ) → first_from1 middle (partners_in key middle k row) ≡ partner_of qs k
  unfolding partner_of
  lowest-row k =
      ap (first_from1 middle) (partners-row k)
      ∙ lowest-first (λ y. same k (key y)) middle m
      ∙ ap counted_from1
      (lowest-cong (λ j. same k (key (middle + j))) (λ j. same k (get_or qs j [])) m
      (λ j h. ap (same k) (sym (numbers-at key [] middle m j h)))
      ∙ ap (lowest (λ j. same k (get_or qs j []))) (sym (length-map (numbers middle m) key ∙ length-numbers middle m)))
