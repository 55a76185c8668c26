-- What the definitions mean (document 02, request 3), as plain laws of two lists of keys: of all pairs the equal ones are
-- counted, a partner is the first of the equal keys, a name has one where there is an equal key, and the positions are all of
-- the first list's, each once, by their keys and else by themselves.
-- Assumes nothing.
use mathlib.Core.Path.{◌≡◌, refl, sym, ap, ◌∙◌, fun_ext}
use Prim.Native.Nat.{Ordering}
use Prim.Native.Nat.{ℕ, zero, suc, ◌+◌, ◌-◌, ◌≤◌, ◌<◌}
use native.Mathlib.Omega.{arith}
use mathlib.Core.Bool.{Bool, true, false, cond, not, true≢false}
use mathlib.Core.Logic.{◌↔◌}
use Rattle.std.specs.Prelude.{Option, None, Some}
use mathlib.Core.List.{List, [], ◌∷◌, map}
use lib.Dec.{eqb, ltb, eqb-suc-suc}
use lib.ListN.{length, get_or, length-map}
use lib.Seq.{ext_get_or}
use borrow.Author.Tests.{eq-eqb, ne_eqb, eqb-true, ltb-true}
use Rattle.terms.specs.Lists.{empty, lowest, same, total}
use Rattle.terms.proofs.Lists.{all-at}
use Rattle.terms.proofs.Lowest.{lowest-some, lowest-none, lowest-is, lowest-nowhere}
use Rattle.terms.proofs.Same.{same-exactly}
use Rattle.octets.specs.Order.{order_of}
use Rattle.sorting.specs.Sorted.{sorted, numbers}
use Rattle.sorting.specs.KeyOrder.{key_order}
use Rattle.sorting.proofs.KeyOrders.{key_order-keys, key_order-tie}
use Rattle.sorting.proofs.Sorting.{ascending-at}
use Rattle.partners.specs.Partners.{those, equal_to, equal_pairs_of, partnered, counted_from1, partner_of, key_positions}
use Rattle.partners.specs.Groups.{partners_in, first_from1}
use Rattle.partners.specs.Promises.{keys_from}
use Rattle.partners.proofs.Those.{those-twice, length-those, those-map, those-sorted}
use Rattle.partners.proofs.Those.{length-numbers, numbers-at, numbers-once}
use Rattle.partners.proofs.Finding.{none_row, lowest-row}
use Rattle.partners.proofs.Places.{row-ascending, row-numbered, row-length}

-- ---- the same key

-- keys that are not equal are not the same
differ : (a b : List ℕ) → (a ≡ b → ⊥) → same a b ≡ false
differ a b h = go (same a b) refl
  where
    go : (t : Bool) → same a b ≡ t → same a b ≡ false
    go true e = absurd (h ((same-exactly a b).0 e))
    go false e = e

-- and those that are not the same are not equal
unequal : (a b : List ℕ) → same a b ≡ false → a ≡ b → ⊥
unequal a b e q = true≢false (sym ((same-exactly a b).1 q) ∙ e)

-- either key may be asked of the other
same-swap : (a b : List ℕ) → same a b ≡ same b a
same-swap a b = go (same a b) refl
  where
    go : (t : Bool) → same a b ≡ t → same a b ≡ same b a
    go true e = e ∙ sym ((same-exactly b a).1 (sym ((same-exactly a b).0 e)))
    go false e = e ∙ sym (differ b a (λ q. unequal a b e (sym q)))

-- ---- equal pairs

-- of all pairs each that is equal counts one
pub equal_pairs_of-all : (ks qs : List (List ℕ)) → equal_pairs_of ks qs ≡ total (λ k. total (λ q. cond (same k q) 1 0) qs) ks
unfolding equal_pairs_of
equal_pairs_of-all ks qs = ap (λ (f : List ℕ → ℕ). total f ks) (fun_ext (λ k. length-those (same k) qs))

-- one key more in the second list
equal_pairs_of-more : (ks qs : List (List ℕ)) (q : List ℕ) → equal_pairs_of ks (q ∷ qs) ≡ length (equal_to ks q) + equal_pairs_of ks qs
unfolding equal_pairs_of total those
equal_pairs_of-more [] qs q = refl
equal_pairs_of-more (k ∷ ks) qs q = go (same k q) refl (equal_pairs_of-more ks qs q)
  where
    go : (t : Bool) → same k q ≡ t → equal_pairs_of ks (q ∷ qs) ≡ length (equal_to ks q) + equal_pairs_of ks qs
        → equal_pairs_of (k ∷ ks) (q ∷ qs) ≡ length (equal_to (k ∷ ks) q) + equal_pairs_of (k ∷ ks) qs
    go true e h = rw (e, same-swap q k, e) (omega (arith, h))
    go false e h = rw (e, same-swap q k, e) (omega (arith, h))

-- as many whichever list is the first
pub equal_pairs_of-swap : (ks qs : List (List ℕ)) → equal_pairs_of ks qs ≡ equal_pairs_of qs ks
unfolding equal_pairs_of total those
equal_pairs_of-swap [] [] = refl
equal_pairs_of-swap (k ∷ ks) [] = omega (arith, equal_pairs_of-swap ks [])
equal_pairs_of-swap ks (q ∷ qs) = equal_pairs_of-more ks qs q ∙ ap (λ (n : ℕ). length (equal_to ks q) + n) (equal_pairs_of-swap ks qs)

-- ---- the lowest partner

-- nothing is counted as 0
counted_none : (o : Option ℕ) → counted_from1 o ≡ 0 → o ≡ None
counted_none None e = refl
counted_none (Some j) e = absurd (omega (arith, e))

-- and a number as one more
counted-some : (o : Option ℕ) (j : ℕ) → counted_from1 o ≡ suc j → o ≡ Some j
counted-some None j e = let z : ◌≡◌ {A = ℕ} 0 (suc j) = e in absurd (omega arith)
counted-some (Some i) j e = let z : i ≡ j = omega (arith, e) in ap Some z

-- the key with a number is this key
abbrev equal_at : List (List ℕ) → List ℕ → ℕ → Bool
equal_at qs k j = same k (get_or qs j [])

-- 0 exactly where no key of the list is equal
pub partner_of-none : (qs : List (List ℕ)) (k : List ℕ)
    → (partner_of qs k ≡ 0) ↔ ((j : ℕ) → j < length qs → k ≡ get_or qs j [] → ⊥)
unfolding partner_of
partner_of-none qs k = (
  λ e j h.
      unequal k (get_or qs j [])
      (lowest-none (equal_at qs k) (length qs) (counted_none (lowest (equal_at qs k) (length qs)) e) j h),
  λ h. ap counted_from1 (lowest-nowhere (equal_at qs k) (length qs) (λ j b. differ k (get_or qs j []) (h j b))),
)

-- a place, counted from 1, exactly where the key there is equal and none before it is
pub partner_of-lowest : (qs : List (List ℕ)) (k : List ℕ) (j : ℕ)
    → (partner_of qs k ≡ suc j)
    ↔ ((j < length qs) × (k ≡ get_or qs j []) × ((i : ℕ) → i < j → k ≡ get_or qs i [] → ⊥))
unfolding partner_of
partner_of-lowest qs k j = (
  λ e.
      let l = lowest-some (equal_at qs k) (length qs) j (counted-some (lowest (equal_at qs k) (length qs)) j e) in
      (l.below, (same-exactly k (get_or qs j [])).0 l.holds, λ i h. unequal k (get_or qs i []) (l.first i h)),
  λ l.
      ap counted_from1
      (lowest-is (equal_at qs k) (length qs) j l.0 ((same-exactly k (get_or qs j [])).1 l.1)
      (λ i h. differ k (get_or qs i []) (l.2 i h))),
)

-- ---- names with a partner

-- the first of some numbers is not 0 where there is one
first-none : (us : List ℕ) → empty us ≡ eqb (first_from1 0 us) 0
first-none [] = sym (eq-eqb 0 0 refl)
first-none (u ∷ us) = sym (ne_eqb (first_from1 0 (u ∷ us)) 0 (λ e. omega (arith, e)))

module _ (qs : List (List ℕ)) where
  -- a key by its number
  abbrev key : ℕ → List ℕ
  key j = get_or qs j []

  -- the keys of all numbers are the list
  keys_from-all : keys_from key 0 (length qs) ≡ qs
  keys_from-all =
      let long = length-map (numbers 0 (length qs)) key ∙ length-numbers 0 (length qs) in
      ext_get_or [] (keys_from key 0 (length qs)) qs long
      (λ i h. numbers-at key [] 0 (length qs) i (omega (arith, long, h)) ∙ ap key (let from : 0 + i ≡ i = omega arith in from))

  -- no key is equal exactly where the lowest partner is 0
  none_equal : (k : List ℕ) → empty (equal_to qs k) ≡ eqb (partner_of qs k) 0
  none_equal k =
      ap (λ (t : List (List ℕ)). empty (equal_to t k)) (sym keys_from-all)
      ∙ sym (none_row key 0 (length qs) k)
      ∙ first-none (partners_in key 0 k (sorted (key_order key) (numbers 0 (0 + length qs))))
      ∙ ap (λ (n : ℕ). eqb n 0) (lowest-row key 0 (length qs) k)
      ∙ ap (λ (t : List (List ℕ)). eqb (partner_of t k) 0) keys_from-all

-- a name has a partner exactly where its lowest partner is not 0
pub partnered-some : (ks qs : List (List ℕ)) → partnered ks qs ≡ length (those (λ k. not (eqb (partner_of qs k) 0)) ks)
unfolding partnered
partnered-some ks qs =
    ap (λ (p : List ℕ → Bool). length (those p ks)) (fun_ext (λ k. ap not (none_equal qs k)))

-- ---- positions

-- one more than each number of a list, at a place
suc-at : (xs : List ℕ) (i : ℕ) → i < length xs → get_or (map suc xs) i 0 ≡ suc (get_or xs i 0)
suc-at [] i h = absurd (omega arith)
suc-at (x ∷ xs) zero h = refl
suc-at (x ∷ xs) (suc i) h = suc-at xs i (omega arith)

module _ (ks : List (List ℕ)) where
  -- the first list's numbers in key order
  abbrev row : List ℕ
  row = sorted (key_order (key ks)) (numbers 0 (length ks))

  -- there are as many positions as keys
  pub length-key_positions : length (key_positions ks) ≡ length ks
  unfolding key_positions
  length-key_positions = length-map row suc ∙ row-length (key ks) (length ks)

  -- every position from 1 to the number of keys is there, and once
  pub key_positions-once : (x : ℕ) → x < length ks → those (eqb (suc x)) (key_positions ks) ≡ suc x ∷ []
  unfolding key_positions
  key_positions-once x h =
      those-map (eqb (suc x)) suc row
      ∙ ap (λ (p : ℕ → Bool). map suc (those p row)) (fun_ext (λ y. eqb-suc-suc x y))
      ∙ ap (map suc)
      (those-sorted (key_order (key ks)) (eqb x) alone 0 (length ks) ∙ numbers-once x 0 (length ks) (omega arith) (omega arith))
    where
      alone : (u v : ℕ) → u < v → eqb x u ≡ true → eqb x v ≡ true → key_order (key ks) u v ≡ true
      alone u v b e f = absurd (omega (arith, eqb-true x u e, eqb-true x v f))

  -- a position is one more than the number there
  position : (i : ℕ) → i < length ks → get_or (key_positions ks) i 0 ≡ suc (get_or row i 0)
  unfolding key_positions
  position i h = suc-at row i (omega (arith, row-length (key ks) (length ks)))

  -- which is a key's
  number : (i : ℕ) → i < length ks → get_or row i 0 < length ks
  number i h =
      ltb-true (get_or row i 0) (length ks)
      (all-at (λ x. ltb x (length ks)) row i 0 (row-numbered (key ks) (length ks)) (omega (
        arith,
        row-length (key ks)
            (length ks),
      )))

  -- no other position is there
  pub key_positions-within : (i : ℕ) → i < length ks → (0 < get_or (key_positions ks) i 0) × (get_or
      (key_positions ks) i 0 ≤ length ks)
  key_positions-within i h = (omega (arith, position i h), omega (arith, position i h, number i h))

  -- a position less 1 is the number there
  numbered : (i : ℕ) → i < length ks → get_or (key_positions ks) i 0 - 1 ≡ get_or row i 0
  numbered i h = omega (arith, position i h)

  -- the number at a place may stand before that at a later one
  ordered : (i j : ℕ) → i < j → j < length ks → key_order (key ks) (get_or row i 0) (get_or row j 0) ≡ true
  ordered i j h k =
      ascending-at (key_order (key ks)) row i j (row-ascending (key ks) (length ks)) h
      (omega (arith, row-length (key ks) (length ks)))

  -- the key of a position is not greater than the key of a later one
  pub key_positions-ascend : (i j : ℕ) → i < j → j < length ks
      → order_of (get_or ks (get_or (key_positions ks) i 0 - 1) []) (get_or ks (get_or (key_positions ks) j 0 - 1) []) ≡ Ordering.gt
      → ⊥
  key_positions-ascend i j h k =
      rw (numbered i (omega arith), numbered j k) (key_order-keys (key ks) (get_or row i 0) (get_or row j 0) (ordered i j h k))

  -- a position stands at no later place again
  apart : (i j : ℕ) → i < j → j < length ks → get_or (key_positions ks) i 0 ≡ get_or (key_positions ks) j 0 → ⊥
  apart i j h k e =
      let x = get_or row i 0 in
      let here = position i (omega arith) in
      let twice = those-twice (eqb (suc x)) (key_positions ks) i j 0 h (omega (arith, length-key_positions))
      (eq-eqb (suc x) (get_or (key_positions ks) i 0) (sym here))
      (eq-eqb (suc x) (get_or (key_positions ks) j 0) (sym here ∙ e))
      in
      omega (arith, twice, ap length (key_positions-once x (number i (omega arith))))

  -- of positions with one key the lower comes first
  pub key_positions-ties : (i j : ℕ) → i < j → j < length ks
      → get_or ks (get_or (key_positions ks) i 0 - 1) [] ≡ get_or ks (get_or (key_positions ks) j 0 - 1) []
      → get_or (key_positions ks) i 0 < get_or (key_positions ks) j 0
  key_positions-ties i j h k e =
      let tie = rw (numbered i (omega arith), numbered j k) at e in
      omega (
        arith,
        key_order-tie (key ks) (get_or row i 0) (get_or row j 0) (ordered i j h k) tie,
        position i (omega arith),
        position j k,
        apart i j h k,
      )
