-- The walk from the end of the sorted row, by the first list's numbers that it has met: what it has counted and stored
-- for them, and that for all of them it is what the definitions say.
-- Assumes nothing.
use mathlib.Core.Path.{◌≡◌, refl, sym, ap, ap₂, ◌∙◌}
use Prim.Native.Nat.{ℕ, suc, ◌+◌, ◌*◌, ◌-◌, ◌≤◌, ◌<◌}
use native.Mathlib.Omega.{arith}
use native.Mathlib.Nat.{mul-le-mul}
use mathlib.Core.Bool.{Bool, true, false, cond, not}
use mathlib.Core.List.{List, [], ◌∷◌, ◌++◌, map}
use lib.Dec.{eqb}
use borrow.Author.Tests.{ltb-true, ne_eqb}
use lib.ListN.{length, take, drop, get_or, set, length-set, length-map, take-append-drop}
use lib.Seq.{set_at, take-suc, length-take-le, append_snoc, drop-drop}
use Rattle.terms.specs.Lists.{all, empty, over, put_at, total}
use Rattle.terms.proofs.Lists.{total-most, total-same}
use Rattle.sorting.specs.Sorted.{sorted, numbers}
use Rattle.octets.specs.Order.{order_of}
use Rattle.sorting.specs.KeyOrder.{may_precede, key_order}
use Rattle.sorting.proofs.Sorting.{total-sorted, length-sorted}
use Rattle.partners.specs.Partners.{those, equal_to, equal_pairs_of, partnered, partner_of, key_positions}
use Rattle.partners.specs.Groups.{partners_in, first_from1}
use Rattle.partners.specs.Promises.{keys_from, Finds}
use Rattle.partners.specs.declared.Totals.{Totals}
use Rattle.partners.proofs.Those.{those-most, length-those, length-numbers, numbers-at, numbers-most, sorted-same}
use Rattle.partners.proofs.Scattered.{scattered, scattered-sorted, scattered-numbers}
use Rattle.partners.proofs.Finding.{is_first, total-map, map-map, map_same, first-sorted, count-row, none_row, lowest-row}

-- the positions of keys in their order, by the numbers of the keys
pub positions-by : (key : ℕ → List ℕ) (n : ℕ) → map suc (sorted (key_order key) (numbers 0 n)) ≡ key_positions (keys_from key 0 n)
unfolding key_positions key_order
positions-by key n =
    ap (map suc)
    (sorted-same (key_order key) (key_order (λ x. get_or ks x [])) (is_first n) says (numbers 0 n) below
    ∙ ap (λ (m : ℕ). sorted (key_order (λ x. get_or ks x [])) (numbers 0 m)) (sym (length-map
    (numbers 0 n) key ∙ length-numbers 0 n)))
  where
    ks : List (List ℕ)
    ks = keys_from key 0 n

    here : (x : ℕ) → is_first n x ≡ true → key x ≡ get_or ks x []
    here x h =
        let same : 0 + x ≡ x = omega arith in
        sym (numbers-at key [] 0 n x (ltb-true x n h) ∙ ap key same)

    says : (x y : ℕ) → is_first n x ≡ true → is_first n y ≡ true → key_order key x y ≡ key_order (λ z. get_or ks z []) x y
    says x y h k = ap₂ (λ (a b : List ℕ). may_precede (order_of a b) x y) (here x h) (here y k)

    below : all (is_first n) (numbers 0 n) ≡ true
    below = let from : 0 + n ≡ n = omega arith in rw from at (numbers-most 0 n)

-- a number put in front of those that were put
put_at-front : (k : ℕ) (x : ℕ) (xs slice : List ℕ) → k < length slice
    → set (put_at (suc k) xs slice) k x ≡ put_at k (x ∷ xs) slice
put_at-front k x xs slice h =
    let rest = xs ++ drop (length xs) (drop (suc k) slice) in
    let more : suc k + length xs ≡ k + suc (length xs) = omega arith in
    ap (λ (t : List ℕ). set (t ++ rest) k x) (take-suc slice k 0 h)
    ∙ ap (λ (t : List ℕ). set t k x) (append_snoc (take k slice) (get_or slice k 0) rest)
    ∙ set_at (take k slice) (get_or slice k 0) rest x k (length-take-le k slice (omega arith))
    ∙ ap (λ (t : List ℕ). take k slice ++ (x ∷ (xs ++ t)))
    (drop-drop (length xs) (suc k) slice
    ∙ ap (λ (n : ℕ). drop n slice) more
    ∙ sym (drop-drop (suc (length xs)) k slice))

module _ (key : ℕ → List ℕ) (middle : ℕ) (row : List ℕ) where
  -- the second list's numbers with a number's key
  abbrev pub found : ℕ → List ℕ
  found x = partners_in key middle (key x) row

  -- 1 for a number that has a partner
  abbrev pub one : List ℕ → ℕ
  one us = cond (eqb (length us) 0) 0 1

  -- the first list's numbers fs were met, from the end
  pub record Walked (partners₀ positions₀ fs : List ℕ) (free pairs names : ℕ) (partners positions : List ℕ) : Type 0 where
    pub left : free + length fs ≡ middle
    pub counted : pairs ≡ total (λ x. length (found x)) fs
    pub named : names ≡ total (λ x. one (found x)) fs
    pub lowest : partners ≡ scattered (λ x. first_from1 middle (found x)) fs partners₀
    pub ordered : positions ≡ put_at free (map suc fs) positions₀
    pub long_partners : length partners ≡ length partners₀
    pub long_positions : length positions ≡ length positions₀

  pub walked_start : (partners positions : List ℕ) → Walked partners positions [] middle 0 0 partners positions
  unfolding total scattered
  walked_start partners positions = record {
    left = omega arith;
    counted = refl;
    named = refl;
    lowest = refl;
    ordered = sym (take-append-drop middle positions);
    long_partners = refl;
    long_positions = refl;
  }

  -- one more
  pub walked_more : {partners₀ positions₀ fs partners positions : List ℕ} {free pairs names : ℕ}
      → Walked partners₀ positions₀ fs free pairs names partners positions
      → (x : ℕ)
      → 0 < free
      → middle ≤ length positions₀
      → Walked partners₀ positions₀ (x ∷ fs) (free - 1) (pairs + length (found x)) (names + one (found x))
      (set partners x (first_from1 middle (found x)))
      (set positions (free - 1) (x + 1))
  unfolding total scattered
  walked_more {partners₀} {positions₀} {fs} {partners} {positions} {free} {pairs} {names} w x h room = record {
    left = omega (arith, w.left);
    counted = omega (arith, w.counted);
    named = omega (arith, w.named);
    lowest = ap (λ (s : List ℕ). set s x (first_from1 middle (found x))) w.lowest;
    ordered =
        let next : free ≡ suc (free - 1) = omega arith in
        let up : x + 1 ≡ suc x = omega arith in
        ap₂ (λ (s : List ℕ) (y : ℕ). set s (free - 1) y)
        (w.ordered ∙ ap (λ (n : ℕ). put_at n (map suc fs) positions₀) next)
        up
        ∙ put_at-front (free - 1) (suc x) (map suc fs) positions₀ (omega (arith, w.left));
    long_partners = length-set partners x (first_from1 middle (found x)) ∙ w.long_partners;
    long_positions = length-set positions (free - 1) (x + 1) ∙ w.long_positions;
  }

  -- ---- no sum wraps

  pub pairs-fit : (fs : List ℕ) → length fs ≤ length row → length row < 0x100000000
      → total (λ x. length (found x)) fs < 0x10000000000000000
  pairs-fit fs h k =
      let most = total-most (length row) (λ x. length (found x)) (λ x. those-most _ row) fs in
      let square : length row * length fs ≤ 0xFFFFFFFF * 0xFFFFFFFF =
      mul-le-mul {n₁ = length row} {m₁ = length fs} {n₂ = 0xFFFFFFFF} {m₂ = 0xFFFFFFFF} (omega arith) (omega arith)
      in
      omega (arith, most, square)

  one-most : (us : List ℕ) → one us ≤ 1
  one-most us = go (eqb (length us) 0)
    where
      go : (b : Bool) → cond {A = ℕ} b 0 1 ≤ 1
      go true = omega arith
      go false = omega arith

  pub names-fit : (fs : List ℕ) → total (λ x. one (found x)) fs ≤ length fs
  names-fit fs = omega (arith, total-most 1 (λ x. one (found x)) (λ x. one-most (found x)) fs)

-- ---- all were met

module _ (key : ℕ → List ℕ) (middle m : ℕ) where
  abbrev row : List ℕ
  row = sorted (key_order key) (numbers 0 (middle + m))

  abbrev ks : List (List ℕ)
  ks = keys_from key 0 middle

  abbrev qs : List (List ℕ)
  qs = keys_from key middle m

  -- a sum over the first list's numbers, in the row and in the list
  summed : (f : ℕ → ℕ) (g : List ℕ → ℕ) → ((x : ℕ) → f x ≡ g (key x)) → total f (those (is_first middle) row) ≡ total g ks
  summed f g h =
      ap (total f) (first-sorted key middle m)
      ∙ total-sorted (key_order key) f (numbers 0 middle)
      ∙ total-same f (λ x. g (key x)) (λ x. true) (λ x e. h x) (numbers 0 middle) (all_true (numbers 0 middle))
      ∙ sym (total-map g key (numbers 0 middle))
    where
      all_true : (xs : List ℕ) → all (λ x. true) xs ≡ true
      all_true [] = refl
      all_true (x ∷ xs) = all_true xs

  pairs-found : total (λ x. length (found key middle row x)) (those (is_first middle) row) ≡ equal_pairs_of ks qs
  unfolding equal_pairs_of
  pairs-found = summed (λ x. length (found key middle row x)) (λ k. length (equal_to qs k)) (λ x. count-row key middle m (key x))

  names-found : total (λ x. one key middle row (found key middle row x)) (those (is_first middle) row) ≡ partnered ks qs
  unfolding partnered
  names-found =
      summed (λ x. one key middle row (found key middle row x)) (λ k. cond (not (empty (equal_to qs k))) 1 0)
      (λ x. any (found key middle row x) ∙ ap (λ (b : Bool). cond {A = ℕ} (not b) 1 0) (none_row key middle m (key x)))
      ∙ sym (length-those (λ k. not (empty (equal_to qs k))) ks)
    where
      any : (us : List ℕ) → one key middle row us ≡ cond (not (empty us)) 1 0
      any [] = refl
      any (u ∷ us) = rw (ne_eqb (suc (length us)) 0 (λ e. omega arith))

  lowest-found : (partners : List ℕ) → middle ≤ length partners
      → scattered (λ x. first_from1 middle (found key middle row x)) (those (is_first middle) row) partners
      ≡ over (map (partner_of qs) ks) partners
  lowest-found partners h =
      let f : ℕ → ℕ = λ x. first_from1 middle (found key middle row x) in
      ap (λ (t : List ℕ). scattered f t partners) (first-sorted key middle m)
      ∙ scattered-sorted f (key_order key) (numbers 0 middle) partners
      ∙ scattered-numbers f middle partners h
      ∙ ap (λ (t : List ℕ). over t partners)
      (map_same f (λ x. partner_of qs (key x)) (λ x. lowest-row key middle m (key x)) (numbers 0 middle)
      ∙ sym (map-map (partner_of qs) key (numbers 0 middle)))

  positions-found : map suc (those (is_first middle) row) ≡ key_positions ks
  positions-found = ap (map suc) (first-sorted key middle m) ∙ positions-by key middle

  pub walked-done : {partners₀ positions₀ partners positions : List ℕ} {free pairs names : ℕ} (t : Totals)
      → Walked key middle row partners₀ positions₀ (those (is_first middle) row) free pairs names partners positions
      → middle ≤ length partners₀
      → t.equal_pairs ≡ pairs
      → t.partnered ≡ names
      → Finds ks qs partners₀ positions₀ t partners positions
  walked-done {partners₀} {positions₀} {partners} {positions} {free} t w room p n = record {
    pairs = p ∙ w.counted ∙ pairs-found;
    names = n ∙ w.named ∙ names-found;
    lowest = w.lowest ∙ lowest-found partners₀ room;
    ordered =
        let all = ap length (first-sorted key middle m)
        ∙ length-sorted (key_order key) (numbers 0 middle)
        ∙ length-numbers 0 middle
        in
        let None : free ≡ 0 = omega (arith, w.left, all) in
        w.ordered ∙ ap₂ (λ (k : ℕ) (xs : List ℕ). put_at k xs positions₀) None positions-found;
  }

  -- as many numbers of the first list are left as are free
  pub first_count : length (those (is_first middle) row) ≡ middle
  first_count =
      ap length (first-sorted key middle m) ∙ length-sorted (key_order key) (numbers 0 middle) ∙ length-numbers 0 middle
