-- Laws of `Skipped`: one place more, a block at once, and one run after another.
-- Assumes nothing.
use Prim.Native.Nat.{ℕ, ◌+◌, ◌-◌, ◌≤◌, ◌<◌}
use native.Mathlib.Omega.{arith}
use native.Mathlib.Decide.{dec_lt, ℕ_discrete}
use mathlib.Core.Path.{◌≡◌, refl, ap, sym, ◌∙◌}
use mathlib.Core.List.{List}
use lib.Bits.{bit_or, bit_xor, xor_self, or_self}
use lib.ListN.{length, get_or}
use Rattle.occurrence.specs.Matches.{Matched, Unmatched, Skipped}

-- no place is skipped
pub skipped-none : {x y : List ℕ} {j : ℕ} → j + length x ≤ length y → Skipped x y j j
skipped-none h = record { onward = omega arith; room = h; fails = λ k a b. absurd (omega arith) }

-- one place more
pub skipped-more : {x y : List ℕ} {j at : ℕ} → Skipped x y j at → at + length x < length y → (Matched x y at (length x) → ⊥)
    → Skipped x y j (at + 1)
skipped-more {x} {y} {j} {at} s h f = record {
  onward = omega (arith, s.onward);
  room = omega arith;
  fails = λ k a b m. go k a b m (ℕ_discrete k at);
}
  where
    go : (k : ℕ) → j ≤ k → k < at + 1 → Matched x y k (length x) → Dec (k ≡ at) → ⊥
    go k a b m (yes e) = f (rw e at m)
    go k a b m (no e) = s.fails k a (omega arith) m

-- one run after another
pub skipped-on : {x y : List ℕ} {a b c : ℕ} → Skipped x y a b → Skipped x y b c → Skipped x y a c
skipped-on {x} {y} {a} {b} {c} s t = record {
  onward = omega (arith, s.onward, t.onward);
  room = t.room;
  fails = λ k h g m. go k h g m (dec_lt k b);
}
  where
    go : (k : ℕ) → a ≤ k → k < c → Matched x y k (length x) → Dec (k < b) → ⊥
    go k h g m (yes d) = s.fails k h d m
    go k h g m (no d) = t.fails k (omega arith) g m

-- and after what is passed already
pub unmatched-skipped : {x y : List ℕ} {j at : ℕ} → Unmatched x y j → Skipped x y j at → Unmatched x y at
unmatched-skipped {x} {y} {j} {at} u s = record { fails = λ k h m. go k h m (dec_lt k j) }
  where
    go : (k : ℕ) → k < at → Matched x y k (length x) → Dec (k < j) → ⊥
    go k h m (yes d) = u.fails k d m
    go k h m (no d) = s.fails k (omega arith) h m

-- ---- a block

-- at each of the first k places from j on that the needle stands, what was least is 0
pub record Least (x y : List ℕ) (j k least : ℕ) : Type 0 where
  pub zeros : (l : ℕ) → l < k → Matched x y (j + l) (length x) → least ≡ 0

-- before the first
pub least-none : {x y : List ℕ} {j least : ℕ} → Least x y j 0 least
least-none = record { zeros = λ l h. absurd (omega arith) }

-- one place more
pub least_more : {x y : List ℕ} {j k least new : ℕ} → Least x y j k least → new ≤ least
    → (Matched x y (j + k) (length x) → new ≡ 0) → Least x y j (k + 1) new
least_more {x} {y} {j} {k} {least} {new} s h f = record { zeros = λ l b m. go l b m (ℕ_discrete l k) }
  where
    go : (l : ℕ) → l < k + 1 → Matched x y (j + l) (length x) → Dec (l ≡ k) → new ≡ 0
    go l b m (yes e) = f (rw e at m)
    go l b m (no e) = omega (arith, s.zeros l (omega arith) m)

-- what is least isn't 0: the needle stands at none of them
pub least-skipped : {x y : List ℕ} {j k least : ℕ} → Least x y j k least → 0 < least → j + k + length x ≤ length y
    → Skipped x y j (j + k)
least-skipped {x} {y} {j} {k} {least} s h room = record {
  onward = omega arith;
  room = room;
  fails = λ l a b m.
      let split : l ≡ j + (l - j) = omega arith in
      omega (arith, s.zeros (l - j) (omega arith) (rw split at m));
}

-- ---- three octets

-- three octets that are as they should be differ by 0
same-zero : {a b c a' b' c' : ℕ} → a ≡ a' → b ≡ b' → c ≡ c' → bit_or (bit_or (bit_xor a a') (bit_xor b b')) (bit_xor c c') ≡ 0
same-zero p q r = rw (p, q, r) (simp (xor_self, or_self))

-- the needle's first octet, and two others, at a place where it stands
pub matched-zero : (x y : List ℕ) {k p q r : ℕ} (half far : ℕ) → half < length x → far < length x
    → p ≡ k → q ≡ k + half → r ≡ k + far → Matched x y k (length x)
    → bit_or (bit_or (bit_xor (get_or y p 0) (get_or x 0 0)) (bit_xor (get_or y q 0) (get_or x half 0)))
    (bit_xor (get_or y r 0) (get_or x far 0)) ≡ 0
matched-zero x y {k} half far h f a b c m =
    same-zero (octet 0 (omega arith) (omega arith)) (octet half h b) (octet far f c)
  where
    octet : (i : ℕ) {p : ℕ} → i < length x → p ≡ k + i → get_or y p 0 ≡ get_or x i 0
    octet i l e = ap (λ n. get_or y n 0) e ∙ sym (m.same i l)

-- the same in a block from place j on
pub block-zero : (x y : List ℕ) (j k half far : ℕ) → half < length x → far < length x → Matched x y (j + k) (length x)
    → bit_or (bit_or (bit_xor (get_or y (j + k) 0) (get_or x 0 0)) (bit_xor (get_or y (j + half + k) 0) (get_or x half 0)))
    (bit_xor (get_or y (j + far + k) 0) (get_or x far 0)) ≡ 0
block-zero x y j k half far h f m = matched-zero x y half far h f refl (omega arith) (omega arith) m
