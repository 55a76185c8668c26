-- Laws of matches and periods: how a match grows, what two matches that overlap say, and what a match of the whole needle is.
-- Assumes nothing.
use Prim.Native.Nat.{ℕ, ◌+◌, ◌-◌, ◌≤◌, ◌<◌}
use native.Mathlib.Omega.{arith}
use native.Mathlib.Decide.{ℕ_discrete}
use mathlib.Core.Path.{◌≡◌, ap, sym, ◌∙◌}
use mathlib.Core.List.{List}
use lib.ListN.{length, take, drop, get_or, length-take, length-drop}
use lib.Seq.{ext_get_or, get_or-take, get_or-drop}
use Rattle.occurrence.specs.Matches.{Matched, Period}

-- an element by an index that is the same
get_d-ap : (x : List ℕ) {a b : ℕ} → a ≡ b → get_or x a 0 ≡ get_or x b 0
get_d-ap x e = ap (λ k. get_or x k 0) e

-- ---- matches

-- no octets match anywhere
pub matched-none : {x y : List ℕ} {j : ℕ} → Matched x y j 0
matched-none = record { same = λ k h. absurd (omega arith) }

-- one octet more
pub matched-more : {x y : List ℕ} {j i : ℕ} → Matched x y j i → get_or x i 0 ≡ get_or y (j + i) 0 → Matched x y j (i + 1)
matched-more {x} {y} {j} {i} m e = record { same = λ k h. go k h (ℕ_discrete k i) }
  where
    go : (k : ℕ) → k < i + 1 → Dec (k ≡ i) → get_or x k 0 ≡ get_or y (j + k) 0
    go k h (yes s) = rw s e
    go k h (no n) = m.same k (omega arith)

-- fewer octets
pub matched-less : {x y : List ℕ} {j i l : ℕ} → Matched x y j i → l ≤ i → Matched x y j l
matched-less m h = record { same = λ k b. m.same k (omega arith) }

-- a match of the list with itself is a period
pub matched→period : {x : List ℕ} {j i : ℕ} → Matched x x j i → Period x (j + i) j
matched→period m = record { same = λ k h. m.same k (omega arith) }

-- a period of a front is one of each shorter front
pub period-less : {x : List ℕ} {r i s : ℕ} → Period x r s → i ≤ r → Period x i s
period-less p h = record { same = λ k l. p.same k (omega arith) }

-- past a period of what matches, the rest still matches
pub matched-on : {x y : List ℕ} {j i s : ℕ} → Matched x y j i → Period x i s → Matched x y (j + s) (i - s)
matched-on {x} {y} {j} {i} {s} m p = record {
  same = λ k h. p.same k (omega arith) ∙ m.same (s + k) (omega arith) ∙ get_d-ap y (omega arith);
}

-- two matches that overlap give a period
pub matched-overlap : {x y : List ℕ} {j i l : ℕ} (t : ℕ) → Matched x y j i → Matched x y (j + t) l → i ≤ t + l → Period x i t
matched-overlap {x} {y} {j} t m n h = record {
  same = λ k b. n.same k (omega arith) ∙ get_d-ap y (omega arith) ∙ sym (m.same (t + k) (omega arith));
}

-- ---- the whole needle

-- what stands matches
pub stands→matched : (x y : List ℕ) (k : ℕ) → take (length x) (drop k y) ≡ x → Matched x y k (length x)
stands→matched x y k e = record {
  same = λ i h. ap (λ l. get_or l i 0) (sym e) ∙ get_or-take (length x) (drop k y) i 0 h ∙ get_or-drop k y i 0;
}

-- and has room
pub stands-within : (x y : List ℕ) (k : ℕ) → take (length x) (drop k y) ≡ x → length x ≤ length y - k
stands-within x y k e = omega (arith, simp (length-take, length-drop) at (ap length e))

-- what matches stands, where there is room
pub matched→stands : (x y : List ℕ) (k : ℕ) → k + length x ≤ length y → Matched x y k (length x) → take (length x) (drop k y) ≡ x
matched→stands x y k room m =
    ext_get_or 0 (take (length x) (drop k y)) x
    (simp (length-take, length-drop) (omega arith))
    (λ i h.
    let b : i < length x = omega (arith, simp (length-take, length-drop) at h) in
    get_or-take (length x) (drop k y) i 0 b ∙ get_or-drop k y i 0 ∙ sym (m.same i b))
