-- Rows that are filled from their start, and which keys of a row repeat.
-- Assumes nothing.
use mathlib.Core.Path.{◌≡◌, refl, sym, ap, ◌∙◌}
use Prim.Native.Nat.{ℕ, zero, suc, ◌+◌, ◌≤◌, ◌<◌}
use native.Mathlib.Omega.{arith}
use mathlib.Core.Bool.{cond}
use mathlib.Core.List.{List, [], ◌∷◌, ◌++◌, map, append-nil}
use lib.ListN.{length, take, drop, get_or, drop_of_length-le}
use lib.Seq.{take-length, length-take-le, get_or-drop, get_or-append-add}
use Rattle.terms.specs.Lists.{over}
use Rattle.terms.proofs.Copying.{Copying, copying-done}
use Rattle.partners.specs.Groups.{key_repeats}
use Rattle.matching.specs.Matching.{repeated}

-- ---- filling

module _ {from : List ℕ} {n : ℕ} {row : List ℕ} {i : ℕ} {after : List ℕ} (c : Copying from n row i after) where
  -- a row that was filled to its end
  pub copying-whole : n ≤ i → n ≡ length from → n ≡ length row → after ≡ from
  copying-whole h e f =
      let all : take n from ≡ from = ap (λ (m : ℕ). take m from) e ∙ take-length from in
      let rest : drop (length from) row ≡ [] = drop_of_length-le row {i = length from} (omega arith) in
      copying-done c h (omega arith)
      ∙ ap (λ (t : List ℕ). over t row) all
      ∙ ap (λ (t : List ℕ). from ++ t) rest
      ∙ append-nil from

  -- what was not filled yet is as it was
  pub copying-kept : i ≤ length from → get_or after i 0 ≡ get_or row i 0
  copying-kept h =
      let here : length (take i from) + 0 ≡ i = omega (arith, length-take-le i from h) in
      let there : i + 0 ≡ i = omega arith in
      ap (λ (t : List ℕ). get_or t i 0) c.copied
      ∙ ap (λ (k : ℕ). get_or (take i from ++ drop i row) k 0) (sym here)
      ∙ get_or-append-add (take i from) (drop i row) 0 0
      ∙ get_or-drop i row 0 0
      ∙ ap (λ (k : ℕ). get_or row k 0) there

-- one more than a number of a row
pub suc-at : (row : List ℕ) (i : ℕ) → i < length row → get_or (map suc row) i 0 ≡ get_or row i 0 + 1
suc-at [] i h = absurd (omega arith)
suc-at (x ∷ xs) zero h = omega arith
suc-at (x ∷ xs) (suc i) h = suc-at xs i (omega arith)

-- ---- keys that repeat

-- as many as there are keys
pub length-repeated : (ks : List (List ℕ)) → length (repeated ks) ≡ length ks
unfolding repeated
length-repeated [] = refl
length-repeated (k ∷ []) = refl
length-repeated (k ∷ q ∷ ks) = ap suc (length-repeated (q ∷ ks))

-- at each place of a row
pub repeated-at : (key : ℕ → List ℕ) (row : List ℕ) (i : ℕ) → i < length row
    → get_or (repeated (map key row)) i 0 ≡ cond (key_repeats key (drop i row)) 1 0
unfolding repeated
repeated-at key [] i h = absurd (omega arith)
repeated-at key (x ∷ []) zero h = refl
repeated-at key (x ∷ []) (suc i) h = absurd (omega arith)
repeated-at key (x ∷ y ∷ ys) zero h = refl
repeated-at key (x ∷ y ∷ ys) (suc i) h = repeated-at key (y ∷ ys) i (omega arith)
