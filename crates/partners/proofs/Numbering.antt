-- A row filled with its own places, one after another.
-- Assumes nothing.
use mathlib.Core.Path.{◌≡◌, refl, sym, ap, ap₂, ◌∙◌}
use Prim.Native.Nat.{ℕ, suc, ◌+◌, ◌≤◌, ◌<◌}
use native.Mathlib.Omega.{arith}
use mathlib.Core.List.{List, [], ◌∷◌, ◌++◌, append-nil}
use lib.ListN.{length, drop, get_or, set, length-set, drop_of_length-le}
use lib.Seq.{set_at, drop-cons, append_snoc}
use Rattle.sorting.specs.Sorted.{numbers}
use Rattle.partners.proofs.Those.{length-numbers, numbers-append}

-- the first i places are filled
pub record Numbering (row : List ℕ) (i : ℕ) (after : List ℕ) : Type 0 where
  pub inside : i ≤ length row
  pub long : length after ≡ length row
  pub filled : after ≡ numbers 0 i ++ drop i row

pub numbering_start : (row : List ℕ) → Numbering row 0 row
unfolding numbers
numbering_start row = record { inside = omega arith; long = refl; filled = refl }

-- one more number
numbers-next : (i : ℕ) → numbers 0 (i + 1) ≡ numbers 0 i ++ (i ∷ [])
unfolding numbers
numbers-next i =
    let from : 0 + i ≡ i = omega arith in
    numbers-append 0 i 1 ∙ ap (λ (x : ℕ). numbers 0 i ++ (x ∷ [])) from

module _ {row : List ℕ} {i : ℕ} {after : List ℕ} (n : Numbering row i after) where
  pub numbering-more : i < length after → Numbering row (i + 1) (set after i i)
  numbering-more h =
      let next : suc i ≡ i + 1 = omega arith in
      record {
        inside = omega (arith, n.long);
        long = length-set after i i ∙ n.long;
        filled =
            ap (λ (t : List ℕ). set t i i)
            (n.filled ∙ ap (λ (t : List ℕ). numbers 0 i ++ t) (drop-cons row i 0 (omega (arith, n.long))))
            ∙ set_at (numbers 0 i) (get_or row i 0) (drop (suc i) row) i i (length-numbers 0 i)
            ∙ sym (append_snoc (numbers 0 i) i (drop (suc i) row))
            ∙ ap₂ (λ (t : List ℕ) (k : ℕ). t ++ drop k row) (sym (numbers-next i)) next;
      }

  pub numbering-done : length after ≤ i → after ≡ numbers 0 (length row)
  numbering-done h =
      let all : i ≡ length row = omega (arith, n.inside, n.long) in
      n.filled
      ∙ ap₂ (λ (k : ℕ) (t : List ℕ). numbers 0 k ++ t) all (drop_of_length-le row {i = i} (omega (arith, all)))
      ∙ append-nil (numbers 0 (length row))
