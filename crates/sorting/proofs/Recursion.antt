-- The two halves of a row as they are lent and come back, each in order.
-- Assumes nothing.
use mathlib.Core.Path.{◌≡◌, refl, sym, ap, ap₂, ◌∙◌}
use Prim.Native.Nat.{ℕ, zero, suc, ◌-◌, ◌≤◌}
use native.Mathlib.Omega.{arith}
use mathlib.Core.Bool.{Bool, true, false}
use mathlib.Core.List.{List, [], ◌∷◌, ◌++◌}
use lib.ListN.{length, take, drop, length-append, length-drop, take-append-drop}
use lib.Seq.{length-take-le, take_at, drop_at}
use Rattle.terms.specs.Lists.{all}
use Rattle.terms.proofs.Lists.{all_first, all_rest, all_cons, all_append}
use Rattle.terms.proofs.Parts.{take-drop, put_back}
use Rattle.sorting.specs.Sorted.{sorted, merged}
use Rattle.sorting.proofs.Sorting.{all-sorted, length-sorted}
use Rattle.sorting.proofs.Merged.{sorted-append}

-- a test of all elements, of the parts of a list
pub all_take : (p : ℕ → Bool) (h : ℕ) (row : List ℕ) → all p row ≡ true → all p (take h row) ≡ true
all_take p zero row a = refl
all_take p (suc h) [] a = refl
all_take p (suc h) (x ∷ row) a =
    all_cons p x (take h row) (all_first p x row a) (all_take p h row (all_rest p x row a))

all_drop : (p : ℕ → Bool) (h : ℕ) (row : List ℕ) → all p row ≡ true → all p (drop h row) ≡ true
all_drop p zero row a = a
all_drop p (suc h) [] a = refl
all_drop p (suc h) (x ∷ row) a = all_drop p h row (all_rest p x row a)

module _ (le : ℕ → ℕ → Bool) (row : List ℕ) (h : ℕ) (within : h ≤ length row) (one : List ℕ)
    (first : one ≡ sorted le (take h row)) where
  long-first : length one ≡ h
  long-first = ap length first ∙ length-sorted le (take h row) ∙ length-take-le h row within

  -- the row is as long as it was
  pub long-row : length (one ++ drop h row) ≡ length row
  long-row = omega (arith, length-append one (drop h row), length-drop h row, long-first)

  -- the part that is lent then is the second half
  pub second-part : take (length (one ++ drop h row) - h) (drop h (one ++ drop h row)) ≡ drop h row
  second-part = take-drop h (one ++ drop h row) ∙ drop_at one (drop h row) h long-first

  pub second-numbered : (p : ℕ → Bool) → all p row ≡ true
      → all p (take (length (one ++ drop h row) - h) (drop h (one ++ drop h row))) ≡ true
  second-numbered p a = ap (all p) second-part ∙ all_drop p h row a

  module _ (two : List ℕ) (second : two ≡ sorted le (take (length (one ++ drop h row) - h) (drop h (one ++ drop h row)))) where
    -- both halves in order
    abbrev pub back : List ℕ
    back =
        take h (one ++ drop h row) ++ (two ++ drop (length (one ++ drop h row) - h) (drop h (one ++ drop h row)))

    halves : back ≡ one ++ two
    halves =
        put_back h (one ++ drop h row) two ∙ ap (λ (t : List ℕ). t ++ two) (take_at one (drop h row) h long-first)

    pub long-back : length back ≡ length row
    long-back =
        let m = ap length (second ∙ ap (sorted le) second-part) ∙ length-sorted le (drop h row) in
        omega (arith, ap length halves, length-append one two, long-first, m, length-drop h row)

    pub back-numbered : (p : ℕ → Bool) → all p row ≡ true → all p back ≡ true
    back-numbered p a =
        ap (all p) halves
        ∙ all_append p one two
        (ap (all p) first ∙ all-sorted le p (take h row) ∙ all_take p h row a)
        (ap (all p) (second ∙ ap (sorted le) second-part) ∙ all-sorted le p (drop h row) ∙ all_drop p h row a)

    -- joined they are the whole in order
    pub back-merged : ((a b c : ℕ) → le a b ≡ true → le b c ≡ true → le a c ≡ true)
        → ((a b : ℕ) → le a b ≡ false → le b a ≡ true)
        → merged le (take h back) (drop h back) ≡ sorted le row
    back-merged trans total =
        ap₂ (λ (t u : List ℕ). merged le t u)
        (ap (take h) halves ∙ take_at one two h long-first ∙ first)
        (ap (drop h) halves ∙ drop_at one two h long-first ∙ second ∙ ap (sorted le) second-part)
        ∙ sym (sorted-append le trans total (take h row) (drop h row))
        ∙ ap (sorted le) (take-append-drop h row)
