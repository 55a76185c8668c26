-- Numbers copied to the start of a row, one after another: what any loop that fills a slice from its start has done so far.
-- Assumes nothing.
use mathlib.Core.Path.{◌≡◌, refl, sym, ap, ap₂, ◌∙◌}
use Prim.Native.Nat.{ℕ, suc, ◌+◌, ◌≤◌, ◌<◌}
use native.Mathlib.Omega.{arith}
use mathlib.Core.List.{List, ◌++◌}
use lib.ListN.{length, take, drop, get_or, set, length-set}
use lib.Seq.{take-suc, set_at, drop-cons, length-take-le, append_snoc}
use Rattle.terms.specs.Lists.{over}

-- the first i of n numbers were copied
pub record Copying (from : List ℕ) (n : ℕ) (row : List ℕ) (i : ℕ) (after : List ℕ) : Type 0 where
  pub most : i ≤ n
  pub long : length after ≡ length row
  pub copied : after ≡ take i from ++ drop i row

pub copying-start : (from : List ℕ) (n : ℕ) (row : List ℕ) → Copying from n row 0 row
copying-start from n row = record { most = omega arith; long = refl; copied = refl }

module _ {from : List ℕ} {n : ℕ} {row : List ℕ} {i : ℕ} {after : List ℕ} (c : Copying from n row i after) where
  pub copying-more : i < n → n ≤ length from → n ≤ length row → Copying from n row (i + 1) (set after i (get_or from i 0))
  copying-more h f r =
      let x = get_or from i 0 in
      let next : i + 1 ≡ suc i = omega arith in
      record {
        most = omega arith;
        long = length-set after i x ∙ c.long;
        copied =
            rw next
            (ap (λ (t : List ℕ). set t i x) (c.copied ∙ ap (λ (t : List ℕ). take i from ++ t) (drop-cons row i 0
            (omega arith)))
            ∙ set_at (take i from) (get_or row i 0) (drop (suc i) row) x i (length-take-le i from (omega arith))
            ∙ sym
            (ap (λ (t : List ℕ). t ++ drop (suc i) row) (take-suc from i 0 (omega arith))
            ∙ append_snoc (take i from) x (drop (suc i) row)));
      }

  pub copying-done : n ≤ i → n ≤ length from → after ≡ over (take n from) row
  copying-done h f =
      let all : i ≡ n = omega (arith, c.most) in
      c.copied
      ∙ ap₂ (λ (a b : ℕ). take a from ++ drop b row) all (all ∙ sym (length-take-le n from f))
