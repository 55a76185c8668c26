-- An answer is known by its numbers.
-- Assumes nothing.
use mathlib.Core.Path.{◌≡◌}
use mathlib.Core.List.{[], ◌∷◌}
use Prim.Native.Nat.{ℕ}
use Rattle.terms.proofs.Injective.{outcome-inj}
use Rattle.many.specs.Many.{Batch, batch_outcome}

-- a number is known by the list that has it alone
one-inj : (n m : ℕ) → n ∷ [] ≡ m ∷ [] → n ≡ m
one-inj n m e = cc

pub batch_outcome-inj : (x y : Batch) → batch_outcome x ≡ batch_outcome y → x ≡ y
batch_outcome-inj x y e = outcome-inj (λ n. n ∷ []) one-inj x y e
