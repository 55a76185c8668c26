-- An answer is fixed by its numbers, where these fix its value.
-- Assumes nothing.
use mathlib.Core.Path.{◌≡◌, refl, ap}
use mathlib.Core.List.{List, []}
use Prim.Native.Nat.{ℕ}
use Rattle.std.specs.Prelude.{Result, Ok, Err, ⊤}
use Rattle.terms.specs.Refusals.{gives, outcome, check_outcome}
use Rattle.terms.specs.declared.Refusal.{Refusal}

-- the numbers that are given are those of the value
given-inj : (vs ws : List ℕ) → gives vs ≡ gives ws → vs ≡ ws
given-inj vs ws e = cc

-- answers with the same numbers are the same, if values with the same numbers are
pub outcome-inj : {A : Type 0} (values : A → List ℕ) → ((a b : A) → values a ≡ values b → a ≡ b)
    → (x y : Result A Refusal) → outcome values x ≡ outcome values y → x ≡ y
outcome-inj values inj (Ok a) (Ok b) e = let same : a ≡ b = inj a b (given-inj (values a) (values b) e) in ap Ok same
outcome-inj values inj (Ok a) (Err s) e = cc
outcome-inj values inj (Err r) (Ok b) e = cc
outcome-inj values inj (Err r) (Err s) e = cc

-- checks with the same numbers are the same answer
pub check_outcome-inj : (x y : Result ⊤ Refusal) → check_outcome x ≡ check_outcome y → x ≡ y
check_outcome-inj x y e = outcome-inj (λ _. []) (λ a b _. refl) x y e
