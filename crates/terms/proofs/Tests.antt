-- Two tests at once, and what an optional value is not.
-- Assumes nothing.
use mathlib.Core.Path.{◌≡◌}
use mathlib.Core.Bool.{Bool, true, ◌&&◌, and-eq-true_iff}
use Rattle.std.specs.Prelude.{None, Some}
use Prim.Native.Nat.{ℕ}
use native.Mathlib.Omega.{arith}

-- both tests of a conjunction hold
pub both : (a b : Bool) → a && b ≡ true → (a ≡ true) × (b ≡ true)
both a b e = (and-eq-true_iff a b).0 e

-- a conjunction of two tests that hold
pub join : (a b : Bool) → a ≡ true → b ≡ true → a && b ≡ true
join a b p q = (and-eq-true_iff a b).1 (p, q)

-- nothing is no value
pub none-some : {A : Type 0} (a : A) → None ≡ Some a → ⊥
none-some a e = let z : ◌≡◌ {A = ℕ} 0 1 = cc in omega arith
