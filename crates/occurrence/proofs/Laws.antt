-- Laws of `occurrence`: it answers the lowest place of the hay from which the needle stands, and nothing where there is none.
-- Assumes nothing.
use Prim.Native.Nat.{ℕ, suc, ◌+◌, ◌≤◌, ◌<◌}
use native.Mathlib.Omega.{arith}
use native.Mathlib.Decide.{dec_le}
use mathlib.Core.Path.{◌≡◌, refl, ap}
use mathlib.Core.Bool.{Bool, true, false}
use Rattle.std.specs.Prelude.{None, Some}
use mathlib.Core.List.{List}
use lib.ListN.{length, take, drop, length-take, length-drop, drop_of_length-le}
use Rattle.terms.proofs.Lowest.{Lowest, lowest-some, lowest-none, lowest-is, lowest-nowhere}
use Rattle.terms.proofs.Begins.{begins-true, begins-take}
use Rattle.occurrence.specs.Occurrence.{occurs_at, occurrence}

-- the needle stands in the hay from place i on
abbrev Stands : List ℕ → List ℕ → ℕ → Type 0
Stands needle hay i = take (length needle) (drop i hay) ≡ needle

-- ---- the test

-- where the test fails the needle doesn't stand, and where it doesn't the test fails
false→not : (needle hay : List ℕ) (k : ℕ) → occurs_at needle hay k ≡ false → Stands needle hay k → ⊥
false→not needle hay k f s = let z : ◌≡◌ {A = ℕ} 0 1 = cc (begins-take needle (drop k hay) s) in omega arith

not→false : (needle hay : List ℕ) (k : ℕ) → (Stands needle hay k → ⊥) → occurs_at needle hay k ≡ false
not→false needle hay k h = go (occurs_at needle hay k) refl
  where
    go : (b : Bool) → occurs_at needle hay k ≡ b → occurs_at needle hay k ≡ false
    go true e = absurd (h (begins-true needle (drop k hay) e))
    go false e = e

-- what stands past the end stands at the end
stands-past : (needle hay : List ℕ) (k : ℕ) → length hay ≤ k → Stands needle hay k → Stands needle hay (length hay)
stands-past needle hay k h s = rw (drop_of_length-le hay {i = length hay} (omega arith)) (rw (drop_of_length-le hay h) at s)

-- ---- what the answer says

-- a place is answered: the needle stands there, and nowhere lower
pub occurrence-some : (needle hay : List ℕ) (i : ℕ) → occurrence needle hay ≡ Some i
    → (take (length needle) (drop i hay) ≡ needle) × ((k : ℕ) → k < i → (take (length needle) (drop k hay) ≡ needle) → ⊥)
unfolding occurrence
occurrence-some needle hay i e =
    let found : Lowest (occurs_at needle hay) (suc (length hay)) i = lowest-some (occurs_at needle hay) (suc (length hay)) i e in
    (begins-true needle (drop i hay) found.holds, λ k h s. false→not needle hay k (found.first k h) s)

-- a place is answered: from there on the hay has room for the needle
pub occurrence-within : (needle hay : List ℕ) (i : ℕ) → occurrence needle hay ≡ Some i → i + length needle ≤ length hay
unfolding occurrence
occurrence-within needle hay i e =
    let found : Lowest (occurs_at needle hay) (suc (length hay)) i = lowest-some (occurs_at needle hay) (suc (length hay)) i e in
    omega (arith, found.below, simp (length-take, length-drop) at (ap length (begins-true needle (drop i hay) found.holds)))

-- nothing is answered: the needle stands nowhere
pub occurrence-none : (needle hay : List ℕ) → occurrence needle hay ≡ None → (k : ℕ)
    → (take (length needle) (drop k hay) ≡ needle) → ⊥
unfolding occurrence
occurrence-none needle hay e k s = go (dec_le k (length hay))
  where
    not-up-to : (j : ℕ) → j ≤ length hay → Stands needle hay j → ⊥
    not-up-to j h = false→not needle hay j (lowest-none (occurs_at needle hay) (suc (length hay)) e j (omega arith))

    go : Dec (k ≤ length hay) → ⊥
    go (yes h) = not-up-to k h s
    go (no h) = not-up-to (length hay) (omega arith) (stands-past needle hay k (omega arith) s)

-- ---- what the answer is

-- the lowest place from which the needle stands is answered
pub occurrence-is : (needle hay : List ℕ) (i : ℕ) → take (length needle) (drop i hay) ≡ needle
    → ((k : ℕ) → k < i → (take (length needle) (drop k hay) ≡ needle) → ⊥) → occurrence needle hay ≡ Some i
unfolding occurrence
occurrence-is needle hay i s lower =
    lowest-is (occurs_at needle hay) (suc (length hay)) i (go (dec_le i (length hay))) (begins-take needle (drop i hay) s)
    (λ k h. not→false needle hay k (lower k h))
  where
    go : Dec (i ≤ length hay) → i < suc (length hay)
    go (yes h) = omega arith
    go (no h) = absurd (lower (length hay) (omega arith) (stands-past needle hay i (omega arith) s))

-- nothing is answered where the needle stands nowhere
pub occurrence-nowhere : (needle hay : List ℕ) → ((k : ℕ) → (take (length needle) (drop k hay) ≡ needle) → ⊥)
    → occurrence needle hay ≡ None
unfolding occurrence
occurrence-nowhere needle hay nowhere =
    lowest-nowhere (occurs_at needle hay) (suc (length hay)) (λ k h. not→false needle hay k (nowhere k))
