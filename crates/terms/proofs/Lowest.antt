-- Laws of `lowest`: it answers the first number below the bound at which the test holds, and nothing where there is none.
-- Assumes nothing.
use Prim.Native.Nat.{ℕ, zero, suc, ◌<◌}
use native.Mathlib.Omega.{arith}
use native.Mathlib.Decide.{ℕ_discrete}
use mathlib.Core.Path.{◌≡◌, refl}
use mathlib.Core.Bool.{Bool, true, false}
use mathlib.Core.List.{List}
use lib.ListN.{length, get_or}
use borrow.Author.Tests.{lt-ltb, le-ltb}
use Rattle.std.specs.Prelude.{Option, None, Some}
use Rattle.std.specs.List.{position, position_or_len}
use Rattle.std.proofs.lemmas.List.Sums.{position_or_len_is}
use Rattle.terms.specs.Lists.{lowest, or_else, when}

-- i is the first number below n at which the test holds
pub record Lowest (test : ℕ → Bool) (n i : ℕ) : Type 0 where
  pub below : i < n
  pub holds : test i ≡ true
  pub first : (k : ℕ) → k < i → test k ≡ false

-- ---- what the answer says

-- what an answer for the bound n says: nothing, that the test holds nowhere below it; a number, that it is the first
abbrev Says : (ℕ → Bool) → ℕ → Option ℕ → Type 0
Says test n None = (k : ℕ) → k < n → test k ≡ false
Says test n (Some i) = Lowest test n i

-- a number below the next bound is the last or below the old bound
nowhere-more : (test : ℕ → Bool) (n : ℕ) → Says test n None → test n ≡ false → Says test (suc n) None
nowhere-more test n old last k h = go (ℕ_discrete k n)
  where
    go : Dec (k ≡ n) → test k ≡ false
    go (yes e) = rw e last
    go (no ne) = old k (omega arith)

-- one more number below the bound
says-more : (test : ℕ → Bool) (n : ℕ) (o : Option ℕ) (b : Bool) → test n ≡ b → Says test n o
    → Says test (suc n) (or_else o (when b n))
says-more test n None true e s = record { below = omega arith; holds = e; first = s }
says-more test n None false e s = nowhere-more test n s e
says-more test n (Some i) b e s = record { below = omega arith; holds = s.holds; first = s.first }

says : (test : ℕ → Bool) (n : ℕ) → Says test n (lowest test n)
unfolding lowest
says test zero = λ k h. absurd (omega arith)
says test (suc n) = says-more test n (lowest test n) (test n) refl (says test n)

-- a number is answered: it is the first at which the test holds
pub lowest-some : (test : ℕ → Bool) (n i : ℕ) → lowest test n ≡ Some i → Lowest test n i
lowest-some test n i e = rw e at (says test n)

-- nothing is answered: the test holds nowhere below the bound
pub lowest-none : (test : ℕ → Bool) (n : ℕ) → lowest test n ≡ None → (k : ℕ) → k < n → test k ≡ false
lowest-none test n e = rw e at (says test n)

-- ---- what the answer is

-- the test doesn't both hold and fail
clash : {b : Bool} → b ≡ true → b ≡ false → ⊥
clash p q = let z : ◌≡◌ {A = ℕ} 0 1 = cc in omega arith

-- two firsts are the same: neither is below the other
not-below : {test : ℕ → Bool} {n i j : ℕ} → Lowest test n i → Lowest test n j → i < j → ⊥
not-below {i = i} p q h = clash p.holds (q.first i h)

lowest-unique : {test : ℕ → Bool} {n i j : ℕ} → Lowest test n i → Lowest test n j → i ≡ j
lowest-unique p q = omega (arith, not-below p q, not-below q p)

-- the first number at which the test holds is answered
pub lowest-is : (test : ℕ → Bool) (n i : ℕ) → i < n → test i ≡ true → ((k : ℕ) → k < i → test k ≡ false) → lowest test n ≡ Some i
lowest-is test n i below holds first = go (lowest test n) refl
  where
    go : (o : Option ℕ) → lowest test n ≡ o → lowest test n ≡ Some i
    go None e = absurd (clash holds (lowest-none test n e i below))
    go (Some j) e =
        let same : j ≡ i =
        lowest-unique (lowest-some test n j e) (record { below = below; holds = holds; first = first })
        in
        cc

-- nothing is answered where the test holds nowhere
pub lowest-nowhere : (test : ℕ → Bool) (n : ℕ) → ((k : ℕ) → k < n → test k ≡ false) → lowest test n ≡ None
lowest-nowhere test n fails = go (lowest test n) refl
  where
    go : (o : Option ℕ) → lowest test n ≡ o → lowest test n ≡ None
    go None e = e
    go (Some i) e = let found : Lowest test n i = lowest-some test n i e in absurd (clash found.holds (fails i found.below))

-- tests that agree below the bound have one answer
pub lowest-cong : (f g : ℕ → Bool) (n : ℕ) → ((k : ℕ) → k < n → f k ≡ g k) → lowest f n ≡ lowest g n
unfolding lowest
lowest-cong f g zero same = refl
lowest-cong f g (suc n) same = rw (same n (omega arith), lowest-cong f g n (λ k h. same k (omega arith)))

-- ---- the first place of a list

-- where std finds the first element that passes
pub position-lowest : (p : ℕ → Bool) (xs : List ℕ) (d : ℕ) → position p xs ≡ lowest (λ i. p (get_or xs i d)) (length xs)
position-lowest p xs d = go (lowest (λ i. p (get_or xs i d)) (length xs)) refl
  where
    go : (o : Option ℕ) → lowest (λ i. p (get_or xs i d)) (length xs) ≡ o → position p xs ≡ o
    go None e =
        let past : position_or_len p xs ≡ length xs =
        position_or_len_is p xs (length xs) d (omega arith) (lowest-none _ _ e) (λ h. absurd (omega arith))
        in
        rw (past, le-ltb (length xs) (length xs) (omega arith)) refl
    go (Some i) e =
        let found : Lowest (λ k. p (get_or xs k d)) (length xs) i = lowest-some _ _ i e in
        let here : position_or_len p xs ≡ i =
        position_or_len_is p xs i d (omega (arith, found.below)) found.first (λ _. found.holds)
        in
        rw (here, lt-ltb i (length xs) found.below) refl
