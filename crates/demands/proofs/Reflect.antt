-- Tests and what they mean: a test holds exactly where what it tests does.
-- Assumes nothing.
use mathlib.Core.Path.{◌≡◌, refl, ap, sym, ◌∙◌}
use Prim.Native.Nat.{ℕ, ◌≤◌, ◌<◌}
use native.Mathlib.Omega.{arith}
use mathlib.Core.Bool.{Bool, true, false, cond, not, ◌&&◌, ◌||◌, true≢false}
use mathlib.Core.Logic.{◌⊎◌, inl, inr, ◌↔◌}
use Rattle.std.specs.Prelude.{Option, None, Some}
use mathlib.Core.List.{List, [], ◌∷◌, ◌++◌}
use lib.Dec.{leb, ltb, eqb}
use borrow.Author.Tests.{ltb-true, leb-true, eqb-true, lt-ltb, le-leb, eq-eqb}
use Rattle.terms.specs.Lists.{all, lowest, there, empty, In}
use Rattle.terms.proofs.Lists.{all_first, all_rest}
use Rattle.terms.proofs.Lowest.{lowest-some, lowest-none, lowest-is, lowest-nowhere}
use Rattle.terms.proofs.Tests.{both, join, none-some}
use Rattle.demands.specs.Faults.{LowestAt}

-- ---- numbers

pub leb-exactly : (a b : ℕ) → (leb a b ≡ true) ↔ (a ≤ b)
leb-exactly a b = (leb-true a b, le-leb a b)

pub ltb-exactly : (a b : ℕ) → (ltb a b ≡ true) ↔ (a < b)
ltb-exactly a b = (ltb-true a b, lt-ltb a b)

pub eqb-exactly : (a b : ℕ) → (eqb a b ≡ true) ↔ (a ≡ b)
eqb-exactly a b = (eqb-true a b, eq-eqb a b)

-- ---- tests joined

module _ {A B : Type 0} where
  pub and-exactly : (a b : Bool) → (a ≡ true) ↔ A → (b ≡ true) ↔ B → (a && b ≡ true) ↔ (A × B)
  and-exactly a b p q = (
    λ e. (p.0 (both a b e).0, q.0 (both a b e).1),
    λ h. join a b (p.1 h.0) (q.1 h.1),
  )

  pub or-exactly : (a b : Bool) → (a ≡ true) ↔ A → (b ≡ true) ↔ B → (a || b ≡ true) ↔ (A ⊎ B)
  or-exactly a b p q = (told a p, is)
    where
      told : (t : Bool) → (t ≡ true) ↔ A → t || b ≡ true → A ⊎ B
      told true r e = inl (r.0 refl)
      told false r e = inr (q.0 e)

      right : (t : Bool) → b ≡ true → t || b ≡ true
      right true e = refl
      right false e = e

      is : A ⊎ B → a || b ≡ true
      is (inl h) = rw (p.1 h)
      is (inr h) = right a (q.1 h)

module _ {A B C : Type 0} where
  -- of three
  pub or3-exactly : (a b c : Bool) → (a ≡ true) ↔ A → (b ≡ true) ↔ B → (c ≡ true) ↔ C → (a || b || c ≡ true) ↔ (A ⊎ B ⊎ C)
  or3-exactly a b c p q r =
      let h = or-exactly (a || b) c (or-exactly a b p q) r in
      (λ e. right (h.0 e), λ s. h.1 (left s))
    where
      right : (A ⊎ B) ⊎ C → A ⊎ B ⊎ C
      right (inl (inl x)) = inl x
      right (inl (inr x)) = inr (inl x)
      right (inr x) = inr (inr x)

      left : A ⊎ B ⊎ C → (A ⊎ B) ⊎ C
      left (inl x) = inl (inl x)
      left (inr (inl x)) = inl (inr x)
      left (inr (inr x)) = inr x

module _ {A B C D : Type 0} where
  -- of four
  pub or4-exactly : (a b c d : Bool) → (a ≡ true) ↔ A → (b ≡ true) ↔ B → (c ≡ true) ↔ C → (d ≡ true) ↔ D
      → (a || b || c || d ≡ true) ↔ (A ⊎ B ⊎ C ⊎ D)
  or4-exactly a b c d p q r s =
      let h = or-exactly (a || b || c) d (or3-exactly a b c p q r) s in
      (λ e. right (h.0 e), λ x. h.1 (left x))
    where
      right : (A ⊎ B ⊎ C) ⊎ D → A ⊎ B ⊎ C ⊎ D
      right (inl (inl x)) = inl x
      right (inl (inr (inl x))) = inr (inl x)
      right (inl (inr (inr x))) = inr (inr (inl x))
      right (inr x) = inr (inr (inr x))

      left : A ⊎ B ⊎ C ⊎ D → (A ⊎ B ⊎ C) ⊎ D
      left (inl x) = inl (inl x)
      left (inr (inl x)) = inl (inr (inl x))
      left (inr (inr (inl x))) = inl (inr (inr x))
      left (inr (inr (inr x))) = inr x

module _ {A : Type 0} where
  -- a test does not hold exactly where what it tests does not
  pub false-exactly : (a : Bool) → (a ≡ true) ↔ A → (a ≡ false) ↔ (A → ⊥)
  false-exactly a p = (λ e x. true≢false (sym (p.1 x) ∙ e), is a p)
    where
      is : (t : Bool) → (t ≡ true) ↔ A → (A → ⊥) → t ≡ false
      is true r f = absurd (f (r.0 refl))
      is false r f = refl

  pub not-exactly : (a : Bool) → (a ≡ true) ↔ A → (not a ≡ true) ↔ (A → ⊥)
  not-exactly a p =
      let h = false-exactly a p in
      (λ e. h.0 (was a e), λ f. ap not (h.1 f))
    where
      was : (t : Bool) → not t ≡ true → t ≡ false
      was true e = absurd (true≢false (sym e))
      was false e = refl

-- neither of two holds; of the second what it says if it doesn't
pub nor-exactly : {A B : Type 0} (a b : Bool) → (a ≡ true) ↔ A → (not b ≡ true) ↔ B → (not (a || b) ≡ true) ↔ ((A → ⊥) × B)
nor-exactly true b p q = (λ e. absurd (true≢false (sym e)), λ h. absurd (h.0 (p.0 refl)))
nor-exactly false b p q = (λ e. (λ x. true≢false (sym (p.1 x)), q.0 e), λ h. q.1 h.1)

-- ---- tests that fail

-- a number that is not at most another is above it
pub above-exactly : (a b : ℕ) → (not (leb a b) ≡ true) ↔ (b < a)
above-exactly a b =
    let h = not-exactly (leb a b) (leb-exactly a b) in
    (λ e. omega (arith, h.0 e), λ l. h.1 (λ m. omega arith))

module _ {A B : Type 0} where
  -- one of two tests fails
  pub nand-exactly : (a b : Bool) → (not a ≡ true) ↔ A → (not b ≡ true) ↔ B → (not (a && b) ≡ true) ↔ (A ⊎ B)
  nand-exactly true b p q = (λ e. inr (q.0 e), is)
    where
      is : A ⊎ B → not b ≡ true
      is (inl x) = absurd (true≢false (sym (p.1 x)))
      is (inr y) = q.1 y
  nand-exactly false b p q = (λ e. inl (p.0 refl), λ h. refl)

module _ {A B C : Type 0} where
  -- the test that a condition chooses fails
  pub cond-exactly : (a b c : Bool) → (a ≡ true) ↔ A → (not b ≡ true) ↔ B → (not c ≡ true) ↔ C
      → (not (cond a b c) ≡ true) ↔ ((A × B) ⊎ ((A → ⊥) × C))
  cond-exactly true b c p q r = (λ e. inl (p.0 refl, q.0 e), is)
    where
      is : (A × B) ⊎ ((A → ⊥) × C) → not b ≡ true
      is (inl h) = q.1 h.1
      is (inr h) = absurd (h.0 (p.0 refl))
  cond-exactly false b c p q r = (λ e. inr (λ x. true≢false (sym (p.1 x)), r.0 e), is)
    where
      is : (A × B) ⊎ ((A → ⊥) × C) → not c ≡ true
      is (inl h) = absurd (true≢false (sym (p.1 h.0)))
      is (inr h) = r.1 h.1

-- ---- options and lists

module _ {A : Type 0} where
  -- nothing is there
  pub gone-exactly : (o : Option A) → (not (there o) ≡ true) ↔ (o ≡ None)
  gone-exactly None = (λ e. refl, λ e. refl)
  gone-exactly (Some a) = (λ e. absurd (true≢false (sym e)), λ e. absurd (none-some a (sym e)))

  pub empty-exactly : (xs : List A) → (empty xs ≡ true) ↔ (xs ≡ [])
  empty-exactly [] = (λ e. refl, λ e. refl)
  empty-exactly (x ∷ xs) = (λ e. absurd (true≢false (sym e)), λ e. absurd (true≢false (ap empty (sym e))))

  -- a test that does not hold of all elements fails of one
  pub all-fails : (f : A → Bool) (xs : List A) → all f xs ≡ false → (x : A) × In x xs × (f x ≡ false)
  all-fails f [] e = absurd (true≢false e)
  all-fails f (x ∷ xs) e = go (f x) refl e (all-fails f xs)
    where
      go : (t : Bool) → f x ≡ t → t && all f xs ≡ false → (all f xs ≡ false → (y : A) × In y xs × (f y ≡ false))
          → (y : A) × In y (x ∷ xs) × (f y ≡ false)
      go false q h rest = (x, record { before = []; after = xs; split = refl }, q)
      go true q h rest =
          let found = rest h in (
            found.0,
            record {
              before = x ∷ found.1.before;
              after = found.1.after;
              split = ap (λ (l : List A). x ∷ l)
                  found.1.split;
            },
            found.2,
          )

  -- one that holds of all holds of each
  pub all_in : (f : A → Bool) (xs : List A) → all f xs ≡ true → (x : A) → In x xs → f x ≡ true
  all_in f xs e x i = go i.before xs i.split e
    where
      go : (before ys : List A) → ys ≡ before ++ x ∷ i.after → all f ys ≡ true → f x ≡ true
      go [] ys s h = all_first f x i.after (rw s at h)
      go (b ∷ bs) ys s h = go bs (bs ++ x ∷ i.after) refl (all_rest f b (bs ++ x ∷ i.after) (rw s at h))

-- ---- the lowest number

module _ (test : ℕ → Bool) {holds : ℕ → Type 0} (exactly : (i : ℕ) → (test i ≡ true) ↔ holds i) (n : ℕ) where
  -- the lowest at which a test holds is the lowest of which what it tests does
  pub lowest-exactly : (i : ℕ) → (lowest test n ≡ Some i) ↔ LowestAt holds n i
  lowest-exactly i = (
    λ e.
        (let found = lowest-some test n i e in
        record {
          below = found.below;
          here = (exactly i).0 found.holds;
          lower = λ j l. (false-exactly (test j) (exactly j)).0 (found.first j l);
        }),
    λ h. lowest-is test n i h.below ((exactly i).1 h.here) (λ j l. (false-exactly (test j) (exactly j)).1 (h.lower j l)),
  )

  -- there is none
  pub nowhere-exactly : (lowest test n ≡ None) ↔ ((j : ℕ) → j < n → holds j → ⊥)
  nowhere-exactly = (
    λ e j l. (false-exactly (test j) (exactly j)).0 (lowest-none test n e j l),
    λ h. lowest-nowhere test n (λ j l. (false-exactly (test j) (exactly j)).1 (h j l)),
  )
