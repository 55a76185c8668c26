-- Those elements of a list that pass a test: of lists joined, of lists in order, of numbers in a row.
-- Assumes nothing.
use mathlib.Core.Path.{◌≡◌, refl, sym, ap, ap₂, ◌∙◌}
use Prim.Native.Nat.{ℕ, zero, suc, ◌+◌, ◌≤◌, ◌<◌}
use native.Mathlib.Omega.{arith}
use native.Mathlib.Decide.{ℕ_discrete}
use mathlib.Core.Bool.{Bool, true, false, cond, not, true≢false}
use mathlib.Core.List.{List, [], ◌∷◌, ◌++◌, map}
use lib.Dec.{leb, ltb, eqb}
use lib.ListN.{length, drop, get_or}
use borrow.Author.Tests.{leb-true, le-leb, lt-ltb, eq-eqb, ne_eqb, not-true}
use Rattle.terms.specs.Lists.{all, total}
use Rattle.terms.proofs.Tests.{both, join}
use Rattle.terms.proofs.Lists.{all-mono}
use Rattle.sorting.specs.Sorted.{insert, sorted, merged, numbers}
use Rattle.sorting.proofs.Sorting.{all-sorted}
use Rattle.partners.specs.Partners.{those}

-- ---- any elements

module _ {ℓ} {A : Type ℓ} (p : A → Bool) where
  pub those-append : (xs ys : List A) → those p (xs ++ ys) ≡ those p xs ++ those p ys
  unfolding those
  those-append [] ys = refl
  those-append (x ∷ xs) ys = go (p x) refl (those-append xs ys)
    where
      go : (b : Bool) → p x ≡ b → those p (xs ++ ys) ≡ those p xs ++ those p ys
          → those p (x ∷ (xs ++ ys)) ≡ those p (x ∷ xs) ++ those p ys
      go true e h = rw e (ap (λ (t : List A). x ∷ t) h)
      go false e h = rw e h

  -- all pass
  pub those-all : (xs : List A) → all p xs ≡ true → those p xs ≡ xs
  unfolding those
  those-all [] h = refl
  those-all (x ∷ xs) h =
      let t = both (p x) (all p xs) h in
      rw t.0 (ap (λ (u : List A). x ∷ u) (those-all xs t.1))

  -- none passes
  pub those-none : (xs : List A) → all (λ x. not (p x)) xs ≡ true → those p xs ≡ []
  unfolding those
  those-none [] h = refl
  those-none (x ∷ xs) h =
      let t = both (not (p x)) (all (λ y. not (p y)) xs) h in
      rw (not-true (p x) t.0) (those-none xs t.1)

  -- by another test that says the same of these
  pub those-same : (q test : A → Bool) → ((x : A) → test x ≡ true → p x ≡ q x) → (xs : List A) → all test xs ≡ true
      → those p xs ≡ those q xs
  unfolding those
  those-same q test h [] a = refl
  those-same q test h (x ∷ xs) a =
      let t = both (test x) (all test xs) a in
      ap₂ (λ (b : Bool) (u : List A). cond b (x ∷ u) u) (h x t.0) (those-same q test h xs t.1)

  -- there are no more than elements, nor more of a part
  pub those-most : (xs : List A) → length (those p xs) ≤ length xs
  unfolding those
  those-most [] = omega arith
  those-most (x ∷ xs) = go (p x) refl (those-most xs)
    where
      go : (b : Bool) → p x ≡ b → length (those p xs) ≤ length xs → length (those p (x ∷ xs)) ≤ suc (length xs)
      go true e h = rw e (omega arith)
      go false e h = rw e (omega arith)

  pub those-drop : (i : ℕ) (xs : List A) → length (those p (drop i xs)) ≤ length (those p xs)
  unfolding those
  those-drop zero xs = omega arith
  those-drop (suc i) [] = omega arith
  those-drop (suc i) (x ∷ xs) = go (p x) refl (those-drop i xs)
    where
      go : (b : Bool) → p x ≡ b → length (those p (drop i xs)) ≤ length (those p xs)
          → length (those p (drop i xs)) ≤ length (those p (x ∷ xs))
      go true e h = rw e (omega arith)
      go false e h = rw e h

  -- what passes at a place is among them
  pub those-at : (xs : List A) (j : ℕ) (d : A) → j < length xs → p (get_or xs j d) ≡ true → 0 < length (those p xs)
  unfolding those
  those-at [] j d h e = absurd (omega arith)
  those-at (x ∷ xs) zero d h e = rw e (omega arith)
  those-at (x ∷ xs) (suc j) d h e = omega (arith, those-at xs j d (omega arith) e, those-drop 1 (x ∷ xs))

  -- and what passes at two places is there twice
  pub those-twice : (xs : List A) (i j : ℕ) (d : A) → i < j → j < length xs → p (get_or xs i d) ≡ true → p (get_or xs j d) ≡ true
      → 1 < length (those p xs)
  unfolding those
  those-twice [] i j d h k a b = absurd (omega arith)
  those-twice (x ∷ xs) i zero d h k a b = absurd (omega arith)
  those-twice (x ∷ xs) zero (suc j) d h k a b = rw a (omega (arith, those-at xs j d (omega arith) b))
  those-twice (x ∷ xs) (suc i) (suc j) d h k a b =
      omega (arith, those-twice xs i j d (omega arith) (omega arith) a b, those-drop 1 (x ∷ xs))

  -- how many there are, as a sum
  pub length-those : (xs : List A) → length (those p xs) ≡ total (λ x. cond (p x) 1 0) xs
  unfolding those total
  length-those [] = refl
  length-those (x ∷ xs) = go (p x) refl (length-those xs)
    where
      go : (b : Bool) → p x ≡ b → length (those p xs) ≡ total (λ y. cond (p y) 1 0) xs
          → length (those p (x ∷ xs)) ≡ cond (p x) 1 0 + total (λ y. cond (p y) 1 0) xs
      go true e h = rw e (omega (arith, h))
      go false e h = rw e (omega (arith, h))

-- of a list made of another
pub those-map : {A B : Type 0} (p : B → Bool) (f : A → B) (xs : List A)
    → those p (map f xs) ≡ map f (those (λ x. p (f x)) xs)
unfolding those
those-map p f [] = refl
those-map {A} {B} p f (x ∷ xs) = go (p (f x)) refl (those-map p f xs)
  where
    go : (b : Bool) → p (f x) ≡ b → those p (map f xs) ≡ map f (those (λ y. p (f y)) xs)
        → those p (f x ∷ map f xs) ≡ map f (those (λ y. p (f y)) (x ∷ xs))
    go true e h = rw e (ap (λ (t : List B). f x ∷ t) h)
    go false e h = rw e h

-- ---- numbers in a row

pub length-numbers : (x n : ℕ) → length (numbers x n) ≡ n
unfolding numbers
length-numbers x zero = refl
length-numbers x (suc n) = ap suc (length-numbers (suc x) n)

pub numbers-append : (x n m : ℕ) → numbers x (n + m) ≡ numbers x n ++ numbers (x + n) m
unfolding numbers
numbers-append x zero m =
    let None : 0 + m ≡ m = omega arith in
    let from : x ≡ x + 0 = omega arith in
    ap₂ numbers from None
numbers-append x (suc n) m =
    let more : suc n + m ≡ suc (n + m) = omega arith in
    let from : suc x + n ≡ x + suc n = omega arith in
    rw more
    (ap (λ (t : List ℕ). x ∷ t) (numbers-append (suc x) n m ∙ ap (λ (y : ℕ). numbers (suc x) n ++ numbers y m) from))

-- none is below the first
pub numbers-least : (x n : ℕ) → all (leb x) (numbers x n) ≡ true
unfolding numbers
numbers-least x zero = refl
numbers-least x (suc n) =
    join (leb x x) (all (leb x) (numbers (suc x) n)) (le-leb x x (omega arith))
    (all-mono (leb (suc x)) (leb x) (λ y e. le-leb x y (let h : suc x ≤ y = leb-true (suc x) y e in omega arith))
    (numbers (suc x) n)
    (numbers-least (suc x) n))

-- each is below the number after the last
pub numbers-most : (x n : ℕ) → all (λ y. ltb y (x + n)) (numbers x n) ≡ true
unfolding numbers
numbers-most x zero = refl
numbers-most x (suc n) =
    let more : suc x + n ≡ x + suc n = omega arith in
    join (ltb x (x + suc n)) (all (λ y. ltb y (x + suc n)) (numbers (suc x) n)) (lt-ltb x (x + suc n) (omega arith))
    (rw more at (numbers-most (suc x) n))

-- a list made of them, at a place
pub numbers-at : {A : Type 0} (f : ℕ → A) (d : A) (x n i : ℕ) → i < n → get_or (map f (numbers x n)) i d ≡ f (x + i)
unfolding numbers
numbers-at f d x zero i h = absurd (omega arith)
numbers-at f d x (suc n) zero h = let same : x ≡ x + 0 = omega arith in ap f same
numbers-at f d x (suc n) (suc i) h =
    let next : suc x + i ≡ x + suc i = omega arith in numbers-at f d (suc x) n i (omega arith) ∙ ap f next

-- each stands there once
pub numbers-once : (x a n : ℕ) → a ≤ x → x < a + n → those (eqb x) (numbers a n) ≡ x ∷ []
unfolding numbers those
numbers-once x a zero h k = absurd (omega arith)
numbers-once x a (suc n) h k = go (ℕ_discrete x a) (numbers-once x (suc a) n)
  where
    go : Dec (x ≡ a) → (suc a ≤ x → x < suc a + n → those (eqb x) (numbers (suc a) n) ≡ x ∷ [])
        → those (eqb x) (a ∷ numbers (suc a) n) ≡ x ∷ []
    go (yes e) rest =
        rw (eq-eqb x a e)
        (ap₂ (λ (y : ℕ) (t : List ℕ). y ∷ t) (sym e)
        (those-none (eqb x) (numbers (suc a) n)
        (all-mono (leb (suc a)) (λ y. not (eqb x y))
        (λ y b. ap not (ne_eqb x y (λ q. let above : suc a ≤ y = leb-true (suc a) y b in omega arith)))
        (numbers (suc a) n)
        (numbers-least (suc a) n))))
    go (no e) rest = rw (ne_eqb x a e) (rest (omega arith) (omega arith))

-- ---- in order

module _ (le : ℕ → ℕ → Bool) (p : ℕ → Bool) where
  insert-no : (x : ℕ) (ys : List ℕ) → p x ≡ false → those p (insert le x ys) ≡ those p ys
  unfolding insert those
  insert-no x [] e = rw e
  insert-no x (y ∷ ys) e = go (le x y) (p y) refl refl (insert-no x ys e)
    where
      go : (b c : Bool) → le x y ≡ b → p y ≡ c → those p (insert le x ys) ≡ those p ys
          → those p (insert le x (y ∷ ys)) ≡ those p (y ∷ ys)
      go true c f g h = rw (f, e)
      go false true f g h = rw (f, g) (ap (λ (t : List ℕ). y ∷ t) h)
      go false false f g h = rw (f, g) h

  -- a number that may stand before all that pass
  insert-yes : (x : ℕ) (ys : List ℕ) → p x ≡ true → (q : ℕ → Bool) → all q ys ≡ true
      → ((y : ℕ) → q y ≡ true → p y ≡ true → le x y ≡ true)
      → those p (insert le x ys) ≡ x ∷ those p ys
  unfolding insert those
  insert-yes x [] e q a h = rw e
  insert-yes x (y ∷ ys) e q a h =
      let t = both (q y) (all q ys) a in go (le x y) (p y) refl refl (h y t.0) (insert-yes x ys e q t.1 h)
    where
      go : (b c : Bool) → le x y ≡ b → p y ≡ c → (p y ≡ true → le x y ≡ true)
          → those p (insert le x ys) ≡ x ∷ those p ys
          → those p (insert le x (y ∷ ys)) ≡ x ∷ those p (y ∷ ys)
      go true c f g before rest = rw (f, e)
      go false true f g before rest = absurd (true≢false (sym (before g) ∙ f))
      go false false f g before rest = rw (f, g) rest

  -- numbers that pass and may stand before each other as they ascend: sorting leaves them as they are
  pub those-sorted : ((x y : ℕ) → x < y → p x ≡ true → p y ≡ true → le x y ≡ true) → (x n : ℕ)
      → those p (sorted le (numbers x n)) ≡ those p (numbers x n)
  unfolding sorted numbers those
  those-sorted h x zero = refl
  those-sorted h x (suc n) = go (p x) refl (those-sorted h (suc x) n)
    where
      above : all (leb (suc x)) (sorted le (numbers (suc x) n)) ≡ true
      above = all-sorted le (leb (suc x)) (numbers (suc x) n) ∙ numbers-least (suc x) n

      go : (b : Bool) → p x ≡ b → those p (sorted le (numbers (suc x) n)) ≡ those p (numbers (suc x) n)
          → those p (insert le x (sorted le (numbers (suc x) n))) ≡ those p (x ∷ numbers (suc x) n)
      go true e rest =
          rw e
          (insert-yes x (sorted le (numbers (suc x) n)) e (leb (suc x)) above (λ y a g. h x y (leb-true (suc x) y a) e g)
          ∙ ap (λ (t : List ℕ). x ∷ t) rest)
      go false e rest = rw e (insert-no x (sorted le (numbers (suc x) n)) e ∙ rest)

  -- two lists merged, of which the first passes and the second does not
  pub those-merged : (xs ys : List ℕ) → all p xs ≡ true → all (λ y. not (p y)) ys ≡ true → those p (merged le xs ys) ≡ xs
  unfolding merged those
  those-merged [] ys a n = those-none p ys n
  those-merged (x ∷ xs) [] a n = those-all p (x ∷ xs) a
  those-merged (x ∷ xs) (y ∷ ys) a n =
      let t = both (p x) (all p xs) a in
      let u = both (not (p y)) (all (λ z. not (p z)) ys) n in
      go (le x y) refl t.0 u.0 (those-merged xs (y ∷ ys) t.1 n) (those-merged (x ∷ xs) ys a u.1)
    where
      go : (b : Bool) → le x y ≡ b → p x ≡ true → not (p y) ≡ true → those p (merged le xs (y ∷ ys)) ≡ xs
          → those p (merged le (x ∷ xs) ys) ≡ x ∷ xs
          → those p (merged le (x ∷ xs) (y ∷ ys)) ≡ x ∷ xs
      go true e t u left right = rw (e, t) (ap (λ (v : List ℕ). x ∷ v) left)
      go false e t u left right = rw (e, not-true (p y) u) right

-- a list in order by another test that says the same of its numbers
module _ (le other : ℕ → ℕ → Bool) (test : ℕ → Bool)
    (says : (x y : ℕ) → test x ≡ true → test y ≡ true → le x y ≡ other x y) where
  insert-same : (x : ℕ) (ys : List ℕ) → test x ≡ true → all test ys ≡ true → insert le x ys ≡ insert other x ys
  unfolding insert
  insert-same x [] h a = refl
  insert-same x (y ∷ ys) h a =
      let t = both (test y) (all test ys) a in
      ap₂ (λ (b : Bool) (u : List ℕ). cond b (x ∷ y ∷ ys) (y ∷ u)) (says x y h t.0) (insert-same x ys h t.1)

  pub sorted-same : (xs : List ℕ) → all test xs ≡ true → sorted le xs ≡ sorted other xs
  unfolding sorted
  sorted-same [] a = refl
  sorted-same (x ∷ xs) a =
      let t = both (test x) (all test xs) a in
      insert-same x (sorted le xs) t.0 (all-sorted le test xs ∙ t.1) ∙ ap (insert other x) (sorted-same xs t.1)
