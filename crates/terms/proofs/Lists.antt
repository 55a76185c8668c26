-- Laws of `all`, `each` and `total`, the tests, joins and sums over a list that every crate's definitions are written with.
-- Assumes nothing.
use mathlib.Core.Path.{◌≡◌, refl, ap, ap₂, sym, ◌∙◌}
use Prim.Native.Nat.{ℕ, zero, suc, ◌+◌, ◌*◌, ◌≤◌, ◌<◌}
use native.Mathlib.Nat.{mul-zero, mul-suc, mul-add, add-le-add, add-zero, le_refl}
use native.Mathlib.Numerals.{add-one}
use native.Mathlib.Omega.{arith}
use mathlib.Core.Bool.{Bool, true, and-eq-true_iff}
use mathlib.Core.List.{List, [], ◌∷◌, ◌++◌, append_assoc, append-nil}
use lib.ListN.{length, get_or, take, drop, length-append, take-append-drop}
use lib.Seq.{take-suc}
use Rattle.terms.specs.Lists.{all, each, total}

-- ---- all

module _ {ℓ} {A : Type ℓ} where
  -- a test that holds of a list holds of its first element
  pub all_first : (f : A → Bool) (x : A) (xs : List A) → all f (x ∷ xs) ≡ true → f x ≡ true
  all_first f x xs e = ((and-eq-true_iff (f x) (all f xs)).0 e).0

  -- and of the elements after it
  pub all_rest : (f : A → Bool) (x : A) (xs : List A) → all f (x ∷ xs) ≡ true → all f xs ≡ true
  all_rest f x xs e = ((and-eq-true_iff (f x) (all f xs)).0 e).1

  -- a test that holds of an element and of a list holds of both together
  pub all_cons : (f : A → Bool) (x : A) (xs : List A) → f x ≡ true → all f xs ≡ true → all f (x ∷ xs) ≡ true
  all_cons f x xs a b = (and-eq-true_iff (f x) (all f xs)).1 (a, b)

  -- a test that holds of two lists holds of their join
  pub all_append : (f : A → Bool) (xs ys : List A) → all f xs ≡ true → all f ys ≡ true → all f (xs ++ ys) ≡ true
  all_append f [] ys a b = b
  all_append f (x ∷ xs) ys a b =
      all_cons f x (xs ++ ys) (all_first f x xs a) (all_append f xs ys (all_rest f x xs a) b)

  -- a test that another one implies holds of every list that the other holds of
  pub all-mono : (f g : A → Bool) → ((x : A) → f x ≡ true → g x ≡ true) → (xs : List A)
      → all f xs ≡ true → all g xs ≡ true
  all-mono f g h [] e = refl
  all-mono f g h (x ∷ xs) e = all_cons g x xs (h x (all_first f x xs e)) (all-mono f g h xs (all_rest f x xs e))

  -- a test that holds of a list holds at each index
  pub all-at : (f : A → Bool) (xs : List A) (i : ℕ) (d : A) → all f xs ≡ true → i < length xs → f (get_or xs i d) ≡ true
  all-at f [] i d e l = absurd (omega arith)
  all-at f (x ∷ xs) zero d e l = all_first f x xs e
  all-at f (x ∷ xs) (suc i) d e l = all-at f xs i d (all_rest f x xs e) (omega arith)

  -- a test that holds of the first elements and at the next index holds of one element more
  pub all-take-more : (f : A → Bool) (xs : List A) (i : ℕ) (d : A) → all f (take i xs) ≡ true → f (get_or xs i d) ≡ true
      → i < length xs
      → all f (take (i + 1) xs) ≡ true
  all-take-more f xs i d e h l =
      rw (add-one i, take-suc xs i d l)
      (all_append f (take i xs) (get_or xs i d ∷ []) e (all_cons f (get_or xs i d) [] h refl))

module _ {ℓ} {A : Type ℓ} where
  -- a test holds of a list of lists as one if it holds of each
  pub all-each : (f : ℕ → Bool) (g : A → List ℕ) (xs : List A)
      → all (λ x. all f (g x)) xs ≡ true → all f (each g xs) ≡ true
  unfolding each
  all-each f g [] e = refl
  all-each f g (x ∷ xs) e =
      all_append f (g x) (each g xs)
      (all_first (λ y. all f (g y)) x xs e)
      (all-each f g xs (all_rest (λ y. all f (g y)) x xs e))

-- ---- each

module _ {ℓ} {A : Type ℓ} where
  -- two ways that agree wherever a test holds agree on a list that it holds of
  pub each_same : (f g : A → List ℕ) (test : A → Bool) → ((x : A) → test x ≡ true → f x ≡ g x) → (xs : List A)
      → all test xs ≡ true → each f xs ≡ each g xs
  unfolding each
  each_same f g test h [] e = refl
  each_same f g test h (x ∷ xs) e =
      ap₂ ◌++◌ (h x (all_first test x xs e)) (each_same f g test h xs (all_rest test x xs e))

  -- as long as its pieces together
  pub length-each : (f : A → List ℕ) (xs : List A) → length (each f xs) ≡ total (λ x. length (f x)) xs
  unfolding each total
  length-each f [] = refl
  length-each f (x ∷ xs) = length-append (f x) (each f xs) ∙ ap (λ n. length (f x) + n) (length-each f xs)

  -- what two lists become joined is what their join becomes
  pub each_append : (f : A → List ℕ) (xs ys : List A) → each f (xs ++ ys) ≡ each f xs ++ each f ys
  unfolding each
  each_append f [] ys = refl
  each_append f (x ∷ xs) ys =
      ap (λ (l : List ℕ). f x ++ l) (each_append f xs ys) ∙ sym (append_assoc (f x) (each f xs) (each f ys))

  -- one element more
  pub each-take-more : (f : A → List ℕ) (xs : List A) (i : ℕ) (d : A) → i < length xs
      → each f (take (i + 1) xs) ≡ each f (take i xs) ++ f (get_or xs i d)
  unfolding each
  each-take-more f xs i d l =
      rw (add-one i, take-suc xs i d l, each_append f (take i xs) (get_or xs i d ∷ []), append-nil (f (get_or xs i d)))

  -- the first elements and the rest
  pub each-take-drop : (f : A → List ℕ) (xs : List A) (i : ℕ) → each f (take i xs) ++ each f (drop i xs) ≡ each f xs
  each-take-drop f xs i = sym (each_append f (take i xs) (drop i xs)) ∙ ap (each f) (take-append-drop i xs)

  -- the first elements become no more than all
  pub length-each-take : (f : A → List ℕ) (xs : List A) (i : ℕ) → length (each f (take i xs)) ≤ length (each f xs)
  length-each-take f xs i =
      omega (
        arith,
        ap length (each-take-drop f xs i),
        length-append (each f (take i xs)) (each f (drop i xs)),
      )

-- ---- total

module _ {ℓ} {A : Type ℓ} where
  -- two sizes that agree wherever a test holds have the same sum over a list that it holds of
  pub total-same : (f g : A → ℕ) (test : A → Bool) → ((x : A) → test x ≡ true → f x ≡ g x) → (xs : List A)
      → all test xs ≡ true → total f xs ≡ total g xs
  unfolding total
  total-same f g test h [] e = refl
  total-same f g test h (x ∷ xs) e =
      ap₂ ◌+◌ (h x (all_first test x xs e)) (total-same f g test h xs (all_rest test x xs e))

  -- a sum of smaller ones is smaller
  pub total_mono : (f g : A → ℕ) → ((x : A) → f x ≤ g x) → (xs : List A) → total f xs ≤ total g xs
  unfolding total
  total_mono f g h [] = le_refl 0
  total_mono f g h (x ∷ xs) = add-le-add (h x) (total_mono f g h xs)

  -- a sum of multiples is the multiple of the sum
  pub total-mul : (n : ℕ) (f : A → ℕ) (xs : List A) → total (λ x. n * f x) xs ≡ n * total f xs
  unfolding total
  total-mul n f [] = sym (mul-zero n)
  total-mul n f (x ∷ xs) = ap (λ k. n * f x + k) (total-mul n f xs) ∙ sym (mul-add n (f x) (total f xs))

  -- a sum over a list is at most its length times what each is at most
  pub total-most : (n : ℕ) (f : A → ℕ) → ((x : A) → f x ≤ n) → (xs : List A) → total f xs ≤ n * length xs
  unfolding total
  total-most n f h [] = omega arith
  total-most n f h (x ∷ xs) =
      let rest = total-most n f h xs in
      omega (arith, h x, mul-suc n (length xs))

  -- the sums over two lists are the sum over their join
  pub total-append : (f : A → ℕ) (xs ys : List A) → total f (xs ++ ys) ≡ total f xs + total f ys
  unfolding total
  total-append f [] ys = omega arith
  total-append f (x ∷ xs) ys = let rest = total-append f xs ys in omega arith

  -- one element more
  pub total_take_more : (f : A → ℕ) (xs : List A) (i : ℕ) (d : A) → i < length xs
      → total f (take (i + 1) xs) ≡ total f (take i xs) + f (get_or xs i d)
  unfolding total
  total_take_more f xs i d l =
      rw (add-one i, take-suc xs i d l, total-append f (take i xs) (get_or xs i d ∷ []), add-zero (f (get_or xs i d)))

  -- the sum over the first elements is no more than that over all
  pub total-take : (f : A → ℕ) (xs : List A) (i : ℕ) → total f (take i xs) ≤ total f xs
  total-take f xs i =
      omega (arith, total-append f (take i xs) (drop i xs), ap (total f) (take-append-drop i xs))
