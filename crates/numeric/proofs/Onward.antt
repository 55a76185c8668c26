-- What is left to decide where two texts are walked at once: the lengths of the runs from here on, then the difference so far,
-- then the first difference from here on.
-- Assumes nothing.
use mathlib.Core.Path.{◌≡◌, refl}
use Prim.Native.Nat.{ℕ, suc, ◌+◌, compare, Ordering}
use Prim.Native.Nat.compare
use native.Mathlib.Numerals.{add-one}
use mathlib.Core.Bool.{true, false, not}
use mathlib.Core.List.{List, [], ◌∷◌}
use lib.ListN.{length, drop, get_or}
use lib.Seq.{drop-cons}
use Rattle.terms.specs.Lists.{empty}
use Rattle.octets.specs.Order.{and_then, order_of}
use Rattle.numeric.specs.Numbers.{run}
use Rattle.numeric.proofs.Runs.{run-within, run-digit}

-- the order of two runs, with a difference before them
abbrev runs_after : Ordering → List ℕ → List ℕ → Ordering
runs_after d xs ys = and_then (compare (length xs) (length ys)) (and_then d (order_of xs ys))

-- the order of the runs of two texts, with a difference before them
abbrev pub onward : Ordering → List ℕ → List ℕ → Ordering
onward d s t = runs_after d (run s) (run t)

-- grouped another way
and_then-assoc : (o p q : Ordering) → and_then (and_then o p) q ≡ and_then o (and_then p q)
and_then-assoc Ordering.lt p q = refl
and_then-assoc Ordering.eq p q = refl
and_then-assoc Ordering.gt p q = refl

-- no difference follows
and_then-eq : (o : Ordering) → and_then o Ordering.eq ≡ o
and_then-eq Ordering.lt = refl
and_then-eq Ordering.eq = refl
and_then-eq Ordering.gt = refl

-- a digit of each
runs-more : (d : Ordering) (x y : ℕ) (xs ys : List ℕ)
    → runs_after d (x ∷ xs) (y ∷ ys) ≡ runs_after (and_then d (compare x y)) xs ys
unfolding order_of
runs-more d x y xs ys =
    rw (compare.suc-suc (length xs) (length ys), and_then-assoc d (compare x y) (order_of xs ys))

-- the first run ends
runs-first : (d : Ordering) (xs ys : List ℕ) → not (empty xs) ≡ false → not (empty ys) ≡ true
    → runs_after d xs ys ≡ Ordering.lt
runs-first d [] [] e f = cc
runs-first d [] (y ∷ ys) e f = rw (compare.zero-suc (length ys))
runs-first d (x ∷ xs) ys e f = cc

-- the second run ends
runs-second : (d : Ordering) (xs ys : List ℕ) → not (empty xs) ≡ true → not (empty ys) ≡ false
    → runs_after d xs ys ≡ Ordering.gt
runs-second d [] ys e f = cc
runs-second d (x ∷ xs) [] e f = rw (compare.suc-zero (length xs))
runs-second d (x ∷ xs) (y ∷ ys) e f = cc

-- both end
runs-both : (d : Ordering) (xs ys : List ℕ) → not (empty xs) ≡ false → not (empty ys) ≡ false → runs_after d xs ys ≡ d
unfolding order_of
runs-both d [] [] e f = rw compare.zero-zero (and_then-eq d)
runs-both d [] (y ∷ ys) e f = cc
runs-both d (x ∷ xs) ys e f = cc

-- ---- two texts, from a place on

module _ (d : Ordering) (s t : List ℕ) (i : ℕ) where
  -- the first run ends here: less
  pub onward-first : not (empty (run (drop i s))) ≡ false → not (empty (run (drop i t))) ≡ true
      → onward d (drop i s) (drop i t) ≡ Ordering.lt
  onward-first = runs-first d (run (drop i s)) (run (drop i t))

  -- the second run ends here: greater
  pub onward-second : not (empty (run (drop i s))) ≡ true → not (empty (run (drop i t))) ≡ false
      → onward d (drop i s) (drop i t) ≡ Ordering.gt
  onward-second = runs-second d (run (drop i s)) (run (drop i t))

  -- both end here: the difference decides
  pub onward-both : not (empty (run (drop i s))) ≡ false → not (empty (run (drop i t))) ≡ false
      → onward d (drop i s) (drop i t) ≡ d
  onward-both = runs-both d (run (drop i s)) (run (drop i t))

  -- both have a digit here: it may be the first difference
  pub onward-more : not (empty (run (drop i s))) ≡ true → not (empty (run (drop i t))) ≡ true
      → onward d (drop i s) (drop i t)
      ≡ onward (and_then d (compare (get_or s i 0) (get_or t i 0))) (drop (i + 1) s) (drop (i + 1) t)
  unfolding run
  onward-more p q =
      let in-s = run-within s i p in
      let in-t = run-within t i q in
      rw (add-one i, drop-cons s i 0 in-s, drop-cons t i 0 in-t, run-digit s i p, run-digit t i q)
      (runs-more d (get_or s i 0) (get_or t i 0) (run (drop (suc i) s)) (run (drop (suc i) t)))
