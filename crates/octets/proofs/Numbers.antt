-- Octets read as one number, the first the highest: two such numbers are ordered as their octets are.
-- Assumes nothing.
use mathlib.Core.Path.{◌≡◌, refl, sym, ap, ◌∙◌}
use Prim.Native.Nat.{ℕ, zero, suc, ◌+◌, ◌*◌, ◌<◌, ◌≤◌, compare, Ordering}
use native.Mathlib.Omega.{arith}
use mathlib.Core.List.{List}
use lib.ListN.{length, take, drop, get_or}
use lib.Seq.{drop-cons}
use Rattle.octets.specs.Numbers.{number_at, ReadsNumber}
use Rattle.std.specs.declared.cmp.Ordering as std
use Rattle.std.specs.declared.cmp.Ordering.TheVariants.{Less, Equal, Greater}
use Rattle.std.specs.Ordering.{MatchOrdering, nat_cmp}
use Rattle.std.specs.Int.{w32, w64, from_be_bytes}
use Rattle.std.proofs.lemmas.Cmp.{ranked}
use Rattle.std.proofs.lemmas.List.{get_or-take, get_or-drop}
use Rattle.octets.specs.Order.{and_then, order_of, compared_order}
use Rattle.octets.proofs.Order.{compare_refl, compare-equal, compare-below, compare-less, compare-flip}
use Rattle.octets.proofs.Orders.{flip}

-- ---- numbers

-- the higher number is greater
compare-above : (a b : ℕ) → b < a → compare a b ≡ Ordering.gt
compare-above a b h = compare-flip b a ∙ ap flip (compare-below b a h)

-- a number that is greater is higher
compare-greater : (a b : ℕ) → compare a b ≡ Ordering.gt → b < a
compare-greater a b e = compare-less b a (compare-flip a b ∙ ap flip e)

-- of two numbers with the same in front the octets decide
compare-last : (n x y : ℕ) → compare (n * 256 + x) (n * 256 + y) ≡ compare x y
compare-last n x y = go (compare x y) refl
  where
    go : (o : Ordering) → compare x y ≡ o → compare (n * 256 + x) (n * 256 + y) ≡ compare x y
    go Ordering.lt e = compare-below (n * 256 + x) (n * 256 + y) (omega (arith, compare-less x y e)) ∙ sym e
    go Ordering.eq e = rw (compare-equal x y e) (compare_refl (n * 256 + y) ∙ sym (compare_refl y))
    go Ordering.gt e = compare-above (n * 256 + x) (n * 256 + y) (omega (arith, compare-greater x y e)) ∙ sym e

-- what is in front decides, and then the octets
compare-octet : (n m x y : ℕ) → x < 256 → y < 256
    → compare (n * 256 + x) (m * 256 + y) ≡ and_then (compare n m) (compare x y)
compare-octet n m x y h l = go (compare n m) refl
  where
    go : (o : Ordering) → compare n m ≡ o → compare (n * 256 + x) (m * 256 + y) ≡ and_then o (compare x y)
    go Ordering.lt e = compare-below (n * 256 + x) (m * 256 + y) (omega (arith, compare-less n m e))
    go Ordering.eq e = rw (compare-equal n m e) (compare-last m x y)
    go Ordering.gt e = compare-above (n * 256 + x) (m * 256 + y) (omega (arith, compare-greater n m e))

then-assoc : (o p q : Ordering) → and_then o (and_then p q) ≡ and_then (and_then o p) q
then-assoc Ordering.lt p q = refl
then-assoc Ordering.eq p q = refl
then-assoc Ordering.gt p q = refl

-- std's comparison of two numbers
pub cmp_compare : (x y : ℕ) → compared_order (nat_cmp x y) ≡ compare x y
cmp_compare x y = go (nat_cmp x y) (ranked x y (nat_cmp x y) refl)
  where
    go : (o : std.Ordering) → MatchOrdering o (x < y) (x ≡ y) (y < x) → compared_order o ≡ compare x y
    go Less h = sym (compare-below x y h)
    go Equal h = rw h (sym (compare_refl y))
    go Greater h = sym (compare-above x y h)

-- what tells a difference decides
decided : (o : std.Ordering) (p : Ordering) → (o ≡ Equal → ⊥) → and_then (compared_order o) p ≡ compared_order o
decided Less p d = refl
decided Equal p d = absurd (d refl)
decided Greater p d = refl

-- ---- lists

-- from two places on two lists have the same order
abbrev pub SameFrom : List ℕ → List ℕ → ℕ → ℕ → Type 0
SameFrom a b from i = order_of (drop from a) (drop from b) ≡ order_of (drop i a) (drop i b)

module _ (a b : List ℕ) (octets-a : (i : ℕ) → get_or a i 0 < 256) (octets-b : (i : ℕ) → get_or b i 0 < 256) where
  -- an octet more of each number is an octet less of each list
  order-octet : (n m i : ℕ) → i < length a → i < length b
      → and_then (compare n m) (order_of (drop i a) (drop i b))
      ≡ and_then (compare (n * 256 + get_or a i 0) (m * 256 + get_or b i 0)) (order_of (drop (suc i) a) (drop (suc i) b))
  unfolding order_of
  order-octet n m i h l =
      rw (
        drop-cons a i 0 h,
        drop-cons b i 0 l,
        compare-octet n m (get_or a i 0) (get_or b i 0) (octets-a i) (octets-b i),
      )
      (then-assoc (compare n m) (compare (get_or a i 0) (get_or b i 0)) (order_of (drop (suc i) a) (drop (suc i) b)))

  -- and so many more are so many less
  order-numbers : (k n m i : ℕ) → i + k ≤ length a → i + k ≤ length b
      → and_then (compare n m) (order_of (drop i a) (drop i b))
      ≡ and_then (compare (number_at k n i a) (number_at k m i b)) (order_of (drop (i + k) a) (drop (i + k) b))
  unfolding number_at
  order-numbers zero n m i h l = let same : i + 0 ≡ i = omega arith in rw same
  order-numbers (suc k) n m i h l =
      let next : i + suc k ≡ suc i + k = omega arith in
      order-octet n m i (omega arith) (omega arith)
      ∙ rw next
      (order-numbers k (n * 256 + get_or a i 0) (m * 256 + get_or b i 0) (suc i) (omega arith) (omega arith))

-- ---- reading

-- a list begins with so many octets, read as one number, and a rest follows
pub record Begins (k : ℕ) (xs rest : List ℕ) (x : ℕ) : Type 0 where
  pub reads : ReadsNumber k xs 0 x
  pub then : rest ≡ drop k xs
  pub within : k ≤ length xs

-- what std splits off a list
abbrev Split : ℕ → List ℕ → List ℕ → List ℕ → Type 0
Split k xs block rest = (block ≡ take k xs) × (rest ≡ drop k xs) × (length rest + k ≡ length xs)

-- what is left of octets is octets
pub octets-left : (k : ℕ) (xs : List ℕ) {block rest : List ℕ} → ((i : ℕ) → get_or xs i 0 < 256) → Split k xs block rest
    → (i : ℕ) → get_or rest i 0 < 256
octets-left k xs octets (b, r, l) i = rw (r, get_or-drop k xs i 0) (octets (k + i))

module _ {xs block rest : List ℕ} {x : ℕ} (octets : (i : ℕ) → get_or xs i 0 < 256) where
  -- four octets
  pub begins-four : Split 4 xs block rest → x ≡ from_be_bytes w32 block → Begins 4 xs rest x
  unfolding number_at
  begins-four (b, r, l) e = record {
    reads = record { number = rw b at e ∙ omega (arith, get_or-take {A = ℕ}); octets = octets };
    then = r;
    within = omega arith;
  }

  -- eight
  pub begins-eight : Split 8 xs block rest → x ≡ from_be_bytes w64 block → Begins 8 xs rest x
  unfolding number_at
  begins-eight (b, r, l) e = record {
    reads = record { number = rw b at e ∙ omega (arith, get_or-take {A = ℕ}); octets = octets };
    then = r;
    within = omega arith;
  }

-- Two numbers that were read at the start of two lists, and how they compare.
module _ {a b rest_a rest_b : List ℕ} {k x y : ℕ} (p : Begins k a rest_a x) (q : Begins k b rest_b y)
    {o : std.Ordering} (compared : o ≡ nat_cmp x y) where
  -- the numbers decide, and then what follows
  order-read : order_of a b ≡ and_then (compared_order o) (order_of rest_a rest_b)
  order-read =
      let start : 0 + k ≡ k = omega arith in
      rw (compared, cmp_compare x y, p.reads.number, q.reads.number, p.then, q.then)
      (rw start at
      (order-numbers a b p.reads.octets q.reads.octets k 0 0 0 (omega (arith, p.within)) (omega (arith, q.within))))

  -- the numbers differ
  pub read_unequal : (o ≡ Equal → ⊥) → compared_order o ≡ order_of a b
  read_unequal d = sym (order-read ∙ decided o (order_of rest_a rest_b) d)

  -- they are the same: the order is that of what follows
  pub read_same : o ≡ Equal → order_of a b ≡ order_of rest_a rest_b
  read_same e = rw e at order-read
