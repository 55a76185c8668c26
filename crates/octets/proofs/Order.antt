-- The order of lists of octets is a total order: its ties are exactly the equal lists, it turns round with its arguments, and
-- it is transitive. A proper prefix is less, and else the first octet that differs decides.
-- Assumes nothing.
use Prim.Native.Nat.{ℕ, zero, suc, ◌+◌, ◌<◌, ◌≤◌, compare, min, Ordering}
use native.Mathlib.Omega.{arith}
use mathlib.Core.Path.{◌≡◌, refl, sym, ap, ◌∙◌}
use mathlib.Core.Bool.{Bool, true, false}
use mathlib.Core.Logic.{◌⊎◌, inl, inr}
use mathlib.Core.List.{List, [], ◌∷◌, ◌++◌}
use native.Mathlib.Numerals.{add-one}
use lib.Dec.{compare_is_eq}
use lib.ListN.{length, drop, get_or}
use lib.Seq.{drop-cons}
use Rattle.terms.specs.Lists.{same}
use Rattle.terms.proofs.Same.{same_refl, same-exactly}
use Rattle.octets.specs.Order.{and_then, order_of}
use Rattle.octets.proofs.Orders.{flip, TotalOrder, at-most-is, at-most-itself, at-most-on, at-most-either}

-- ---- numbers

-- a number ties with itself
pub compare_refl : (a : ℕ) → compare a a ≡ Ordering.eq
compare_refl zero = Prim.Native.Nat.compare.zero-zero
compare_refl (suc a) = Prim.Native.Nat.compare.suc-suc a a ∙ compare_refl a

-- numbers that tie are equal
pub compare-equal : (a b : ℕ) → compare a b ≡ Ordering.eq → a ≡ b
compare-equal zero zero e = refl
compare-equal zero (suc b) e = cc (Prim.Native.Nat.compare.zero-suc b)
compare-equal (suc a) zero e = cc (Prim.Native.Nat.compare.suc-zero a)
compare-equal (suc a) (suc b) e = ap suc (compare-equal a b (sym (Prim.Native.Nat.compare.suc-suc a b) ∙ e))

-- the lower number is less
pub compare-below : (a b : ℕ) → a < b → compare a b ≡ Ordering.lt
compare-below zero zero h = absurd (omega arith)
compare-below zero (suc b) h = Prim.Native.Nat.compare.zero-suc b
compare-below (suc a) zero h = absurd (omega arith)
compare-below (suc a) (suc b) h = Prim.Native.Nat.compare.suc-suc a b ∙ compare-below a b (omega arith)

-- a number that is less is lower
pub compare-less : (a b : ℕ) → compare a b ≡ Ordering.lt → a < b
compare-less zero zero e = let z : ◌≡◌ {A = ℕ} 0 1 = cc Prim.Native.Nat.compare.zero-zero in omega arith
compare-less zero (suc b) e = omega arith
compare-less (suc a) zero e = let z : ◌≡◌ {A = ℕ} 0 1 = cc (Prim.Native.Nat.compare.suc-zero a) in omega arith
compare-less (suc a) (suc b) e = let h : a < b = compare-less a b (sym (Prim.Native.Nat.compare.suc-suc a b) ∙ e) in omega arith

-- the comparison of numbers turns round with its arguments
pub compare-flip : (a b : ℕ) → compare b a ≡ flip (compare a b)
compare-flip zero zero = rw Prim.Native.Nat.compare.zero-zero
compare-flip zero (suc b) = rw (Prim.Native.Nat.compare.zero-suc b, Prim.Native.Nat.compare.suc-zero b)
compare-flip (suc a) zero = rw (Prim.Native.Nat.compare.zero-suc a, Prim.Native.Nat.compare.suc-zero a)
compare-flip (suc a) (suc b) = rw (Prim.Native.Nat.compare.suc-suc a b, Prim.Native.Nat.compare.suc-suc b a) (compare-flip a b)

-- ---- one octet before the rest

-- where an octet and then the rest are less: the octet is lower, or it ties and the rest is less
abbrev Below : ℕ → ℕ → Ordering → Type 0
Below a b o = (a < b) ⊎ ((a ≡ b) × (o ≡ Ordering.lt))

below : (a b : ℕ) (o : Ordering) → and_then (compare a b) o ≡ Ordering.lt → Below a b o
below a b o e = go (compare a b) refl
  where
    go : (c : Ordering) → compare a b ≡ c → Below a b o
    go Ordering.lt h = inl (compare-less a b h)
    go Ordering.eq h = inr (compare-equal a b h, rw h at e)
    go Ordering.gt h = let z : ◌≡◌ {A = ℕ} 0 1 = cc (rw h at e) in absurd (omega arith)

less : (a b : ℕ) (o : Ordering) → Below a b o → and_then (compare a b) o ≡ Ordering.lt
less a b o (inl h) = rw (compare-below a b h)
less a b o (inr h) = rw (h.0, compare_refl b) h.1

below-trans : (a b c : ℕ) (o p q : Ordering) → (o ≡ Ordering.lt → p ≡ Ordering.lt → q ≡ Ordering.lt)
    → Below a b o → Below b c p → Below a c q
below-trans a b c o p q rest (inl h) (inl k) = inl (omega arith)
below-trans a b c o p q rest (inl h) (inr k) = inl (omega arith)
below-trans a b c o p q rest (inr h) (inl k) = inl (omega arith)
below-trans a b c o p q rest (inr h) (inr k) = inr (h.0 ∙ k.0, rest h.1 k.1)

-- ---- keys

-- a key ties with itself
pub order-refl : (a : List ℕ) → order_of a a ≡ Ordering.eq
unfolding order_of
order-refl [] = refl
order-refl (x ∷ a) = rw (compare_refl x) (order-refl a)

-- an octet and then the rest tie: each does
then_equal : (o p : Ordering) → and_then o p ≡ Ordering.eq → (o ≡ Ordering.eq) × (p ≡ Ordering.eq)
then_equal Ordering.lt p e = (e, cc)
then_equal Ordering.eq p e = (refl, e)
then_equal Ordering.gt p e = (e, cc)

-- keys that tie are equal
pub order-equal : (a b : List ℕ) → order_of a b ≡ Ordering.eq → a ≡ b
unfolding order_of
order-equal [] [] e = refl
order-equal [] (y ∷ b) e = cc
order-equal (x ∷ a) [] e = cc
order-equal (x ∷ a) (y ∷ b) e =
    let both : (compare x y ≡ Ordering.eq) × (order_of a b ≡ Ordering.eq) = then_equal (compare x y) (order_of a b) e in
    cc (compare-equal x y both.0, order-equal a b both.1)

-- so keys tie exactly where they are the same
pub order_same : (a b : List ℕ) → compare_is_eq (order_of a b) ≡ same a b
order_same a b = go (order_of a b) refl
  where
    differ : (o : Ordering) → order_of a b ≡ o → compare_is_eq o ≡ false → (t : Bool) → same a b ≡ t → false ≡ t
    differ o e f false q = refl
    differ o e f true q =
        let tie : order_of a b ≡ Ordering.eq = rw ((same-exactly a b).0 q) (order-refl b) in
        sym (rw (sym e, tie) at f)

    go : (o : Ordering) → order_of a b ≡ o → compare_is_eq o ≡ same a b
    go Ordering.lt e = differ Ordering.lt e refl (same a b) refl
    go Ordering.eq e = rw (order-equal a b e) (sym (same_refl b))
    go Ordering.gt e = differ Ordering.gt e refl (same a b) refl

flip-then : (o p : Ordering) → flip (and_then o p) ≡ and_then (flip o) (flip p)
flip-then Ordering.lt p = refl
flip-then Ordering.eq p = refl
flip-then Ordering.gt p = refl

-- the order turns round with its arguments
pub order_flip : (a b : List ℕ) → order_of b a ≡ flip (order_of a b)
unfolding order_of
order_flip [] [] = refl
order_flip [] (y ∷ b) = refl
order_flip (x ∷ a) [] = refl
order_flip (x ∷ a) (y ∷ b) = rw (compare-flip x y, order_flip a b) (sym (flip-then (compare x y) (order_of a b)))

-- less than what is less is less
pub order_trans : (a b c : List ℕ) → order_of a b ≡ Ordering.lt → order_of b c ≡ Ordering.lt → order_of a c ≡ Ordering.lt
unfolding order_of
order_trans [] [] c e f = cc
order_trans [] (y ∷ b) [] e f = cc
order_trans [] (y ∷ b) (z ∷ c) e f = refl
order_trans (x ∷ a) [] c e f = cc
order_trans (x ∷ a) (y ∷ b) [] e f = cc
order_trans (x ∷ a) (y ∷ b) (z ∷ c) e f =
    less x z (order_of a c)
    (below-trans x y z (order_of a b) (order_of b c) (order_of a c) (order_trans a b c)
    (below x y (order_of a b) e)
    (below y z (order_of b c) f))

-- one octet of each that is the same leaves the order to what follows
pub order-tie : (a b : List ℕ) (i : ℕ) → i < length a → i < length b → get_or a i 0 ≡ get_or b i 0
    → order_of (drop i a) (drop i b) ≡ order_of (drop (i + 1) a) (drop (i + 1) b)
unfolding order_of
order-tie a b i h l e =
    rw (drop-cons a i 0 h, drop-cons b i 0 l, add-one i, e, compare_refl (get_or b i 0))

-- octets that differ decide
pub order-octet : (a b : List ℕ) (i : ℕ) → i < length a → i < length b → (get_or a i 0 ≡ get_or b i 0 → ⊥)
    → order_of (drop i a) (drop i b) ≡ compare (get_or a i 0) (get_or b i 0)
unfolding order_of
order-octet a b i h l d =
    rw (drop-cons a i 0 h, drop-cons b i 0 l) (go (compare (get_or a i 0) (get_or b i 0)) refl)
  where
    go : (o : Ordering) → compare (get_or a i 0) (get_or b i 0) ≡ o
        → and_then o (order_of (drop (suc i) a) (drop (suc i) b)) ≡ o
    go Ordering.lt e = refl
    go Ordering.eq e = absurd (d (compare-equal (get_or a i 0) (get_or b i 0) e))
    go Ordering.gt e = refl

-- where one of two lists ends, the longer one is greater
pub order-ends : (a b : List ℕ) (i : ℕ) → i ≤ length a → i ≤ length b → min (length a) (length b) ≤ i
    → order_of (drop i a) (drop i b) ≡ compare (length a) (length b)
unfolding order_of
order-ends [] [] i h l m = let start : i ≡ 0 = omega arith in rw start (sym Prim.Native.Nat.compare.zero-zero)
order-ends [] (y ∷ b) i h l m =
    let start : i ≡ 0 = omega arith in rw start (sym (Prim.Native.Nat.compare.zero-suc (length b)))
order-ends (x ∷ a) [] i h l m =
    let start : i ≡ 0 = omega arith in rw start (sym (Prim.Native.Nat.compare.suc-zero (length a)))
order-ends (x ∷ a) (y ∷ b) zero h l m = absurd (omega arith)
order-ends (x ∷ a) (y ∷ b) (suc i) h l m =
    order-ends a b i (omega arith) (omega arith) (omega arith)
    ∙ sym (Prim.Native.Nat.compare.suc-suc (length a) (length b))

-- a proper prefix is less
pub order-prefix : (a b : List ℕ) (x : ℕ) → order_of a (a ++ (x ∷ b)) ≡ Ordering.lt
unfolding order_of
order-prefix [] b x = refl
order-prefix (y ∷ a) b x = rw (compare_refl y) (order-prefix a b x)

-- the first octet that differs decides
pub order-split : (p a b : List ℕ) (x y : ℕ) → x < y → order_of (p ++ (x ∷ a)) (p ++ (y ∷ b)) ≡ Ordering.lt
unfolding order_of
order-split [] a b x y h = rw (compare-below x y h)
order-split (z ∷ p) a b x y h = rw (compare_refl z) (order-split p a b x y h)

-- all of this at once
pub keys-ordered : TotalOrder order_of same
keys-ordered = record { tie = order-refl; tied = order-equal; tested = order_same; turns = order_flip; less = order_trans }

-- ---- not greater

-- a key is not greater than another
abbrev pub AtMost : List ℕ → List ℕ → Type 0
AtMost a b = order_of a b ≡ Ordering.gt → ⊥

-- not greater is less or equal
pub at-most-cases : (a b : List ℕ) → AtMost a b → (order_of a b ≡ Ordering.lt) ⊎ (a ≡ b)
at-most-cases = at-most-is keys-ordered

-- a key is not greater than itself
pub at-most-refl : (a : List ℕ) → AtMost a a
at-most-refl = at-most-itself keys-ordered

-- what is not greater than what is not greater is not greater
pub at-most-trans : (a b c : List ℕ) → AtMost a b → AtMost b c → AtMost a c
at-most-trans = at-most-on keys-ordered

-- of two keys one is not greater than the other
pub at-most-total : (a b : List ℕ) → AtMost a b ⊎ AtMost b a
at-most-total = at-most-either keys-ordered

-- keys of which neither is greater are equal
pub at-most-both : (a b : List ℕ) → AtMost a b → AtMost b a → a ≡ b
at-most-both a b h k = go (at-most-cases a b h)
  where
    go : (order_of a b ≡ Ordering.lt) ⊎ (a ≡ b) → a ≡ b
    go (inl e) = absurd (k (order_flip a b ∙ ap flip e))
    go (inr e) = e
