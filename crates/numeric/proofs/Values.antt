-- What runs of digits are worth: of two as long the digit where they first differ decides, and a longer one that begins with no
-- zero is worth more. So runs are ordered without their values.
-- Assumes nothing.
use mathlib.Core.Path.{◌≡◌, refl, ap, ◌∙◌}
use Prim.Native.Nat.{ℕ, zero, suc, ◌+◌, ◌-◌, ◌*◌, ◌≤◌, ◌<◌, compare, Ordering}
use native.Mathlib.Omega.{arith}
use mathlib.Core.Bool.{Bool, true, false}
use mathlib.Core.List.{List, [], ◌∷◌, ◌++◌}
use lib.Dec.{leb, eqb}
use lib.ListN.{length}
use borrow.Author.Tests.{leb-true, eqb-false}
use Rattle.terms.specs.Lists.{all}
use Rattle.terms.proofs.Lists.{all_first, all_rest}
use Rattle.terms.proofs.Tests.{both}
use Rattle.octets.specs.Order.{and_then, order_of}
use Rattle.octets.proofs.Orders.{flip}
use Rattle.octets.proofs.Order.{compare_refl, compare-equal, compare-below, compare-less, compare-flip}
use Rattle.numeric.specs.Numbers.{digit, value_from, value}
use Rattle.numeric.specs.Runs.{shorter_first}

-- ---- digits and numbers

-- a digit is at least 0x30
digit-least : (o : ℕ) → digit o ≡ true → 0x30 ≤ o
digit-least o e = leb-true 0x30 o (both (leb 0x30 o) (leb o 0x39) e).0

-- a digit is at most 0x39
digit-most : (o : ℕ) → digit o ≡ true → o ≤ 0x39
digit-most o e = leb-true o 0x39 (both (leb 0x30 o) (leb o 0x39) e).1

-- the higher number is greater
pub compare-above : (a b : ℕ) → b < a → compare a b ≡ Ordering.gt
compare-above a b h = compare-flip b a ∙ ap flip (compare-below b a h)

-- numbers of which neither is lower tie
pub compare-tie : (a b : ℕ) → b ≤ a → a ≤ b → compare a b ≡ Ordering.eq
compare-tie a b h k = let same : a ≡ b = omega arith in rw same (compare_refl b)

-- a number that is greater is higher
compare-greater : (a b : ℕ) → compare a b ≡ Ordering.gt → b < a
compare-greater a b e = compare-less b a (compare-flip a b ∙ ap flip e)

-- ---- one digit more

-- a digit after a run: ten times the value, and the digit
pub value_from-more : (v : ℕ) (ds : List ℕ) (d : ℕ) → value_from v (ds ++ d ∷ []) ≡ value_from v ds * 10 + (d - 0x30)
unfolding value_from
value_from-more v [] d = refl
value_from-more v (o ∷ ds) d = value_from-more (v * 10 + (o - 0x30)) ds d

-- ---- runs that are as long

-- the run after the lower number is worth less
lower-first : (ds es : List ℕ) → length ds ≡ length es → all digit ds ≡ true → (v w : ℕ) → v < w
    → value_from v ds < value_from w es
unfolding value_from
lower-first [] [] l p v w h = h
lower-first [] (e ∷ es) l p v w h = absurd (omega arith)
lower-first (d ∷ ds) [] l p v w h = absurd (omega arith)
lower-first (d ∷ ds) (e ∷ es) l p v w h =
    let most = digit-most d (all_first digit d ds p) in
    lower-first ds es (omega arith) (all_rest digit d ds p) (v * 10 + (d - 0x30)) (w * 10 + (e - 0x30)) (omega arith)

-- a digit of each and then runs that are as long, of which the values after one number are ordered as the runs are
digit-each : (x y : ℕ) (xs ys : List ℕ) (v : ℕ) → all digit (x ∷ xs) ≡ true → all digit (y ∷ ys) ≡ true
    → length xs ≡ length ys
    → ((w : ℕ) → compare (value_from w xs) (value_from w ys) ≡ order_of xs ys)
    → (o : Ordering) → compare x y ≡ o
    → compare (value_from (v * 10 + (x - 0x30)) xs) (value_from (v * 10 + (y - 0x30)) ys) ≡ and_then o (order_of xs ys)
digit-each x y xs ys v p q l rest Ordering.lt e =
    let least = digit-least x (all_first digit x xs p) in
    let below = compare-less x y e in
    compare-below (value_from (v * 10 + (x - 0x30)) xs) (value_from (v * 10 + (y - 0x30)) ys)
    (lower-first xs ys l (all_rest digit x xs p) (v * 10 + (x - 0x30)) (v * 10 + (y - 0x30)) (omega arith))
digit-each x y xs ys v p q l rest Ordering.eq e = rw (compare-equal x y e) (rest (v * 10 + (y - 0x30)))
digit-each x y xs ys v p q l rest Ordering.gt e =
    let least = digit-least y (all_first digit y ys q) in
    let above = compare-greater x y e in
    let as_long : length ys ≡ length xs = omega arith in
    compare-above (value_from (v * 10 + (x - 0x30)) xs) (value_from (v * 10 + (y - 0x30)) ys)
    (lower-first ys xs as_long (all_rest digit y ys q) (v * 10 + (y - 0x30)) (v * 10 + (x - 0x30)) (omega arith))

-- after one number, their values are ordered as they are
values-as-long : (xs ys : List ℕ) → length xs ≡ length ys → all digit xs ≡ true → all digit ys ≡ true → (v : ℕ)
    → compare (value_from v xs) (value_from v ys) ≡ order_of xs ys
unfolding value_from order_of
values-as-long [] [] l p q v = compare_refl v
values-as-long [] (y ∷ ys) l p q v = absurd (omega arith)
values-as-long (x ∷ xs) [] l p q v = absurd (omega arith)
values-as-long (x ∷ xs) (y ∷ ys) l p q v =
    let as_long : length xs ≡ length ys = omega arith in
    digit-each x y xs ys v p q as_long
    (values-as-long xs ys as_long (all_rest digit x xs p) (all_rest digit y ys q))
    (compare x y) refl

-- ---- runs that begin with no zero

-- a run begins with a zero
abbrev pub zero_first : List ℕ → Bool
zero_first [] = false
zero_first (o ∷ os) = eqb o 0x30

-- after a number above zero, a run that is longer by n is worth more
lower-shorter : (n : ℕ) (xs ys : List ℕ) → length ys ≡ n + length xs → all digit xs ≡ true → (w : ℕ) → 0 < w
    → value xs < value_from w ys
unfolding value_from
lower-shorter zero xs ys l p w h = lower-first xs ys (omega arith) p 0 w h
lower-shorter (suc n) xs [] l p w h = absurd (omega arith)
lower-shorter (suc n) xs (y ∷ ys) l p w h = lower-shorter n xs ys (omega arith) p (w * 10 + (y - 0x30)) (omega arith)

-- the shorter run is worth less
value-shorter : (xs ys : List ℕ) → length xs < length ys → all digit xs ≡ true → all digit ys ≡ true
    → zero_first ys ≡ false
    → value xs < value ys
unfolding value_from
value-shorter xs [] l p q z = absurd (omega arith)
value-shorter xs (y ∷ ys) l p q z =
    let least = digit-least y (all_first digit y ys q) in
    lower-shorter (length ys - length xs) xs ys (omega arith) p (0 * 10 + (y - 0x30)) (omega (arith, eqb-false y 0x30 z))

-- so the values of two runs are ordered by their lengths, and then as they are
pub values-ordered : (xs ys : List ℕ) → all digit xs ≡ true → all digit ys ≡ true
    → zero_first xs ≡ false → zero_first ys ≡ false
    → compare (value xs) (value ys) ≡ shorter_first xs ys
values-ordered xs ys p q m n = go (compare (length xs) (length ys)) refl
  where
    go : (o : Ordering) → compare (length xs) (length ys) ≡ o
        → compare (value xs) (value ys) ≡ and_then o (order_of xs ys)
    go Ordering.lt e =
        compare-below (value xs) (value ys) (value-shorter xs ys (compare-less (length xs) (length ys) e) p q n)
    go Ordering.eq e = values-as-long xs ys (compare-equal (length xs) (length ys) e) p q 0
    go Ordering.gt e =
        compare-above (value xs) (value ys) (value-shorter ys xs (compare-greater (length xs) (length ys) e) q p m)
