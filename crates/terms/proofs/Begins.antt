-- Laws of `begins`: its test holds exactly where the front of the other list is the list.
-- Assumes nothing.
use Prim.Native.Nat.{ℕ}
use mathlib.Core.Path.{◌≡◌, refl}
use mathlib.Core.Bool.{Bool, true, false, ◌&&◌}
use mathlib.Core.List.{List, [], ◌∷◌}
use lib.Dec.{eqb}
use lib.ListN.{length, take}
use borrow.Author.Tests.{eqb-true, eq-eqb}
use Rattle.terms.specs.Lists.{begins}

-- both halves of a conjunction hold
and_left : (a b : Bool) → a && b ≡ true → a ≡ true
and_left true b e = refl
and_left false b e = e

and_right : (a b : Bool) → a && b ≡ true → b ≡ true
and_right true b e = e
and_right false b e = cc

-- the test holds: the front of the other list is the list
pub begins-true : (xs ys : List ℕ) → begins xs ys ≡ true → take (length xs) ys ≡ xs
unfolding begins
begins-true [] ys e = refl
begins-true (x ∷ xs) [] e = cc
begins-true (x ∷ xs) (y ∷ ys) e =
    let head : x ≡ y = eqb-true x y (and_left (eqb x y) (begins xs ys) e) in
    let tail : take (length xs) ys ≡ xs = begins-true xs ys (and_right (eqb x y) (begins xs ys) e) in
    cc

-- the front of the other list is the list: the test holds
pub begins-take : (xs ys : List ℕ) → take (length xs) ys ≡ xs → begins xs ys ≡ true
unfolding begins
begins-take [] ys e = refl
begins-take (x ∷ xs) [] e = cc
begins-take (x ∷ xs) (y ∷ ys) e =
    let head : x ≡ y = cc in
    let tail : take (length xs) ys ≡ xs = cc in
    rw (eq-eqb x y head, begins-take xs ys tail)
