-- Laws of `same`: its test holds exactly where two lists are equal.
-- Assumes nothing.
use Prim.Native.Nat.{ℕ}
use mathlib.Core.Path.{◌≡◌, refl, ap₂}
use mathlib.Core.Bool.{true}
use mathlib.Core.Logic.{◌↔◌}
use mathlib.Core.List.{List, [], ◌∷◌}
use lib.Dec.{eqb}
use borrow.Author.Tests.{eqb-true, eq-eqb}
use Rattle.terms.specs.Lists.{same}
use Rattle.terms.proofs.Tests.{both, join}

-- a list is the same as itself
pub same_refl : (xs : List ℕ) → same xs xs ≡ true
unfolding same
same_refl [] = refl
same_refl (x ∷ xs) = join (eqb x x) (same xs xs) (eq-eqb x x refl) (same_refl xs)

-- lists that are the same are equal
same-equal : (xs ys : List ℕ) → same xs ys ≡ true → xs ≡ ys
unfolding same
same-equal [] [] e = refl
same-equal [] (y ∷ ys) e = cc
same-equal (x ∷ xs) [] e = cc
same-equal (x ∷ xs) (y ∷ ys) e =
    let each = both (eqb x y) (same xs ys) e in ap₂ ◌∷◌ (eqb-true x y each.0) (same-equal xs ys each.1)

pub same-exactly : (xs ys : List ℕ) → (same xs ys ≡ true) ↔ (xs ≡ ys)
same-exactly xs ys = (same-equal xs ys, λ e. rw e (same_refl ys))
