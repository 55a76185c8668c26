-- The keys of both lists numbered through, the first list's before the second's, and what a walk from the end of the sorted row
-- knows: the second list's numbers whose key is that of the number it stands at.
-- Assumes nothing.
use Rattle.std.specs.Prelude.{◌≡◌, ℕ, suc, ◌-◌, Bool, false, ◌&&◌, List, [], ◌∷◌, leb, length}
use Rattle.terms.specs.Lists.{same}
use Rattle.partners.specs.Partners.{those}
use Rattle.partners.specs.declared.groups.Group.{Group}

-- a number, from those of the second list on, has this key
abbrev pub is_partner : (ℕ → List ℕ) → ℕ → List ℕ → ℕ → Bool
is_partner key middle k y = leb middle y && same k (key y)

-- the second list's numbers in a row that have this key
abbrev pub partners_in : (ℕ → List ℕ) → ℕ → List ℕ → List ℕ → List ℕ
partners_in key middle k row = those (is_partner key middle k) row

-- the second list's numbers in a row that have the key of its first number
unfoldable pub leading : (ℕ → List ℕ) → ℕ → List ℕ → List ℕ
leading key middle [] = []
leading key middle (x ∷ xs) = partners_in key middle (key x) (x ∷ xs)

-- the first two numbers of a row have one key
abbrev pub key_repeats : (ℕ → List ℕ) → List ℕ → Bool
key_repeats key [] = false
key_repeats key (x ∷ []) = false
key_repeats key (x ∷ y ∷ ys) = same (key x) (key y)

-- the place in the second list, from 1, of the first of its numbers in a row; 0 if there is none
abbrev pub first_from1 : ℕ → List ℕ → ℕ
first_from1 middle [] = 0
first_from1 middle (y ∷ ys) = suc (y - middle)

-- a group tells how many there are, and which is the lowest
pub record Tells (middle : ℕ) (partners : List ℕ) (g : Group) : Type 0 where
  pub count : g.count ≡ length partners
  pub lowest : g.lowest ≡ first_from1 middle partners
