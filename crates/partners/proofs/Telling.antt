-- Groups that tell of a list of numbers.
-- Assumes nothing.
use mathlib.Core.Path.{◌≡◌, refl, ap, ◌∙◌}
use Prim.Native.Nat.{ℕ, ◌+◌, ◌-◌}
use native.Mathlib.Omega.{arith}
use mathlib.Core.List.{List, [], ◌∷◌}
use lib.ListN.{length}
use Rattle.partners.specs.Groups.{first_from1, Tells}
use Rattle.partners.specs.declared.groups.Group.{Group}

-- of the same list
pub tells-same : {middle : ℕ} {us vs : List ℕ} {g : Group} → us ≡ vs → Tells middle us g → Tells middle vs g
tells-same {middle} {us} {vs} {g} e t = record {
  count = t.count ∙ ap length e;
  lowest = t.lowest ∙ ap (first_from1 middle) e;
}

-- of no number
pub tells_none : (middle : ℕ) → Tells middle [] (record { count = 0; lowest = 0 })
tells_none middle = record { count = refl; lowest = refl }

-- of a number before others
pub tells_more : {middle : ℕ} {us : List ℕ} {g : Group} (x : ℕ) → Tells middle us g
    → Tells middle (x ∷ us) (record { count = g.count + 1; lowest = x - middle + 1 })
tells_more {middle} {us} {g} x t = record {
  count = omega (arith, t.count);
  lowest = omega arith;
}
