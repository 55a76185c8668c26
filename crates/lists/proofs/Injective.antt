-- An answer is known by its numbers.
-- Assumes nothing.
use mathlib.Core.Path.{◌≡◌}
use Rattle.terms.proofs.Injective.{outcome-inj}
use Rattle.lists.specs.Lists.{Shared, totals_numbers, shared_outcome}
use Rattle.lists.specs.declared.Totals.{Totals}

totals-same : (s t : Totals) → s.first_names ≡ t.first_names → s.second_names ≡ t.second_names
    → s.equal_pairs ≡ t.equal_pairs
    → s.partnered ≡ t.partnered
    → s ≡ t
totals-same s t a b c d i = record {
  first_names = a i;
  second_names = b i;
  equal_pairs = c i;
  partnered = d i;
}

numbers-inj : (s t : Totals) → totals_numbers s ≡ totals_numbers t → s ≡ t
numbers-inj s t e = totals-same s t (cc) (cc) (cc) (cc)

pub shared_outcome-inj : (x y : Shared) → shared_outcome x ≡ shared_outcome y → x ≡ y
shared_outcome-inj x y e = outcome-inj totals_numbers numbers-inj x y e
