-- An answer is known by its numbers.
-- Assumes nothing.
use mathlib.Core.Path.{◌≡◌}
use mathlib.Core.List.{[], ◌∷◌}
use Rattle.std.specs.Prelude.{Result}
use Rattle.terms.specs.declared.Refusal.{Refusal}
use Rattle.terms.proofs.Injective.{outcome-inj}
use Rattle.partners.specs.declared.Totals.{Totals}
use Rattle.matching.specs.Matching.{matched_outcome}

totals-same : (s t : Totals) → s.equal_pairs ≡ t.equal_pairs → s.partnered ≡ t.partnered → s ≡ t
totals-same s t a b i = record { equal_pairs = a i; partnered = b i }

pub matched_outcome-inj : (x y : Result Totals Refusal) → matched_outcome x ≡ matched_outcome y → x ≡ y
matched_outcome-inj x y e = outcome-inj (λ t. t.equal_pairs ∷ t.partnered ∷ []) (λ s t f. totals-same s t (cc) (cc)) x y e
