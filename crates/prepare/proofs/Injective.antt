-- The answers of preparing one text and two are fixed by their numbers.
-- Assumes nothing.
use mathlib.Core.Path.{◌≡◌, ap₂}
use Rattle.terms.proofs.Injective.{outcome-inj}
use Rattle.keys.specs.Summaries.{summary_numbers}
use Rattle.keys.specs.declared.Summary.{Summary}
use Rattle.keys.proofs.Injective.{summary_numbers-inj}
use Rattle.prepare.specs.Preparing.{Preparation, PreparedPair, preparation_outcome, pair_numbers, pair_outcome}

-- preparations with the same numbers are the same answer
pub preparation_outcome-inj : (x y : Preparation) → preparation_outcome x ≡ preparation_outcome y → x ≡ y
preparation_outcome-inj x y e = outcome-inj summary_numbers summary_numbers-inj x y e

-- two summaries with the same numbers are the same
pair_numbers-inj : (p q : Summary × Summary) → pair_numbers p ≡ pair_numbers q → p ≡ q
pair_numbers-inj p q e =
    let first : summary_numbers p.0 ≡ summary_numbers q.0 = cc in
    let second : summary_numbers p.1 ≡ summary_numbers q.1 = cc in
    ap₂ (λ (a b : Summary). (a, b)) (summary_numbers-inj p.0 q.0 first) (summary_numbers-inj p.1 q.1 second)

-- and so are those of two texts
pub pair_outcome-inj : (x y : PreparedPair) → pair_outcome x ≡ pair_outcome y → x ≡ y
pair_outcome-inj x y e = outcome-inj pair_numbers pair_numbers-inj x y e
