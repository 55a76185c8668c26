-- A summary is fixed by its numbers: those of a truth, of a place, of a summary.
-- Assumes nothing.
use mathlib.Core.Path.{◌≡◌, refl}
use mathlib.Core.Bool.{Bool, true, false}
use Rattle.keys.specs.Summaries.{truth, place_number, summary_numbers}
use Rattle.keys.specs.declared.KeyPlace.{KeyPlace}
use Rattle.keys.specs.declared.KeyPlace.TheVariants.{Text, Buffer}
use Rattle.keys.specs.declared.Summary.{Summary}

-- truths with the same number are the same
pub truth-inj : (x y : Bool) → truth x ≡ truth y → x ≡ y
truth-inj true true e = refl
truth-inj true false e = cc
truth-inj false true e = cc
truth-inj false false e = refl

-- places with the same number are the same
pub place_number-inj : (x y : KeyPlace) → place_number x ≡ place_number y → x ≡ y
place_number-inj Text Text e = refl
place_number-inj Text Buffer e = cc
place_number-inj Buffer Text e = cc
place_number-inj Buffer Buffer e = refl

-- summaries with the same numbers are the same
pub summary_numbers-inj : (x y : Summary) → summary_numbers x ≡ summary_numbers y → x ≡ y
summary_numbers-inj x y e =
    let valid : x.valid ≡ y.valid = truth-inj x.valid y.valid (cc) in
    let count : x.lookups ≡ y.lookups = cc in
    let len : x.key_length ≡ y.key_length = cc in
    let place : x.place ≡ y.place = place_number-inj x.place y.place (cc) in
    λ i. record { valid = valid i; lookups = count i; key_length = len i; place = place i }
