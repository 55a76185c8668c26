-- An answer is fixed by its numbers.
-- Assumes nothing.
use mathlib.Core.Path.{◌≡◌, refl, ap₂}
use mathlib.Core.List.{[], ◌∷◌}
use Rattle.std.specs.Prelude.{Result}
use Rattle.terms.specs.declared.RecordPosition.{RecordPosition}
use Rattle.terms.specs.declared.Refusal.{Refusal}
use Rattle.terms.proofs.Injective.{outcome-inj}
use Rattle.records.specs.declared.KeyFields.{KeyFields}
use Rattle.records.specs.Reading.{record_values, record_outcome}
use Rattle.records.specs.Writing.{written_outcome}
use Rattle.records.specs.declared.Record.{Record}
use Rattle.records.specs.declared.Record.TheVariants.{End, Text, Key}

-- a position is its number, and fields are theirs
position-same : (a b : RecordPosition) → a.0 ≡ b.0 → a ≡ b
position-same a b e = λ i. record { 0 = e i }

pub fields-same : (f g : KeyFields) → f.collation ≡ g.collation → f.valid ≡ g.valid → f.text_length ≡ g.text_length → f ≡ g
fields-same f g p q r = λ i. record { collation = p i; valid = q i; text_length = r i }

-- what was read is its numbers
record_values-inj : (x y : Record) → record_values x ≡ record_values y → x ≡ y
record_values-inj End End e = refl
record_values-inj End (Text a b) e = cc
record_values-inj End (Key f a b) e = cc
record_values-inj (Text a b) End e = cc
record_values-inj (Text a b) (Text c d) e = ap₂ Text (position-same a c (cc)) (position-same b d (cc))
record_values-inj (Text a b) (Key f c d) e = cc
record_values-inj (Key f a b) End e = cc
record_values-inj (Key f a b) (Text c d) e = cc
record_values-inj (Key f a b) (Key g c d) e =
    let fields = fields-same f g (cc) (cc) (cc) in
    let start = position-same a c (cc) in
    let stop = position-same b d (cc) in
    rw (fields, start, stop)

pub record_outcome-inj : (x y : Result Record Refusal) → record_outcome x ≡ record_outcome y → x ≡ y
record_outcome-inj x y e = outcome-inj record_values record_values-inj x y e

pub written_outcome-inj : (x y : Result RecordPosition Refusal) → written_outcome x ≡ written_outcome y → x ≡ y
written_outcome-inj x y e = outcome-inj (λ p. p.0 ∷ []) (λ p q s. position-same p q (cc)) x y e
