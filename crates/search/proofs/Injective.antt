-- An answer of the substring call is fixed by its numbers.
-- Assumes nothing.
use mathlib.Core.Path.{◌≡◌, refl}
use Rattle.std.specs.Prelude.{Option, None, Some}
use Rattle.terms.specs.declared.KeyPosition.{KeyPosition}
use Rattle.terms.specs.declared.TextPosition.{TextPosition}
use Rattle.terms.proofs.Injective.{outcome-inj}
use Rattle.search.specs.Substring.{Sought, hit_numbers, substring_outcome}
use Rattle.search.specs.declared.Hit.{Hit}

-- positions with the same number are the same
pub key-position-inj : (a b : KeyPosition) → a.0 ≡ b.0 → a ≡ b
key-position-inj a b e = λ i. record { 0 = e i }

pub text-position-inj : (a b : TextPosition) → a.0 ≡ b.0 → a ≡ b
text-position-inj a b e = λ i. record { 0 = e i }

hit-inj : (x y : Option Hit) → hit_numbers x ≡ hit_numbers y → x ≡ y
hit-inj (Some h) (Some j) e =
    let key_start = key-position-inj h.key_start j.key_start (cc) in
    let key_end = key-position-inj h.key_end j.key_end (cc) in
    let text_start = text-position-inj h.text_start j.text_start (cc) in
    let text_end = text-position-inj h.text_end j.text_end (cc) in
    λ i. Some (record { key_start = key_start i; key_end = key_end i; text_start = text_start i; text_end = text_end i })
hit-inj (Some h) None e = cc
hit-inj None (Some j) e = cc
hit-inj None None e = refl

-- substring answers with the same numbers are the same answer
pub substring_outcome-inj : (x y : Sought) → substring_outcome x ≡ substring_outcome y → x ≡ y
substring_outcome-inj x y e = outcome-inj hit_numbers hit-inj x y e
