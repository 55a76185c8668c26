-- Records worked out, by computation: a text and its key, read back one after another, and an edge of each refusal.
-- Assumes nothing.
use mathlib.Core.Path.{◌≡◌, refl}
use Prim.Native.Nat.{ℕ}
use mathlib.Core.List.{List, [], ◌∷◌, ◌++◌}
use Rattle.terms.specs.Refusals.{refusal}
use Rattle.records.specs.Numbers.{little_endian, number_in}
use Rattle.records.specs.Items.{rules, list_rules, of_text, of_key, field_octets, framed, record_of}
use Rattle.records.specs.Reading.{end, stopped, item, short, fields_in, read_following, read_rest, read_at}
use Rattle.records.specs.declared.KeyFields.{KeyFields}

-- é, and its key under collation 3
abbrev small : List ℕ
small = 0xC3 ∷ 0xA9 ∷ []

abbrev under3 : KeyFields
under3 = record { collation = 3; valid = 1; text_length = 2 }

abbrev prepared : List ℕ
prepared = 0x45 ∷ 0xCC ∷ 0x81 ∷ []

-- their records
abbrev text_octets : List ℕ
text_octets = 4 ∷ 0 ∷ 0 ∷ 0 ∷ 1 ∷ 0 ∷ 0xC3 ∷ 0xA9 ∷ []

abbrev key_octets : List ℕ
key_octets = 9 ∷ 0 ∷ 0 ∷ 0 ∷ 2 ∷ 0 ∷ 3 ∷ 1 ∷ 2 ∷ 0 ∷ 0x45 ∷ 0xCC ∷ 0x81 ∷ []

case-text : record_of (of_text small) ≡ text_octets
unfolding framed little_endian
case-text = refl

case-key : record_of (of_key under3 prepared) ≡ key_octets
unfolding framed field_octets little_endian
case-key = refl

-- ---- read one after another

abbrev both : List ℕ
both = text_octets ++ key_octets

case-first : read_at rules both 0 ≡ item (of_text small) 8
unfolding read_at read_rest read_following short number_in
case-first = refl

case-second : read_at rules both 8 ≡ item (of_key under3 prepared) 21
unfolding read_at read_rest read_following short number_in fields_in
case-second = refl

case-end : read_at rules both 21 ≡ end
unfolding read_at
case-end = refl

-- in a list the text is read, and the key is 12
case-name : read_at list_rules both 0 ≡ item (of_text small) 8
unfolding read_at read_rest read_following short number_in
case-name = refl

case-no-name : read_at list_rules both 8 ≡ stopped (refusal 12 0 0)
unfolding read_at read_rest read_following short number_in
case-no-name = refl

-- ---- refusals: past the end, three octets left, a length of 1, a kind in both octets, three octets of a key's body, a flag of 2

abbrev Told : List ℕ → ℕ → ℕ → Type 0
Told slice p n = read_at rules slice p ≡ stopped (refusal n 0 0)

case-past : Told both 22 11
unfolding read_at read_rest read_following short number_in
case-past = refl

case-three-left : Told both 18 11
unfolding read_at read_rest read_following short number_in
case-three-left = refl

case-length-1 : Told (1 ∷ 0 ∷ 0 ∷ 0 ∷ 1 ∷ []) 0 11
unfolding read_at read_rest read_following short number_in
case-length-1 = refl

case-kind-257 : Told (2 ∷ 0 ∷ 0 ∷ 0 ∷ 1 ∷ 1 ∷ []) 0 12
unfolding read_at read_rest read_following short number_in
case-kind-257 = refl

case-body-3 : Told (5 ∷ 0 ∷ 0 ∷ 0 ∷ 2 ∷ 0 ∷ 1 ∷ 1 ∷ 0 ∷ []) 0 13
unfolding read_at read_rest read_following short number_in
case-body-3 = refl

case-flag-2 : Told (6 ∷ 0 ∷ 0 ∷ 0 ∷ 2 ∷ 0 ∷ 3 ∷ 2 ∷ 0 ∷ 0 ∷ []) 0 13
unfolding read_at read_rest read_following short number_in fields_in
case-flag-2 = refl
