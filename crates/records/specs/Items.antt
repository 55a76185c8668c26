-- What records hold and how they are written (document 02, request 2). The longest text and the kinds are those of
-- `Rules`, so that an older and a newer reader can be spoken of at once; that a record is read as it was written is shown for
-- `rules`, whose text lengths have two octets.
-- Assumes nothing.
use Rattle.std.specs.Prelude.{ℕ, ◌*◌, Bool, false, cond, ◌&&◌, ◌||◌, not, List, [], ◌∷◌, ◌++◌, eqb, leb, length}
use Rattle.std.specs.Prelude.{Option, None, Some}
use Rattle.terms.specs.Collations.{collation_of, reads_table}
use Rattle.terms.specs.Refusals.{text_most, expansion_most}
use Rattle.terms.specs.declared.Collation.{Collation}
use Rattle.records.specs.Numbers.{little_endian}
use Rattle.records.specs.declared.KeyFields.{KeyFields}

-- ---- the rules

-- what readers and writers take: the longest text, in octets, and the kinds of record there are
pub record Rules : Type 0 where
  pub longest : ℕ
  pub kinds : List ℕ

-- "Kind 1 is a text. Kind 2 is a key"; texts are those of document 01
abbrev pub rules : Rules
rules = record { longest = text_most; kinds = 1 ∷ 2 ∷ [] }

-- a list has texts alone (request 3: "a kind 2 record is 12")
abbrev pub list_rules : Rules
list_rules = record { longest = text_most; kinds = 1 ∷ [] }

-- a number is one of a list
abbrev pub among : ℕ → List ℕ → Bool
among n [] = false
among n (m ∷ ms) = eqb n m || among n ms

-- the collation that a record may name by a number
abbrev pub record_collation : ℕ → Option Collation
record_collation k = collation_of k

-- ---- items

-- what a record holds: a text, or a key with its collation, its flag and the length of its text
pub data Item : Type 0 where
  of_text : List ℕ → Item
  of_key : KeyFields → List ℕ → Item

-- "1 if the text was valid under it else 0 (always 1 for collations 1 and 2)"
abbrev pub flag_fits : Collation → ℕ → Bool
flag_fits c flag = eqb flag 1 || (eqb flag 0 && reads_table c)

-- "If the flag is 0, or under collations 1 and 2, key and text length agree; otherwise the key has at most 128 times the text
-- length", of a key of n octets
abbrev pub length_fits : Collation → KeyFields → ℕ → Bool
length_fits c f n =
    cond (eqb f.valid 0 || not (reads_table c))
    (eqb n f.text_length)
    (leb n (expansion_most * f.text_length))

-- collation, flag and lengths are as above
abbrev pub agrees : Option Collation → KeyFields → ℕ → Bool
agrees None f n = false
agrees (Some c) f n = flag_fits c f.valid && length_fits c f n

-- a key of n octets with these fields can stand in a record
abbrev pub key_fits : Rules → KeyFields → ℕ → Bool
key_fits r f n = leb f.text_length r.longest && agrees (record_collation f.collation) f n

-- an item can stand in a record; if not it is refused with 13: "a text or text length over the limit .. or collation, flag or
-- lengths not as above"
abbrev pub fits : Rules → Item → Bool
fits r (of_text t) = leb (length t) r.longest
fits r (of_key f k) = key_fits r f (length k)

-- ---- records

-- the kind of an item
abbrev pub kind_of : Item → ℕ
kind_of (of_text t) = 1
kind_of (of_key f k) = 2

-- "collation (1 octet), 1 if the text was valid under it else 0 .., text length (2 octets)"
unfoldable pub field_octets : KeyFields → List ℕ
field_octets f = little_endian 1 f.collation ++ little_endian 1 f.valid ++ little_endian 2 f.text_length

-- the body of an item's record
abbrev pub body_of : Item → List ℕ
body_of (of_text t) = t
body_of (of_key f k) = field_octets f ++ k

-- octets after their length: "a four-octet length (of what follows it)"
abbrev pub with_length : List ℕ → List ℕ
with_length octets = little_endian 4 (length octets) ++ octets

-- "a two-octet kind, a body" after their length
unfoldable pub framed : ℕ → List ℕ → List ℕ
framed kind body = with_length (little_endian 2 kind ++ body)

-- the record of an item
abbrev pub record_of : Item → List ℕ
record_of i = framed (kind_of i) (body_of i)
