-- Records in words (document 02, request 2): what a call of the reader gives, calls one after another, and the refusals 11,
-- 12, 13 and 8 as types that a reader can hold beside the paper.
-- Assumes nothing.
use Rattle.std.specs.Prelude.{Result, Ok, Err}
use Rattle.terms.specs.declared.Refusal.{Refusal}
use Rattle.std.specs.Prelude.{◌≡◌, ℕ, ◌-◌, ◌*◌, ◌≤◌, ◌<◌, ◌⊎◌, List, [], ◌∷◌, length, drop}
use Rattle.std.proofs.Math.Seq.{slice}
use Rattle.terms.specs.declared.RecordPosition.{RecordPosition}
use Rattle.records.specs.Items.{rules, Item, of_text, of_key, record_of}
use Rattle.records.specs.Reading.{said_length, following, kind_in, body_in, fields_in, read_at, reading_outcome, record_outcome}
use Rattle.records.specs.Writing.{Writes}
use Rattle.records.specs.declared.KeyFields.{KeyFields}
use Rattle.records.specs.declared.Record.{Record}
use Rattle.records.specs.declared.Record.TheVariants.{End, Text, Key}
use Rattle.demands.specs.Demands.{CollationNumber}
use Rattle.demands.specs.Faults.{Fault, fault, plain}

-- ---- calls

-- a call of `read_record` on the slice s at position p answered x: its contract
abbrev pub ReadCall : List ℕ → ℕ → Result Record Refusal → Type 0
ReadCall s p x = record_outcome x ≡ reading_outcome (read_at rules s p)

-- the answer x gives an item of the slice s, whose octets stand where it says, and the next position
abbrev pub GivesItem : List ℕ → Result Record Refusal → Item → ℕ → Type 0
GivesItem s (Ok End) i next = ⊥
GivesItem s (Ok (Text start stop)) i next = (i ≡ of_text (slice start.0 stop.0 s)) × (next ≡ stop.0)
GivesItem s (Ok (Key f start stop)) i next = (i ≡ of_key f (slice start.0 stop.0 s)) × (next ≡ stop.0)
GivesItem s (Err x) i next = ⊥

-- calls of the reader on s, the first at position p and each other at the next position of the one before, gave these items, and
-- next comes position q
pub data ReadsEach (s : List ℕ) : ℕ → List Item → ℕ → Type 0 where
  read_none : {p : ℕ} → ReadsEach s p [] p
  read_one : {p next q : ℕ} {i : Item} {items : List Item} (x : Result Record Refusal)
      → ReadCall s p x
      → GivesItem s x i next
      → ReadsEach s next items q
      → ReadsEach s p (i ∷ items) q

-- calls of the writer, the first on the slice s at position p and each other on what the one before left, at the position that it
-- answered, wrote these items; the last left t and answered q
pub data WritesEach : List ℕ → ℕ → List Item → List ℕ → ℕ → Type 0 where
  wrote_none : {s : List ℕ} {p : ℕ} → WritesEach s p [] s p
  wrote_one : {s t u : List ℕ} {p q : ℕ} {next : RecordPosition} {i : Item} {items : List Item}
      → Writes i p s (Ok next) t
      → WritesEach t next.0 items u q
      → WritesEach s p (i ∷ items) u q

-- ---- keys

-- what a record says of the key of a text: the number of the collation, the flag, and the text's length
abbrev pub fields_for : ℕ → ℕ → List ℕ → KeyFields
fields_for n flag text = record { collation = n; valid = flag; text_length = length text }

-- ---- refusals

-- 13 of a key's flag: "1 if the text was valid under it else 0 (always 1 for collations 1 and 2)"
abbrev pub WrongFlag : KeyFields → Type 0
WrongFlag f = ((f.valid ≡ 0 → ⊥) × (f.valid ≡ 1 → ⊥)) ⊎ ((f.valid ≡ 0) × ((f.collation ≡ 1) ⊎ (f.collation ≡ 2)))

-- "the flag is 0, or under collations 1 and 2"
abbrev pub LikeText : KeyFields → Type 0
LikeText f = (f.valid ≡ 0) ⊎ (f.collation ≡ 1) ⊎ (f.collation ≡ 2)

-- 13 of a key's length n: then "key and text length agree; otherwise the key has at most 128 times the text length"
abbrev pub WrongLength : KeyFields → ℕ → Type 0
WrongLength f n =
    (LikeText f × (n ≡ f.text_length → ⊥))
    ⊎ ((LikeText f → ⊥) × (128 * f.text_length < n))

-- 13 of a key of n octets: "text length over the limit, .. or collation, flag or lengths not as above"
abbrev pub WrongKey : KeyFields → ℕ → Type 0
WrongKey f n =
    (4096 < f.text_length) ⊎ (CollationNumber f.collation → ⊥) ⊎ WrongFlag f ⊎ WrongLength f n

-- 13 of an item: "a text .. over the limit" or such a key
abbrev pub Unfit : Item → Type 0
Unfit (of_text t) = 4096 < length t
Unfit (of_key f k) = WrongKey f (length k)

-- the octets from position p on
abbrev pub rest_at : List ℕ → ℕ → List ℕ
rest_at s p = drop p s

-- what follows their length
abbrev pub following_at : List ℕ → ℕ → List ℕ
following_at s p = following (drop p s)

-- 11: "fewer octets left than four or than the length says, or a length below 2"; past the end none are left
abbrev pub TooFew : List ℕ → ℕ → Type 0
TooFew s p =
    (length s - p < 4) ⊎ (length s - p - 4 < said_length (rest_at s p)) ⊎ (said_length (rest_at s p) < 2)

-- 12: "kind unknown"
abbrev pub UnknownKind : List ℕ → ℕ → Type 0
UnknownKind s p = (kind_in (following_at s p) ≡ 1 → ⊥) × (kind_in (following_at s p) ≡ 2 → ⊥)

-- 13 in a slice: a text that is too long; "a key body below four octets", or one of a key that is unfit
abbrev pub WrongBody : ℕ → List ℕ → Type 0
WrongBody kind body =
    ((kind ≡ 1) × (4096 < length body))
    ⊎ ((kind ≡ 2) × ((length body < 4) ⊎ ((4 ≤ length body) × WrongKey (fields_in body) (length body - 4))))

-- 11 of reading
abbrev pub fault11 : List ℕ → ℕ → Fault
fault11 s p = plain 11 (TooFew s p)

-- 12
abbrev pub fault12 : List ℕ → ℕ → Fault
fault12 s p = plain 12 (UnknownKind s p)

-- and 13
abbrev pub fault13 : List ℕ → ℕ → Fault
fault13 s p = plain 13 (WrongBody (kind_in (following_at s p)) (body_in (following_at s p)))

-- "reading checks 11, 12, 13"
abbrev pub read_faults : List ℕ → ℕ → List Fault
read_faults s p = fault11 s p ∷ fault12 s p ∷ fault13 s p ∷ []

-- "8 no room (detail the whole record)", of octets in a slice of n at position p; past the end there is none
abbrev pub NoRoom : Item → ℕ → ℕ → ℕ → Type 0
NoRoom i p n d = (d ≡ length (record_of i)) × (n - p < length (record_of i))

-- "writing 13, 8"
abbrev pub write_faults : Item → ℕ → ℕ → List Fault
write_faults i p n = plain 13 (Unfit i) ∷ fault 8 (NoRoom i p n) ∷ []
