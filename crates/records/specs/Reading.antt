-- Reading the record at a position of a slice (document 02, request 2): the end, a refusal, or an item and the next position.
-- Assumes nothing.
use Rattle.std.specs.Prelude.{ℕ, ◌+◌, ◌-◌, Bool, cond, ◌&&◌, ◌||◌, List, [], ◌∷◌, eqb, leb, ltb, length, take, drop, replicate}
use Rattle.std.specs.Prelude.{Option, None, Some, Result}
use Rattle.terms.specs.Refusals.{refusal, Outcome, outcome, refused, gives}
use Rattle.terms.specs.declared.Refusal.{Refusal}
use Rattle.records.specs.Numbers.{number_in}
use Rattle.records.specs.Items.{Rules, Item, of_text, of_key, among, fits}
use Rattle.records.specs.declared.KeyFields.{KeyFields}
use Rattle.records.specs.declared.Record.{Record}
use Rattle.records.specs.declared.Record.TheVariants.{End, Text, Key}

-- what reading gives
pub data Reading : Type 0 where
  -- "at its end the reader says so"
  end : Reading
  stopped : Refusal → Reading
  -- an item, and the position after its record
  item : Item → ℕ → Reading

-- ---- the octets from the position on

-- the length that they begin with
abbrev pub said_length : List ℕ → ℕ
said_length rest = number_in (take 4 rest)

-- 11: "fewer octets left than four or than the length says, or a length below 2"
unfoldable pub short : List ℕ → Bool
short rest = ltb (length rest) 4 || ltb (length rest - 4) (said_length rest) || ltb (said_length rest) 2

-- what follows the length, as much as it says
abbrev pub following : List ℕ → List ℕ
following rest = take (said_length rest) (drop 4 rest)

-- ---- what follows the length

-- its kind
abbrev pub kind_in : List ℕ → ℕ
kind_in octets = number_in (take 2 octets)

-- and its body
abbrev pub body_in : List ℕ → List ℕ
body_in octets = drop 2 octets

-- collation, flag and text length of the body of a key
unfoldable pub fields_in : List ℕ → KeyFields
fields_in body = record {
  collation = number_in (take 1 body);
  valid = number_in (take 1 (drop 1 body));
  text_length = number_in (take 2 (drop 2 body));
}

-- the item of a kind and a body, if there is one: there is none in "a key body below four octets", nor in a kind that is not
-- known, which is refused before
abbrev pub item_in : ℕ → List ℕ → Option Item
item_in kind body =
    cond (eqb kind 1)
    (Some (of_text body))
    (cond (eqb kind 2 && leb 4 (length body)) (Some (of_key (fields_in body) (drop 4 body))) None)

-- ---- reading

-- 13, or the item with the next position
abbrev pub judged : Rules → ℕ → Option Item → Reading
judged r next None = stopped (refusal 13 0 0)
judged r next (Some i) = cond (fits r i) (item i next) (stopped (refusal 13 0 0))

-- 12, "kind unknown", and else 13 or the item, of what follows the length
unfoldable pub read_following : Rules → ℕ → List ℕ → Reading
read_following r next octets =
    cond (among (kind_in octets) r.kinds)
    (judged r next (item_in (kind_in octets) (body_in octets)))
    (stopped (refusal 12 0 0))

-- "reading checks 11, 12, 13", of the octets from the position p on
unfoldable pub read_rest : Rules → ℕ → List ℕ → Reading
read_rest r p rest =
    cond (short rest) (stopped (refusal 11 0 0)) (read_following r (p + 4 + said_length rest) (following rest))

-- reading at a position: "at its end the reader says so, past it is 11"
unfoldable pub read_at : Rules → List ℕ → ℕ → Reading
read_at r slice p = cond (eqb p (length slice)) end (read_rest r p (drop p slice))

-- ---- the answer in the paper's numbers

-- the answer: what is there (0 the end, else the kind), collation, flag and text length of a key, else 0, and where the octets
-- of the text or the key begin and end; the end is the next position
abbrev pub reading_outcome : Reading → Outcome
reading_outcome end = gives (replicate 6 0)
reading_outcome (stopped x) = refused x
reading_outcome (item (of_text t) next) = gives (1 ∷ 0 ∷ 0 ∷ 0 ∷ (next - length t) ∷ next ∷ [])
reading_outcome (item (of_key f k) next) =
    gives (2 ∷ f.collation ∷ f.valid ∷ f.text_length ∷ (next - length k) ∷ next ∷ [])

-- the same of what `read_record` answers
abbrev pub record_values : Record → List ℕ
record_values End = replicate 6 0
record_values (Text start stop) = 1 ∷ 0 ∷ 0 ∷ 0 ∷ start.0 ∷ stop.0 ∷ []
record_values (Key f start stop) = 2 ∷ f.collation ∷ f.valid ∷ f.text_length ∷ start.0 ∷ stop.0 ∷ []

abbrev pub record_outcome : Result Record Refusal → Outcome
record_outcome r = outcome record_values r
