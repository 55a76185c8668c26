-- The starred examples of document 01, "Checked examples", as rows of one table: what a call answers and leaves by the
-- definitions, and what the paper says. Octets in hex, collation 3, table T.
-- An answer is a row of numbers: number, place, detail, and then the call's values.
-- Assumes nothing.
use Rattle.std.specs.Prelude.{ℕ, List, [], ◌∷◌, ◌++◌, replicate}
use Rattle.std.specs.Prelude.{Option, None, Some}
use Rattle.terms.specs.Collations.{collation_of}
use Rattle.terms.specs.Lists.{each}
use Rattle.terms.specs.Refusals.{Outcome, row}
use Rattle.table.specs.Table.{table}
use Rattle.decompose.specs.TableCheck.{table_answer}
use Rattle.keys.specs.Keys.{PreparedText}
use Rattle.pages.specs.Pages.{Pages}
use Rattle.prepare.specs.Calls.{Call, call, lent, prepared_in, call_refusal, answer_of, buffers_after}
use Rattle.prepare.specs.Preparing.{prepared_values}
use Rattle.compare.specs.Compare.{order_values}
use Rattle.search.specs.Substring.{sought_values}

-- ---- table T: code point, titlecase, start and count of each entry, and the pool

abbrev pub entries_t : List ℕ
entries_t =
    0x61 ∷ 0x41 ∷ 0 ∷ 0 ∷ 0x66 ∷ 0x46 ∷ 0 ∷ 0 ∷ 0x69 ∷ 0x49 ∷ 0 ∷ 0 ∷ 0x7A ∷ 0x5A ∷ 0 ∷ 0
    ∷ 0xC9 ∷ 0xC9 ∷ 0 ∷ 2 ∷ 0xE9 ∷ 0xC9 ∷ 2 ∷ 2 ∷ 0x17D ∷ 0x17D ∷ 4 ∷ 2 ∷ 0x17E ∷ 0x17D ∷ 6 ∷ 2
    ∷ 0x1C4 ∷ 0x1C5 ∷ 8 ∷ 2 ∷ 0x1C5 ∷ 0x1C5 ∷ 10 ∷ 2 ∷ 0x1C6 ∷ 0x1C5 ∷ 12 ∷ 2 ∷ 0xFB01 ∷ 0xFB01 ∷ 14 ∷ 2
    ∷ []

abbrev pub pool_t : List ℕ
pool_t =
    0x45 ∷ 0x301 ∷ 0x65 ∷ 0x301 ∷ 0x5A ∷ 0x30C ∷ 0x7A ∷ 0x30C
    ∷ 0x44 ∷ 0x17D ∷ 0x44 ∷ 0x17E ∷ 0x64 ∷ 0x17E ∷ 0x66 ∷ 0x69
    ∷ []

-- ---- what the calls answer and leave, by the definitions

-- a key buffer of six octets before a call
abbrev pub blank : List ℕ
blank = replicate 6 0xEE

-- an answer of n values as a row, and no row where there is no answer
abbrev pub row_of : ℕ → Option Outcome → List ℕ
row_of n None = []
row_of n (Some o) = row n o

-- what a call answers by its n values, and what it leaves in its key buffers, one after another
abbrev pub answering : ℕ → (Call → Option (List ℕ)) → Call → List ℕ
answering n values c = row_of n (answer_of (call_refusal c) (values c))

abbrev pub leaving : Call → List ℕ
leaving c = each (λ (b : List ℕ). b) (buffers_after (call_refusal c) c)

-- the keys of its texts, one after another
abbrev pub keys_in : Call → List ℕ
keys_in c = each (λ (p : PreparedText). p.key) (prepared_in c)

-- a call on one text, and on two, under collation 3 with table T, lent any pages
abbrev pub on_text : Pages → List ℕ → Call
on_text p text = call (collation_of 3) (table entries_t pool_t) p (lent text blank ∷ [])

abbrev pub on_texts : Pages → List ℕ → List ℕ → Call
on_texts p s t = call (collation_of 3) (table entries_t pool_t) p (lent s blank ∷ lent t blank ∷ [])

-- preparing a text: number, place, detail, valid, lookup count, length of the key, where it stands; then the key; then the
-- key buffer
abbrev pub preparing : Pages → List ℕ → List ℕ
preparing p text = answering 4 prepared_values (on_text p text) ++ keys_in (on_text p text) ++ leaving (on_text p text)

-- ordering two texts: number, place, detail, and 1 less, 2 equal, 3 greater
abbrev pub ordering : Pages → List ℕ → List ℕ → List ℕ
ordering p s t = answering 1 order_values (on_texts p s t)

-- seeking a text in another: number, place, detail, 1 match or 2 no-match, key start, key end, text start, text end
abbrev pub seeking : Pages → List ℕ → List ℕ → List ℕ
seeking p s t = answering 5 sought_values (on_texts p s t)

-- checking a table: number, place, detail
abbrev pub checking : List ℕ → List ℕ → List ℕ
checking entries pool = row 0 (table_answer (table entries pool))

-- ---- the rows

-- what is asked, and what the paper says
pub record Example : Type 0 where
  pub asked : List ℕ
  pub said : List ℕ

-- a row of the table
abbrev pub ◌gives◌ : List ℕ → List ℕ → Example
a gives s = record { asked = a; said = s }

infix 20 ◌gives◌
-- a text that is not refused: whether it is valid, the lookup count, the length of its key and where it stands (0 the text, 1
-- the buffer); the key; the key buffer
abbrev pub prepared : ℕ → ℕ → ℕ → ℕ → List ℕ → List ℕ → List ℕ
prepared valid count size place key buffer = 0 ∷ 0 ∷ 0 ∷ valid ∷ count ∷ size ∷ place ∷ key ++ buffer

-- the text 61 C3 A9, whose key is 41 45 CC 81
abbrev pub hay : List ℕ
hay = 0x61 ∷ 0xC3 ∷ 0xA9 ∷ []

unfoldable pub starred : Pages → List Example
starred p =
    (preparing p (0xC3 ∷ 0xA9 ∷ []) gives prepared 1 4 3 1 (0x45 ∷ 0xCC ∷ 0x81 ∷ []) (0x45 ∷ 0xCC ∷ 0x81 ∷ 0xEE ∷ 0xEE ∷ 0xEE ∷ []))
    ∷ (preparing p (0xC7 ∷ 0x84 ∷ [])
    gives prepared 1 6 4 1 (0x44 ∷ 0x7A ∷ 0xCC ∷ 0x8C ∷ []) (0x44 ∷ 0x7A ∷ 0xCC ∷ 0x8C ∷ 0xEE ∷ 0xEE ∷ []))
    ∷
    (preparing p (0xEF ∷ 0xAC ∷ 0x81 ∷ []) gives prepared 1 4 2 1 (0x66 ∷ 0x69 ∷ []) (0x66 ∷ 0x69 ∷ 0xEE ∷ 0xEE ∷ 0xEE ∷ 0xEE ∷ []))
    ∷ (preparing p [] gives prepared 1 0 0 1 [] blank)
    ∷ (preparing p (0xC3 ∷ []) gives prepared 0 0 1 0 (0xC3 ∷ []) blank)
    ∷ (preparing p (0xC0 ∷ 0x80 ∷ []) gives prepared 0 0 2 0 (0xC0 ∷ 0x80 ∷ []) blank)
    ∷ (ordering p (0x45 ∷ []) (0xC3 ∷ 0xA9 ∷ []) gives (0 ∷ 0 ∷ 0 ∷ 1 ∷ []))
    ∷ (ordering p (0xC3 ∷ []) (0xC3 ∷ 0xA9 ∷ []) gives (0 ∷ 0 ∷ 0 ∷ 3 ∷ []))
    ∷ (seeking p (0xCC ∷ 0x81 ∷ []) hay gives (0 ∷ 0 ∷ 0 ∷ 1 ∷ 2 ∷ 4 ∷ 1 ∷ 3 ∷ []))
    ∷ (seeking p (0x81 ∷ []) hay gives (0 ∷ 0 ∷ 0 ∷ 1 ∷ 3 ∷ 4 ∷ 1 ∷ 3 ∷ []))
    ∷ (seeking p [] hay gives (0 ∷ 0 ∷ 0 ∷ 1 ∷ 0 ∷ 0 ∷ 0 ∷ 0 ∷ []))
    ∷ (checking (0x41 ∷ 0x41 ∷ 0 ∷ 1 ∷ []) (0x41 ∷ []) gives (7 ∷ 0 ∷ 0 ∷ []))
    ∷ []
