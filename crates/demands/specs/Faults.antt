-- Refusals in words: a row of faults, each with its number and the detail with which it applies, and the first that does. The
-- rows of a table (3 to 7) and of a line (28, 20 to 27 and 29), each sentence of the papers as a type that a reader can hold
-- beside it.
-- Assumes nothing.
use Rattle.std.specs.Prelude.{◌≡◌, ℕ, suc, ◌+◌, ◌%◌, ◌≤◌, ◌<◌, ◌⊎◌, List, [], ◌∷◌, ◌++◌, length, get_or}
use Rattle.std.specs.Prelude.{None}
use Rattle.terms.specs.Lists.{In}
use Rattle.table.specs.Layout.{entry_count, code_at, title_at, start_at, count_at}
use Rattle.table.specs.Table.{Table, counts_below}
use Rattle.decompose.specs.TableCheck.{LowestUnsound, SyllableUnsound}
use Rattle.ucd.specs.Fields.{semicolons, field, code_point, decomposition}
use Rattle.ucd.specs.Lines.{Properties, LineSays}
use Rattle.builder.specs.Builder.{Built}

-- ---- rows

-- a fault: its number, and when it applies with which detail
pub record Fault : Type 1 where
  pub number : ℕ
  pub applies : ℕ → Type 0

-- a fault by its number and detail
abbrev pub fault : ℕ → (ℕ → Type 0) → Fault
fault n applies = record { number = n; applies = applies }

-- a fault whose detail is 0: "a detail (0 if not said)"
abbrev pub plain : ℕ → Type 0 → Fault
plain n applies = fault n (λ d. (d ≡ 0) × applies)

-- none of the faults applies, with any detail
abbrev pub Clear : List Fault → Type 0
Clear [] = Unit {0}
Clear (f ∷ fs) = ((d : ℕ) → f.applies d → ⊥) × Clear fs

-- "the first that applies is given": number n with detail d is the first fault of a row, and those before it don't apply
abbrev pub FirstFault : List Fault → ℕ → ℕ → Type 0
FirstFault [] n d = ⊥
FirstFault (f ∷ fs) n d = ((f.number ≡ n) × f.applies d) ⊎ (((e : ℕ) → f.applies e → ⊥) × FirstFault fs n d)

-- the lowest number below n of which something holds: "lowest such entry", "its lowest index"
pub record LowestAt (holds : ℕ → Type 0) (n i : ℕ) : Type 0 where
  pub below : i < n
  pub here : holds i
  pub lower : (j : ℕ) → j < i → holds j → ⊥

-- ---- code points

-- "D800 to DFFF"
abbrev pub Surrogate : ℕ → Type 0
Surrogate c = (0xD800 ≤ c) × (c ≤ 0xDFFF)

-- "Scalar means at most 10FFFF hex and not D800 to DFFF"
abbrev pub Scalar : ℕ → Type 0
Scalar c = (c ≤ 0x10FFFF) × (Surrogate c → ⊥)

-- "AC00 to D7A3", the syllables of request 4
abbrev pub Syllable : ℕ → Type 0
Syllable c = (0xAC00 ≤ c) × (c ≤ 0xD7A3)

-- ---- a table

-- 3: "entry slice not a multiple of 4 long, over 16,384 entries, or pool over 65,536"
abbrev pub WrongSize : Table → Type 0
WrongSize t =
    (length t.entries % 4 ≡ 0 → ⊥)
    ⊎ (16384 < entry_count t.entries)
    ⊎ (65536 < length t.pool)

-- the code point of an entry is "not above the entry before"
abbrev pub NotAbove : List ℕ → ℕ → Type 0
NotAbove es i = (j : ℕ) × (i ≡ suc j) × (code_at es i ≤ code_at es j)

-- 4: "an entry's code point or titlecase not scalar, or its code point not above the entry before", or "an entry for a code
-- point in that range", a syllable
abbrev pub WrongCode : List ℕ → ℕ → Type 0
WrongCode es i =
    (Scalar (code_at es i) → ⊥)
    ⊎ (Scalar (title_at es i) → ⊥)
    ⊎ Syllable (code_at es i)
    ⊎ NotAbove es i

-- 5: "an entry with count over 32, wrong start, parts past the pool's end, or saying nothing"
abbrev pub WrongEntry : Table → ℕ → Type 0
WrongEntry t i =
    (32 < count_at t.entries i)
    ⊎ (start_at t.entries i ≡ counts_below t.entries i → ⊥)
    ⊎ (length t.pool < start_at t.entries i + count_at t.entries i)
    ⊎ ((title_at t.entries i ≡ code_at t.entries i) × (count_at t.entries i ≡ 0))

-- 5, with its detail: "lowest such entry; if no entry is faulty, the number of entries", where the "pool [is] longer than all
-- counts"
abbrev pub WrongEntries : Table → ℕ → Type 0
WrongEntries t i =
    let n = entry_count t.entries in
    LowestAt (WrongEntry t) n i
    ⊎ ((i ≡ n) × ((j : ℕ) → j < n → WrongEntry t j → ⊥) × (counts_below t.entries n < length t.pool))

-- 6: "a pool number not scalar"
abbrev pub WrongNumber : List ℕ → ℕ → Type 0
WrongNumber pool j = Scalar (get_or pool j 0) → ⊥

-- 7, with its detail: "an entry whose code point has no level, a level over 8, or a full decomposition over 32 code points", the
-- "lowest such entry"; "if no entry is at fault but a syllable is, the detail is the number of entries"
abbrev pub Unsound : Table → ℕ → Type 0
Unsound t i = LowestUnsound t i ⊎ SyllableUnsound t i

-- 3 to 7
abbrev pub fault3 : Table → Fault
fault3 t = plain 3 (WrongSize t)

abbrev pub fault4 : Table → Fault
fault4 t = fault 4 (LowestAt (WrongCode t.entries) (entry_count t.entries))

abbrev pub fault5 : Table → Fault
fault5 t = fault 5 (WrongEntries t)

abbrev pub fault6 : Table → Fault
fault6 t = fault 6 (LowestAt (WrongNumber t.pool) (length t.pool))

abbrev pub fault7 : Table → Fault
fault7 t = fault 7 (Unsound t)

-- the form, and the whole row of a table
abbrev pub form_faults : Table → List Fault
form_faults t = fault3 t ∷ fault4 t ∷ fault5 t ∷ fault6 t ∷ []

abbrev pub table_faults : Table → List Fault
table_faults t = fault3 t ∷ fault4 t ∷ fault5 t ∷ fault6 t ∷ fault7 t ∷ []

-- ---- a line

-- more than the slices hold "in whole entries", or than "the limits of 3"
abbrev pub TooMany : Table → ℕ → ℕ → Type 0
TooMany t used filled =
    (entry_count t.entries < used)
    ⊎ (16384 < used)
    ⊎ (length t.pool < filled)
    ⊎ (65536 < filled)

-- 28: "state impossible (more used than the slices hold, in whole entries, over the limits of 3, or last above 110000 hex)"
abbrev pub Impossible : Built → Type 0
Impossible b = TooMany b.table b.state.entries_used b.state.pool_used ⊎ (0x110000 < b.state.next)

-- 21: "not exactly 14 semicolons"
abbrev pub WrongSemicolons : List ℕ → Type 0
WrongSemicolons line = semicolons line ≡ 14 → ⊥

-- 29 of field 12, 24 of field 14: a field that may be empty is not, and writes no code point
abbrev pub MalformedField : ℕ → List ℕ → Type 0
MalformedField i line = (field i line ≡ [] → ⊥) × (code_point (field i line) ≡ None)

-- "a line with a mapping": not one of those "that say nothing (no parts, titlecase none or itself)"
abbrev pub HasMapping : Properties → Type 0
HasMapping p = (p.title ≡ p.code) × (p.parts ≡ []) → ⊥

-- one of some code points is a surrogate
pub record HasSurrogate (codes : List ℕ) : Type 0 where
  pub code : ℕ
  pub among : In code codes
  pub surrogate : Surrogate code

-- of a code point, the titlecase that is taken for it and its parts: one of them is a surrogate, or the code point is a syllable
abbrev pub Barred : ℕ → ℕ → List ℕ → Type 0
Barred c t ps = HasSurrogate (c ∷ t ∷ ps) ⊎ Syllable c

-- 25: "a line with a mapping has a surrogate in field 0, 5 or 14", or in 12 where that is taken; "and a line with a mapping for
-- one", a syllable, "gets 25"
pub record SaysBarred (line : List ℕ) : Type 0 where
  pub said : Properties
  pub says : LineSays line said
  pub mapping : HasMapping said
  pub barred : Barred said.code said.title said.parts

-- the same of a code point, the titlecase that is taken for it and its parts
pub record MapsBarred (c t : ℕ) (ps : List ℕ) : Type 0 where
  pub mapping : (t ≡ c) × (ps ≡ []) → ⊥
  pub barred : Barred c t ps

-- 26: "code point not above the last"
pub record SaysEarlier (b : Built) (line : List ℕ) : Type 0 where
  pub said : Properties
  pub says : LineSays line said
  pub earlier : said.code < b.state.next

-- 27: "no room for the entry or its parts, or a limit of 3 passed"
pub record SaysTooMuch (b : Built) (line : List ℕ) : Type 0 where
  pub said : Properties
  pub says : LineSays line said
  pub mapping : HasMapping said
  pub crowded : TooMany b.table (b.state.entries_used + 1) (b.state.pool_used + length said.parts)

-- 28, 20 to 27 and 29
abbrev pub fault28 : Built → Fault
fault28 b = plain 28 (Impossible b)

-- "line over 512 octets"
abbrev pub fault20 : List ℕ → Fault
fault20 line = plain 20 (512 < length line)

abbrev pub fault21 : List ℕ → Fault
fault21 line = plain 21 (WrongSemicolons line)

-- "22, 23, 24 field 0, 5, 14 malformed"
abbrev pub fault22 : List ℕ → Fault
fault22 line = plain 22 (code_point (field 0 line) ≡ None)

abbrev pub fault23 : List ℕ → Fault
fault23 line = plain 23 (decomposition (field 5 line) ≡ None)

-- "29, field 12 malformed, checked even when 14 is filled"
abbrev pub fault29 : List ℕ → Fault
fault29 line = plain 29 (MalformedField 12 line)

abbrev pub fault24 : List ℕ → Fault
fault24 line = plain 24 (MalformedField 14 line)

abbrev pub fault25 : List ℕ → Fault
fault25 line = plain 25 (SaysBarred line)

abbrev pub fault26 : Built → List ℕ → Fault
fault26 b line = plain 26 (SaysEarlier b line)

abbrev pub fault27 : Built → List ℕ → Fault
fault27 b line = plain 27 (SaysTooMuch b line)

-- 20 to 24, of the line alone, with 29 "between 23 and 24"
abbrev pub reading_faults : List ℕ → List Fault
reading_faults line = fault20 line ∷ fault21 line ∷ fault22 line ∷ fault23 line ∷ fault29 line ∷ fault24 line ∷ []

-- the whole row of a line: "In this order .."
abbrev pub line_faults : Built → List ℕ → List Fault
line_faults b line = fault28 b ∷ reading_faults line ++ fault25 line ∷ fault26 b line ∷ fault27 b line ∷ []
