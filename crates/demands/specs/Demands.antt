-- What the statements of the three demands speak of beside the definitions that the contracts cite: the checks of a call in a
-- row and the first that applies, the order of keys, a hit, a table that calls of the builder have grown, a prepared text,
-- bounds. What each refusal number means stands in Faults.antt, the table that attains the bounds in Widest.antt.
-- Assumes nothing.
use Rattle.terms.specs.declared.KeyPosition.{KeyPosition}
use Rattle.terms.specs.declared.TextPosition.{TextPosition}
use Rattle.search.specs.Substring.{Sought}
use Rattle.std.specs.Prelude.{Ok, Err}
use Rattle.std.specs.Prelude.{◌≡◌, ℕ, suc, ◌+◌, ◌*◌, ◌≤◌, ◌<◌, ◌⊎◌, true, cond, List, [], ◌∷◌, ◌++◌, length, take, drop, replicate}
use Rattle.std.specs.Prelude.{Option, None, Some}
use Rattle.terms.specs.Lists.{each, over}
use Rattle.terms.specs.Refusals.{refusal}
use Rattle.terms.specs.declared.Collation.{Collation}
use Rattle.terms.specs.declared.Refusal.{Refusal}
use Rattle.hangul.specs.Hangul.{syllable, syllable_parts}
use Rattle.table.specs.Mapping.{Mapping}
use Rattle.table.specs.Table.{Table, refused_at, form_checks, mapping_of}
use Rattle.utf8.specs.Utf8.{Character, characters}
use Rattle.decompose.specs.Steps.{StepsGive}
use Rattle.decompose.specs.TableCheck.{level_fault, table_refusal}
use Rattle.keys.specs.Keys.{PreparedText, key_of}
use Rattle.keys.specs.declared.Summary.{Summary}
use Rattle.pages.specs.Pages.{Pages}
use Rattle.prepare.specs.Calls.{Lent, Call, lengths, prepared_in, collation_check, length_check, table_check}
use Rattle.prepare.specs.Calls.{pages_check, room_check}
use Rattle.search.specs.Covering.{span}
use Rattle.search.specs.Substring.{text_run}
use Rattle.ucd.specs.Lines.{Properties, LineSays}
use Rattle.builder.specs.Builder.{Built, built, Added}
use Rattle.builder.specs.Built.{properties_mapping}
use Rattle.builder.specs.declared.LineState.{LineState}

-- ---- refusals

-- "the first that applies is given": a check of the row gives x, and those before it give nothing
pub record FirstApplies (checks : List (Option Refusal)) (x : Refusal) : Type 0 where
  pub passed : ℕ
  pub rest : List (Option Refusal)
  pub row : checks ≡ replicate passed None ++ Some x ∷ rest

-- the checks of a table: 3, 4, 5, 6, 7
abbrev pub table_checks : Table → List (Option Refusal)
table_checks t = form_checks t ++ refused_at 7 (level_fault t) ∷ []

-- 2 for each text in its order, numbered from a place
abbrev pub length_row : ℕ → List ℕ → List (Option Refusal)
length_row place [] = []
length_row place (n ∷ ns) = length_check place n ∷ length_row (suc place) ns

-- 8 for each text in its order
abbrev pub room_row : ℕ → List Lent → List PreparedText → List (Option Refusal)
room_row place (l ∷ ls) (p ∷ ps) = room_check place (length l.buffer) p ∷ room_row (suc place) ls ps
room_row place [] ps = []
room_row place (l ∷ ls) [] = []

-- the checks of a call on texts: 1; 2 (first text, then second); 3 to 7 and 15 where the collation reads the table; 8 (first
-- key, then second)
abbrev pub call_checks : Call → List (Option Refusal)
call_checks c =
    collation_check c.collation
    ∷ length_row 1 (lengths c)
    ++ table_check c.collation c.table
    ∷ pages_check c.collation c.pages
    ∷ room_row 1 c.lents (prepared_in c)

-- 15: "a page slice under 17,408 long"
abbrev pub ShortPages : Pages → Type 0
ShortPages p = (length p.presence < 17408) ⊎ (length p.ranks < 17408)

-- a number of a collation
abbrev pub CollationNumber : ℕ → Type 0
CollationNumber k = (k ≡ 1) ⊎ ((k ≡ 2) ⊎ (k ≡ 3))

-- ---- keys and their order

-- "octet by octet, unsigned; a proper prefix is less": one key precedes another
pub data Precedes : List ℕ → List ℕ → Type 0 where
  proper-prefix : {b : ℕ} {ys : List ℕ} → Precedes [] (b ∷ ys)
  lower : {a b : ℕ} {xs ys : List ℕ} → a < b → Precedes (a ∷ xs) (b ∷ ys)
  later : {a : ℕ} {xs ys : List ℕ} → Precedes xs ys → Precedes (a ∷ xs) (a ∷ ys)

-- ---- substring

-- the needle stands in the hay from place i on
abbrev pub OccursAt : List ℕ → List ℕ → ℕ → Type 0
OccursAt needle hay i = take (length needle) (drop i hay) ≡ needle

-- "the first occurrence in the key": the key of the text s stands in that of the text t from octet a up to b, first there, and
-- c up to d is the run of t for it
pub record Hit (k : Collation) (m : Mapping) (s t : List ℕ) (a b c d : ℕ) : Type 0 where
  pub occurs : OccursAt (key_of k m s) (key_of k m t) a
  pub nowhere-lower : (i : ℕ) → i < a → OccursAt (key_of k m s) (key_of k m t) i → ⊥
  pub upto : b ≡ a + length (key_of k m s)
  pub run : span c d ≡ text_run k m t (span a b)

-- ---- the builder

-- calls of `add_line` with these lines in turn took the state and slices from the one to the other, "with nothing altered between
-- calls"; the second list has those that a call answered Taken, in their order: "the lines accepted"
pub data Grows : Built → List (List ℕ) → List (List ℕ) → Built → Type 0 where
  no_call : {b : Built} → Grows b [] [] b
  taken : {b c : Built} {line : List ℕ} {lines accepted : List (List ℕ)} {st : LineState} {es pool : List ℕ}
      → Added b line (Ok st) es pool
      → Grows (built st es pool) lines accepted c
      → Grows b (line ∷ lines) (line ∷ accepted) c
  not_taken : {b c : Built} {line : List ℕ} {lines accepted : List (List ℕ)} {x : Refusal} {st : LineState} {es pool : List ℕ}
      → Added b line (Err (record { refusal = x; state = st })) es pool
      → Grows (built st es pool) lines accepted c
      → Grows b (line ∷ lines) accepted c

-- what each of some lines says, in their order
pub data SayEach : List (List ℕ) → List Properties → Type 0 where
  no_line : SayEach [] []
  one_line : {line : List ℕ} {lines : List (List ℕ)} {p : Properties} {ps : List Properties}
      → LineSays line p → SayEach lines ps → SayEach (line ∷ lines) (p ∷ ps)

-- a mapping is that of what some lines say
pub record HoldsSaid (m : Mapping) (lines : List (List ℕ)) : Type 0 where
  pub said : List Properties
  pub says : SayEach lines said
  pub holds : m ≡ properties_mapping said

-- ---- texts and buffers

-- texts of at most 4,096 octets, each with a key buffer of 128 times its length
abbrev pub EachRoomy : List Lent → Type 0
EachRoomy [] = Unit {0}
EachRoomy (l ∷ ls) = ((length l.text ≤ 4096) × (128 * length l.text ≤ length l.buffer)) × EachRoomy ls

-- ---- preparation, of characters of a valid text

-- a summary and a shown key "exactly the key of those steps and .. exactly as many lookups as they make"
pub record Exact (m : Mapping) (chs : List Character) (s : Summary) (shown : List ℕ) : Type 0 where
  pub valid : s.valid ≡ true
  pub steps : StepsGive m chs shown s.lookups
  pub size : s.key_length ≡ length shown

-- a key buffer afterwards: "the key of those steps", over what was there
pub record KeyLeft (m : Mapping) (chs : List Character) (buffer after : List ℕ) : Type 0 where
  pub key : List ℕ
  pub lookups : ℕ
  pub steps : StepsGive m chs key lookups
  pub left : after ≡ over key buffer

-- a refusal at a place: "One refused for its key buffer names that key's length", and the buffer is shorter
pub record Short (m : Mapping) (chs : List Character) (place : ℕ) (buffer : List ℕ) (x : Refusal) : Type 0 where
  pub key : List ℕ
  pub lookups : ℕ
  pub steps : StepsGive m chs key lookups
  pub names : x ≡ refusal 8 place (length key)
  pub shorter : length buffer < length key

-- "the published steps make at most 258 n lookups and give a key of at most 128 n octets", on n characters
pub record Bounds (m : Mapping) (chs : List Character) : Type 0 where
  pub key : List ℕ
  pub lookups : ℕ
  pub steps : StepsGive m chs key lookups
  pub asked : lookups ≤ 258 * length chs
  pub octets : length key ≤ 128 * length chs

-- a table is accepted, and on a valid text of these characters, one of them, the published steps make just so many lookups
-- and give a key of just so many octets
pub record Attained (t : Table) (text : List ℕ) (chs : List Character) (asked octets : ℕ) : Type 0 where
  pub accepted : table_refusal t ≡ None
  pub valid : characters text ≡ Some chs
  pub one : length chs ≡ 1
  pub key : List ℕ
  pub steps : StepsGive (mapping_of t) chs key asked
  pub size : length key ≡ octets

-- ---- syllables (request 4)

-- a name with each syllable written in its jamo
abbrev pub in_jamo : List ℕ → List ℕ
in_jamo cs = each (λ c. cond (syllable c) (syllable_parts c) (c ∷ [])) cs

-- ---- hits

-- a substring was found: where it stands in the key, and the run of the text that covers it
abbrev pub hit_at : KeyPosition → KeyPosition → TextPosition → TextPosition → Sought
hit_at a b c d = Ok (Some (record { key_start = a; key_end = b; text_start = c; text_end = d }))
