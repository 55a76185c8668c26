-- A prepared text by its numbers, the key that these show, and what the contracts of the crate say with them.
-- Assumes nothing.
use Rattle.std.specs.Prelude.{◌≡◌, ℕ, ◌/◌, Bool, true, false, cond, ◌&&◌, List, [], ◌∷◌, leb, length, take}
use Rattle.std.specs.Prelude.{Option, None, Some}
use Rattle.terms.specs.Collations.{reads_table}
use Rattle.terms.specs.Refusals.{expansion_most}
use Rattle.terms.specs.declared.Collation.{Collation}
use Rattle.utf8.specs.Utf8.{Character}
use Rattle.keys.specs.Keys.{PreparedText, keyed}
use Rattle.keys.specs.declared.KeyPlace.{KeyPlace}
use Rattle.keys.specs.declared.KeyPlace.TheVariants.{Text, Buffer}
use Rattle.keys.specs.declared.Summary.{Summary}

-- ---- numbers

-- a truth as a number of the paper's: 1 and 0
abbrev pub truth : Bool → ℕ
truth true = 1
truth false = 0

-- where a key stands, as a number: 0 the text, 1 the buffer
abbrev pub place_number : KeyPlace → ℕ
place_number Text = 0
place_number Buffer = 1

-- a summary's numbers: valid, lookup count, length of the key, where it stands
abbrev pub summary_numbers : Summary → List ℕ
summary_numbers s = truth s.valid ∷ s.lookups ∷ s.key_length ∷ place_number s.place ∷ []

-- the numbers of a prepared text
abbrev pub prepared_numbers : PreparedText → List ℕ
prepared_numbers p = truth p.valid ∷ p.count ∷ length p.key ∷ truth p.buffered ∷ []

-- ---- the key that is shown

-- the first n of some octets, none where there are fewer
abbrev pub first_of : ℕ → List ℕ → List ℕ
first_of n octets = cond (leb n (length octets)) (take n octets) []

-- the key that a prepared text's summary shows: a part of the text or of the key buffer
abbrev pub shown_at : KeyPlace → ℕ → List ℕ → List ℕ → List ℕ
shown_at Text n text buffer = first_of n text
shown_at Buffer n text buffer = first_of n buffer

-- how many characters a text has, 0 where it is not valid
abbrev pub character_count : Option (List Character) → ℕ
character_count None = 0
character_count (Some chs) = length chs

-- ---- writing

-- a key was written: what preparing its text comes to, and the key buffer
pub record KeyFilled (p : PreparedText) (buffer : List ℕ) (r : Summary) (after : List ℕ) : Type 0 where
  pub numbers : summary_numbers r ≡ prepared_numbers p
  pub left : after ≡ keyed p buffer

-- a key was written, or given up, whatever the buffer then holds
abbrev pub TrialFilled : PreparedText → List ℕ → Option Summary → List ℕ → Type 0
TrialFilled p buffer (Some r) after = KeyFilled p buffer r after
TrialFilled p buffer None after = length after ≡ length buffer

-- a key buffer has room for any key of a text of n octets: over a table an octet of a text comes to at most 128 of its key
abbrev pub roomy : Collation → ℕ → ℕ → Bool
roomy k n room = reads_table k && leb n (room / expansion_most)
