-- The keys of the three collations (document 01, "The collations", "Preparation").
-- "Each text has its own key, whatever the other text is."
-- Assumes nothing.
use Rattle.std.specs.Prelude.{◌≡◌, ℕ, ◌-◌, Bool, true, false, cond, ◌&&◌, List, map, leb, length}
use Rattle.std.specs.Prelude.{Option, None, Some}
use Rattle.terms.specs.Lists.{over}
use Rattle.terms.specs.Collations.{reads_table}
use Rattle.terms.specs.declared.Collation.{Collation}
use Rattle.terms.specs.declared.Collation.TheVariants.{Octet, AsciiCasemap, UnicodeCasemap}
use Rattle.terms.specs.declared.Refusal.{Refusal}
use Rattle.table.specs.Mapping.{Mapping}
use Rattle.utf8.specs.Utf8.{Character, characters}
use Rattle.decompose.specs.Steps.{steps_key, steps_lookups}
use Rattle.table.specs.Table.{Table}
use Rattle.pages.specs.Pages.{Pages}
use Rattle.decompose.specs.TableCheck.{table_refusal, Usable}

-- "octets 61 to 7A hex lowered by 20 hex, the rest kept"
abbrev pub upper : ℕ → ℕ
upper o = cond (leb 0x61 o && leb o 0x7A) (o - 0x20) o

-- what preparation makes of a text: whether it is valid, the paper's "lookup count", its "key", and whether the key belongs in
-- the key buffer (it is the text itself where not)
pub record PreparedText : Type 0 where
  pub valid : Bool
  pub count : ℕ
  pub key : List ℕ
  pub buffered : Bool

-- collation 1: the text; "so is every key under collation 1" shown as a part of the text
abbrev pub octet_prepared : List ℕ → PreparedText
octet_prepared t = record { valid = true; count = 0; key = t; buffered = false }

-- collation 2: small letters a to z raised
abbrev pub ascii_prepared : List ℕ → PreparedText
ascii_prepared t = record { valid = true; count = 0; key = map upper t; buffered = true }

-- collation 3: "prepared text, or the text itself if it isn't valid UTF-8"
abbrev pub unicode_prepared : Mapping → List ℕ → Option (List Character) → PreparedText
unicode_prepared m t None = record { valid = false; count = 0; key = t; buffered = false }
unicode_prepared m t (Some chs) = record { valid = true; count = steps_lookups m chs; key = steps_key m chs; buffered = true }

-- a text prepared under a collation
abbrev pub prepared : Collation → Mapping → List ℕ → PreparedText
prepared Octet m t = octet_prepared t
prepared AsciiCasemap m t = ascii_prepared t
prepared UnicodeCasemap m t = unicode_prepared m t (characters t)

-- the paper's "key" of a text
abbrev pub key_of : Collation → Mapping → List ℕ → List ℕ
key_of k m t = (prepared k m t).key

-- 3 to 7 under a collation: "Collations 1 and 2 don't read the table. Every public call under 3 checks it."
abbrev pub table_under : Collation → Table → Option Refusal
table_under k t = cond (reads_table k) (table_refusal t) None

-- the table and its pages may be gone on with under a collation: they are asked for where it reads the table
abbrev pub UsableUnder : Collation → Table → Pages → Type 0
UsableUnder k t p = reads_table k ≡ true → Usable t p

-- the octets of the key buffer that a preparation needs: "a key that belongs in a buffer"
abbrev pub room_for : PreparedText → ℕ
room_for p = cond p.buffered (length p.key) 0

-- the key buffer afterwards: "All other keys stand at the start of the lent key buffer, and octets after the key stay"
abbrev pub keyed : PreparedText → List ℕ → List ℕ
keyed p buffer = cond p.buffered (over p.key buffer) buffer
