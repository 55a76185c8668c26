-- The bounds of demand 3 for a prepared text: its lookup count, the length of its key, and a buffer that has room for any key.
-- Assumes nothing.
use mathlib.Core.Path.{◌≡◌, refl, sym}
use Prim.Native.Nat.{ℕ, zero-le, ◌*◌, ◌/◌, ◌≤◌}
use native.Mathlib.Omega.{arith}
use mathlib.Core.Bool.{true, true≢false}
use Rattle.std.specs.Prelude.{Option, None, Some}
use mathlib.Core.List.{List}
use lib.ListN.{length, length-map}
use borrow.Author.Tests.{leb-true}
use Rattle.terms.specs.Refusals.{expansion_most}
use Rattle.terms.specs.declared.Collation.{Collation}
use Rattle.terms.specs.declared.Collation.TheVariants.{Octet, AsciiCasemap, UnicodeCasemap}
use Rattle.utf8.specs.Utf8.{Character, characters}
use Rattle.utf8.proofs.Characters.{utf8-decodes}
use Rattle.utf8.proofs.Decoders.{characters-count}
use Rattle.decompose.proofs.Demand3.{accepted-lookups, accepted-key}
use Rattle.table.specs.Table.{Table, mapping_of}
use Rattle.decompose.specs.TableCheck.{table_refusal}
use Rattle.keys.specs.Keys.{upper, prepared, unicode_prepared, key_of, table_under, room_for}
use Rattle.keys.specs.Summaries.{character_count, roomy}

-- none are counted but under collation 3, and there the table was accepted
pub prepared-count : (k : Collation) (t : Table) (text : List ℕ) → table_under k t ≡ None
    → (prepared k (mapping_of t) text).count ≤ 258 * character_count (characters text)
prepared-count Octet t text e = zero-le
prepared-count AsciiCasemap t text e = zero-le
prepared-count UnicodeCasemap t text e = unicode (characters text)
  where
    unicode : (o : Option (List Character)) → (unicode_prepared (mapping_of t) text o).count ≤ 258 * character_count o
    unicode None = zero-le
    unicode (Some chs) = accepted-lookups t e chs

-- the key of a text over an accepted table has at most 128 octets for each of the text's
pub key-most : (t : Table) (text : List ℕ) → table_refusal t ≡ None
    → room_for (unicode_prepared (mapping_of t) text (characters text)) ≤ expansion_most * length text
key-most t text accepted = go (characters text) refl
  where
    go : (o : Option (List Character)) → characters text ≡ o
        → room_for (unicode_prepared (mapping_of t) text o) ≤ expansion_most * length text
    go None e = zero-le
    go (Some chs) e = omega (arith, accepted-key t accepted chs, characters-count utf8-decodes text chs e)

-- so has a key under every collation, over a table that the collation takes
pub key-within : (k : Collation) (t : Table) (text : List ℕ) → table_under k t ≡ None
    → length (key_of k (mapping_of t) text) ≤ expansion_most * length text
key-within Octet t text taken = omega (arith)
key-within AsciiCasemap t text taken = omega (arith, length-map text upper)
key-within UnicodeCasemap t text taken = go (characters text) refl
  where
    go : (o : Option (List Character)) → characters text ≡ o
        → length (unicode_prepared (mapping_of t) text o).key ≤ expansion_most * length text
    go None e = omega (arith)
    go (Some chs) e = rw e at (key-most t text taken)

-- a buffer that is roomy for a text has room for its key
pub record Roomy (k : Collation) (n room : ℕ) : Type 0 where
  pub unicode : k ≡ UnicodeCasemap
  pub enough : expansion_most * n ≤ room

pub roomy-enough : (k : Collation) (n room : ℕ) → roomy k n room ≡ true → Roomy k n room
roomy-enough Octet n room e = absurd (true≢false (sym e))
roomy-enough AsciiCasemap n room e = absurd (true≢false (sym e))
roomy-enough UnicodeCasemap n room e = record { unicode = refl; enough = omega (arith, leb-true n (room / expansion_most) e) }
