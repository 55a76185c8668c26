-- Each starred example of document 01 holds of the definitions: one claim over the whole table, that what is asked is what
-- the paper says, row by row, which the checker computes.
-- Assumes nothing.
use mathlib.Core.Path.{◌≡◌, refl}
use mathlib.Core.Bool.{false}
use mathlib.Core.List.{map, [], ◌∷◌}
use Rattle.std.specs.Prelude.{None, Some}
use Rattle.terms.specs.Lists.{lowest, each, total, begins}
use Rattle.terms.specs.Refusals.{refusal}
use Rattle.utf8.specs.Characters.{characters_after, characters_by}
use Rattle.utf8.specs.Utf8.{leading_ones, announced, encode, trailed, decode}
use Rattle.octets.specs.Order.{order_of}
use Rattle.table.specs.Layout.{entry_count, whole_entries, number_at}
use Rattle.hangul.specs.Hangul.{syllable}
use Rattle.table.specs.Table.{table, counts_below, not_above, form_refusal, entry_of, mapping_of}
use Rattle.decompose.specs.Levels.{within, full, asks}
use Rattle.decompose.specs.Steps.{steps_key, steps_lookups}
use Rattle.decompose.specs.TableCheck.{faulty_syllable, table_refusal}
use Rattle.decompose.specs.Promises.{largest}
use Rattle.decompose.proofs.Syllables.{table-syllables}
use Rattle.pages.specs.Pages.{Pages, short_pages}
use Rattle.prepare.specs.Calls.{call_refusal}
use Rattle.occurrence.specs.Occurrence.{occurrence}
use Rattle.search.specs.Covering.{holder, covering}
use Rattle.search.specs.Substring.{substring_values}
use Rattle.starred.specs.Examples.{entries_t, pool_t, Example, starred}

-- table T has no jamo, so no syllable of it is at fault, and it is accepted: the claim is computed with that folded
fine : faulty_syllable (mapping_of (table entries_t pool_t)) ≡ false
unfolding lowest each entry_count number_at syllable entry_of within full largest
fine = table-syllables (table entries_t pool_t) 1 1 1 refl refl refl

accepted : table_refusal (table entries_t pool_t) ≡ None
unfolding lowest each entry_count whole_entries number_at counts_below not_above syllable form_refusal entry_of within full table_refusal
accepted = rw fine

-- the table of the last row is refused
refused-7 : table_refusal (table (0x41 ∷ 0x41 ∷ 0 ∷ 1 ∷ []) (0x41 ∷ [])) ≡ Some (refusal 7 0 0)
unfolding lowest each entry_count whole_entries number_at counts_below not_above syllable form_refusal entry_of within full table_refusal
refused-7 = refl

-- the claim, whatever pages of the length were lent
pub starred-hold : (p : Pages) → short_pages p ≡ false
    → map (λ (e : Example). e.asked) (starred p) ≡ map (λ (e : Example). e.said) (starred p)
unfolding lowest each total begins leading_ones announced encode trailed decode characters_after characters_by entry_count number_at syllable entry_of full asks steps_key steps_lookups call_refusal order_of occurrence holder covering substring_values starred
starred-hold p long = rw (accepted, refused-7, long)
