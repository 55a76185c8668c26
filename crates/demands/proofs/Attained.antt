-- The bounds of demand 3 are attained: the checker computes what the published steps give of the text of `widest`.
-- Assumes nothing.
use mathlib.Core.Path.{◌≡◌, refl}
use mathlib.Core.Bool.{false}
use Rattle.std.specs.Prelude.{None, Some}
use lib.ListN.{length}
use Rattle.terms.specs.Lists.{lowest, each, total}
use Rattle.utf8.specs.Characters.{characters_after, characters_by}
use Rattle.utf8.specs.Utf8.{leading_ones, announced, encode, trailed, decode, characters}
use Rattle.hangul.specs.Hangul.{syllable}
use Rattle.table.specs.Layout.{entry_count, whole_entries, number_at}
use Rattle.table.specs.Table.{counts_below, not_above, form_refusal, entry_of, mapping_of}
use Rattle.decompose.specs.Levels.{within, full, asks}
use Rattle.decompose.specs.Steps.{steps_key, steps_lookups}
use Rattle.decompose.specs.TableCheck.{faulty_syllable, table_refusal}
use Rattle.decompose.specs.Promises.{largest}
use Rattle.decompose.proofs.Syllables.{table-syllables}
use Rattle.decompose.proofs.Demand3.{accepted-steps}
use Rattle.demands.specs.Demands.{Attained}
use Rattle.demands.specs.Widest.{widest, widest_text, widest_characters}

-- every jamo stays as it is, so no syllable is at fault; what is left is computed with that folded
widest-syllables : faulty_syllable (mapping_of widest) ≡ false
unfolding lowest each entry_count number_at syllable entry_of within full largest
widest-syllables = table-syllables widest 1 1 1 refl refl refl

widest-accepted : table_refusal widest ≡ None
unfolding lowest each total entry_count whole_entries number_at counts_below not_above syllable form_refusal entry_of within full table_refusal
widest-accepted = rw widest-syllables

widest-valid : characters widest_text ≡ Some widest_characters
unfolding leading_ones announced trailed decode characters_after characters_by
widest-valid = refl

widest-lookups : steps_lookups (mapping_of widest) widest_characters ≡ 258
unfolding lowest total entry_count number_at syllable entry_of asks steps_lookups
widest-lookups = refl

widest-octets : length (steps_key (mapping_of widest) widest_characters) ≡ 128
unfolding lowest each encode entry_count number_at syllable entry_of full steps_key
widest-octets = refl

pub widest-attains : Attained widest widest_text widest_characters 258 128
widest-attains = record {
  accepted = widest-accepted;
  valid = widest-valid;
  one = refl;
  key = steps_key (mapping_of widest) widest_characters;
  steps = rw (← widest-lookups) (accepted-steps widest widest-accepted widest_characters);
  size = widest-octets;
}
