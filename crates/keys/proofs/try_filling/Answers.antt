-- `keys::try_filling` meets its contract: a valid text that was walked to its end is prepared, and an invalid one is its own key.
-- Assumes nothing.
use mathlib.Core.Path.{◌≡◌, sym, ◌∙◌}
use mathlib.Core.Bool.{true}
use Rattle.terms.specs.Lists.{there}
use Rattle.utf8.specs.Utf8.{characters}
use Rattle.keys.proofs.Walking.{walking-done}
use Rattle.keys.proofs.try_filling.Goals as goal

-- to the end of the text
pub returns-then-is_valid : goal.returns-then-is_valid
returns-then-is_valid c =
    let valid : there (characters c.args.text.now) ≡ true =
    sym c.is_valid.ensures ∙ c.if-is_valid.true in
    let w = c in
    walking-done w.write_while_roomy-written.ensures (valid) c.if-written-text.false
    c.buffered.result c.buffered.ensures
