-- `keys::fill_short` meets its contract: a valid text is walked to its end, and an invalid one is its own key.
-- Assumes nothing.
use mathlib.Core.Path.{◌≡◌, sym, ◌∙◌}
use mathlib.Core.Bool.{true}
use Rattle.terms.specs.Lists.{there}
use Rattle.utf8.specs.Utf8.{characters}
use Rattle.keys.proofs.Walking.{walking-done}
use Rattle.keys.proofs.fill_short.Goals as goal

pub returns-then-is_valid : goal.returns-then-is_valid
returns-then-is_valid c =
    let valid : there (characters c.args.text.now) ≡ true =
    sym c.is_valid.ensures ∙ c.if-is_valid.true in
    let w = c in
    walking-done w.write_characters-written.ensures.walked (valid) w.write_characters-written.ensures.reached
    c.buffered.result c.buffered.ensures
