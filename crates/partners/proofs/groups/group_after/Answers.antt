-- `partners::groups::group_after` meets its contract: the row ascends by key, so that a key that the next place has not stands
-- nowhere after.
-- Assumes nothing.
use mathlib.Core.Path.{sym, ◌∙◌}
use Rattle.sorting.specs.KeyOrder.{key_in}
use Rattle.partners.proofs.Leading.{after_same, after-other}
use Rattle.partners.proofs.Telling.{tells-same, tells_none}
use Rattle.partners.proofs.groups.group_after.Goals as goal

pub returns-then-repeats_key : goal.returns-then-repeats_key
returns-then-repeats_key c =
    let s = c in
    let key = key_in s.args.store.now s.args.ends.now in
    tells-same
    (after_same key s.args.middle s.args.row.now s.args.i s.requires.i_in_bounds
    (sym c.repeats_key.ensures ∙ c.if-repeats_key.true))
    s.requires.tells

pub returns-else-repeats_key : goal.returns-else-repeats_key
returns-else-repeats_key c =
    let s = c in
    let key = key_in s.args.store.now s.args.ends.now in
    tells-same
    (sym
    (after-other key s.args.middle s.args.row.now s.args.i s.requires.i_in_bounds s.requires.row_value_2
    (sym c.repeats_key.ensures ∙ c.if-repeats_key.false)))
    (tells_none s.args.middle)
