-- `search::seek_shown` meets its contract: an empty text is answered at once, and else the shown keys are the texts' keys.
-- Assumes nothing.
use mathlib.Core.Path.{sym, ◌∙◌}
use borrow.Author.Tests.{eqb-true, eqb-false}
use Rattle.table.specs.Table.{table, mapping_of}
use Rattle.search.proofs.Seeking.{values-empty, values-found, shows-seekable}
use Rattle.search.proofs.seek_shown.Goals as goal

-- the empty text
pub returns-then-is_empty : goal.returns-then-is_empty
returns-then-is_empty c =
    let m = mapping_of (table c.args.entries.now c.args.pool.now) in
    values-empty c.args.collation m c.args.first.now c.args.second.now (eqb-true _ 0 (sym c.is_empty.ensures ∙ c.if-is_empty.true))

pub seek_key-requires-clause-seekable : goal.seek_key-requires-clause-seekable
seek_key-requires-clause-seekable c =
    shows-seekable c.requires.shows (eqb-false _ 0 (sym c.is_empty.ensures ∙ c.if-is_empty.false))
    (c.shown_part-needle.ensures ∙ c.requires.shows.first)
    (c.shown_part-hay.ensures ∙ c.requires.shows.second)

-- what is found
pub returns : goal.returns
returns c =
    let m = mapping_of (table c.args.entries.now c.args.pool.now) in
    values-found c.args.collation m c.args.first.now c.args.second.now _ _ c.seek_key.result
    (eqb-false _ 0 (sym c.is_empty.ensures ∙ c.if-is_empty.false))
    (c.shown_part-needle.ensures ∙ c.requires.shows.first)
    (c.shown_part-hay.ensures ∙ c.requires.shows.second) c.seek_key.ensures
