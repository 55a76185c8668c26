-- `decompose::title_of` meets its contract: the place says which case of `title_in` holds.
-- Assumes nothing.
use mathlib.Core.Path.{◌≡◌, sym, ◌∙◌}
use Rattle.std.specs.Prelude.{Some}
use Rattle.table.specs.Table.{entry_of}
use Rattle.table.proofs.Form.{entry_of-some}
use Rattle.decompose.proofs.title_of.Goals as goal

pub title_at-requires : goal.title_at-requires
title_at-requires c =
    let found : let a = c.args in entry_of a.entries.now a.c.0 ≡ Some c.in-Some.i =
    sym c.requires ∙ c.in-Some.is in
    (entry_of-some _ _ _ (found)).0
