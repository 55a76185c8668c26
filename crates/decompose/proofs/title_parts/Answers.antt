-- `decompose::title_parts` meets its contract: where the titlecase is the code point itself, its entry is the one that was found.
-- Assumes nothing.
use mathlib.Core.Path.{◌≡◌, sym, ap, ◌∙◌}
use Rattle.std.specs.Prelude.{Some}
use Rattle.table.specs.Table.{table, entry_of, title_of}
use Rattle.terms.specs.CodePoints.{scalar}
use Rattle.table.proofs.Form.{formed-title, entry_of-some, title_of-some}
use Rattle.decompose.proofs.title_parts.Goals as goal

pub title_at-title-requires : goal.title_at-title-requires
title_at-title-requires c =
    let found : entry_of c.args.entries.now c.args.c.0 ≡ Some c.in-Some.i =
    sym c.requires.place_value ∙ c.in-Some.is in
    (entry_of-some _ _ _ (found)).0

pub parts_at-requires : goal.parts_at-requires
parts_at-requires c =
    let found : entry_of c.args.entries.now c.args.c.0 ≡ Some c.in-Some.i =
    sym c.requires.place_value ∙ c.in-Some.is in
    let at = c in
    record { pool_value = at.requires.findable.form; i_bound = (entry_of-some _ _ _ (found)).0 }

pub entry_parts-requires : goal.entry_parts-requires
entry_parts-requires c =
    let found : entry_of c.args.entries.now c.args.c.0 ≡ Some c.in-Some.i =
    sym c.requires.place_value ∙ c.in-Some.is in
    let title : let s = c in c.title_at-title.result.0 ≡ title_of s.args.entries.now s.args.c.0 =
    c.title_at-title.ensures ∙ sym (title_of-some _ _ _ (found)) in
    let read = c in
    let at = read in
    let s = at in
    let titled = formed-title ((table c.args.entries.now c.args.pool.now)) s.requires.findable.form _ (entry_of-some _ _ _ (found)).0 in
    record { findable = s.requires.findable; c_value = ap scalar read.title_at-title.ensures ∙ titled }
