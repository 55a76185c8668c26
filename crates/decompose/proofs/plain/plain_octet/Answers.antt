-- `decompose::plain::plain_octet` meets its contract: a titlecase of ASCII with no parts is what the code point becomes.
-- Assumes nothing.
use native.Mathlib.Omega.{arith}
use mathlib.Core.Path.{sym, ap, ◌∙◌}
use Rattle.table.specs.Table.{table, entry_parts}
use Rattle.pages.specs.Pages.{pages}
use Rattle.pages.specs.Promises.{Findable}
use Rattle.decompose.proofs.Demand3.{accepted-form}
use Rattle.decompose.proofs.PlainRows.{scalar-ascii, plain-title}
use Rattle.decompose.proofs.plain.plain_octet.Goals as goal

pub find_entry-place-requires : goal.find_entry-place-requires
find_entry-place-requires c =
    let findable : Findable ((table c.args.entries.now c.args.pool.now)) (pages c.args.presence.now c.args.ranks.now) =
    record { form = accepted-form ((table c.args.entries.now c.args.pool.now)) c.requires.usable.accepted; paged = c.requires.usable.paged } in
    let s = c in
    record { findable = findable; c_value = scalar-ascii s.args.c.0 s.requires.c_bound }

pub title_parts-parts-requires : goal.title_parts-parts-requires
title_parts-parts-requires c =
    let findable : Findable ((table c.args.entries.now c.args.pool.now)) (pages c.args.presence.now c.args.ranks.now) =
    record { form = accepted-form ((table c.args.entries.now c.args.pool.now)) c.requires.usable.accepted; paged = c.requires.usable.paged } in
    let read = c in
    record { findable = findable; place_value = read.find_entry-place.ensures }

-- it is of ASCII, and stays
pub returns : goal.returns
returns c =
    let whole = c in
    let parted = whole in
    let low = parted in
    let read = low in
    let s = read in
    let title = sym read.title_of-title.ensures in
    let listed = parted.title_parts-parts.ensures ∙ ap (entry_parts ((table c.args.entries.now c.args.pool.now))) title in
    plain-title ((table c.args.entries.now c.args.pool.now)) s.args.c.0 read.title_of-title.result.0 parted.title_parts-parts.result.now title
    (omega (arith, low.if-title-ge-ASCII_END.false)) listed (omega (arith, whole.if-parts-ne0.false))
