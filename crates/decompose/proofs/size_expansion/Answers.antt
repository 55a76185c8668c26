-- `decompose::size_expansion` meets its contract: a titlecase that doesn't decompose stays as it is, for two asks; any other
-- unfolds, since every code point does over an accepted table.
-- Assumes nothing.
use native.Mathlib.Omega.{arith}
use mathlib.Core.Path.{◌≡◌, sym, ap, ◌∙◌}
use Rattle.std.specs.Prelude.{None}
use Rattle.terms.specs.Refusals.{levels_most}
use Rattle.table.specs.Table.{table, form_refusal, entry_parts, mapping_of}
use Rattle.pages.specs.Pages.{pages}
use Rattle.pages.specs.Promises.{Findable}
use Rattle.decompose.specs.Promises.{Bounded}
use Rattle.decompose.proofs.Walk.{listed-none, listed-some, bounded_unfolds, bounded-asks}
use Rattle.decompose.proofs.Expansion.{counted-plain}
use Rattle.decompose.proofs.Demand3.{accepted-form, accepted-all}
use Rattle.decompose.proofs.size_expansion.Goals as goal

pub find_entry-place-requires : goal.find_entry-place-requires
find_entry-place-requires c =
    let form : form_refusal ((table c.args.entries.now c.args.pool.now)) ≡ None =
    accepted-form ((table c.args.entries.now c.args.pool.now)) c.requires.usable.accepted in
    let findable : Findable ((table c.args.entries.now c.args.pool.now)) (pages c.args.presence.now c.args.ranks.now) =
    record { form = form; paged = c.requires.usable.paged } in
    let s = c in
    record { findable = findable; c_value = s.requires.c_value }

pub title_parts-parts-requires : goal.title_parts-parts-requires
title_parts-parts-requires c =
    let form : form_refusal ((table c.args.entries.now c.args.pool.now)) ≡ None =
    accepted-form ((table c.args.entries.now c.args.pool.now)) c.requires.usable.accepted in
    let findable : Findable ((table c.args.entries.now c.args.pool.now)) (pages c.args.presence.now c.args.ranks.now) =
    record { form = form; paged = c.requires.usable.paged } in
    record { findable = findable; place_value = c.find_entry-place.ensures }

-- it stays
pub returns-then-not-decomposes : goal.returns-then-not-decomposes
returns-then-not-decomposes c =
    let parts : let read = c in c.title_parts-parts.result.now ≡ entry_parts ((table c.args.entries.now c.args.pool.now)) read.title_of-title.result.0 =
    c.title_parts-parts.ensures ∙ ap (entry_parts ((table c.args.entries.now c.args.pool.now))) (sym c.title_of-title.ensures) in
    let looked = c in
    let parted = looked in
    let read = parted in
    let t = (table c.args.entries.now c.args.pool.now) in
    let x = read.title_of-title.result.0 in
    let whole = listed-none t x _ (parts) (sym looked.decomposes.ensures ∙ c.if-not-decomposes.true) in
    counted-plain (mapping_of t) read.args.c.0 x (sym read.title_of-title.ensures) whole
    c.octet_count-octets.result c.octet_count-octets.ensures

-- it decomposes, and unfolds
pub size_unfolded-unfolded-requires : goal.size_unfolded-unfolded-requires
size_unfolded-unfolded-requires c =
    let bounded : Bounded (mapping_of ((table c.args.entries.now c.args.pool.now))) levels_most c.title_of-title.result.0 =
    let s = c in
    bounded_unfolds (mapping_of ((table c.args.entries.now c.args.pool.now))) c.title_of-title.result.0 (accepted-all ((table c.args.entries.now c.args.pool.now)) s.requires.usable.accepted c.title_of-title.result.0) in
    let form : form_refusal ((table c.args.entries.now c.args.pool.now)) ≡ None =
    accepted-form ((table c.args.entries.now c.args.pool.now)) c.requires.usable.accepted in
    let findable : Findable ((table c.args.entries.now c.args.pool.now)) (pages c.args.presence.now c.args.ranks.now) =
    record { form = form; paged = c.requires.usable.paged } in
    let parts : let read = c in c.title_parts-parts.result.now ≡ entry_parts ((table c.args.entries.now c.args.pool.now)) read.title_of-title.result.0 =
    c.title_parts-parts.ensures ∙ ap (entry_parts ((table c.args.entries.now c.args.pool.now))) (sym c.title_of-title.ensures) in
    let looked = c in
    let parted = looked in
    let s = parted in
    let decomposes = sym looked.decomposes.ensures ∙ c.if-not-decomposes.false in
    record { findable = findable; listed = listed-some ((table c.args.entries.now c.args.pool.now)) _ _ (form) (parts) decomposes; bounded = bounded }

-- for few asks
pub overflow_add-result : goal.overflow_add-result
overflow_add-result c =
    let bounded : Bounded (mapping_of ((table c.args.entries.now c.args.pool.now))) levels_most c.title_of-title.result.0 =
    let s = c in
    bounded_unfolds (mapping_of ((table c.args.entries.now c.args.pool.now))) c.title_of-title.result.0 (accepted-all ((table c.args.entries.now c.args.pool.now)) s.requires.usable.accepted c.title_of-title.result.0) in
    let called = c in
    let read = called in
    omega (arith, called.size_unfolded-unfolded.ensures.asked, bounded-asks (bounded))
