-- `decompose::write_expansion` meets its contract: a titlecase that doesn't decompose stays as it is, for two asks; any other
-- unfolds, since every code point does over an accepted table.
-- Assumes nothing.
use native.Mathlib.Omega.{arith}
use mathlib.Core.Path.{◌≡◌, sym, ap, ◌∙◌}
use mathlib.Core.Bool.{true}
use Rattle.std.specs.Prelude.{None}
use mathlib.Core.List.{[]}
use Rattle.terms.specs.CodePoints.{scalar}
use Rattle.terms.specs.Refusals.{levels_most}
use Rattle.table.specs.Table.{table, form_refusal, title_of, entry_parts, parts_of, mapping_of}
use Rattle.table.proofs.Form.{formed-title-scalar}
use Rattle.pages.specs.Pages.{pages}
use Rattle.pages.specs.Promises.{Findable}
use Rattle.terms.proofs.Scalars.{scalar-most}
use Rattle.decompose.specs.Promises.{Bounded}
use Rattle.decompose.proofs.Walk.{listed-none, listed-some, bounded_unfolds, bounded-asks}
use Rattle.decompose.proofs.Expansion.{expanded-title, expanded-plain, filled-plain}
use Rattle.decompose.proofs.Demand3.{accepted-form, accepted-all}
use Rattle.decompose.proofs.write_expansion.Goals as goal

pub find_entry-place-requires : goal.find_entry-place-requires
find_entry-place-requires c =
    let form : form_refusal ((table c.args.entries.now c.args.pool.now)) ≡ None =
    accepted-form ((table c.args.entries.now c.args.pool.now)) c.requires.usable.accepted in
    let findable : Findable ((table c.args.entries.now c.args.pool.now)) (pages c.args.presence.now c.args.ranks.now) =
    record { form = form; paged = c.requires.usable.paged } in
    let s = c in
    record { findable = findable; c_value = s.requires.c_value }

pub title_parts-parts-requires : goal.title_parts-parts-requires
title_parts-parts-requires c =
    let form : form_refusal ((table c.args.entries.now c.args.pool.now)) ≡ None =
    accepted-form ((table c.args.entries.now c.args.pool.now)) c.requires.usable.accepted in
    let findable : Findable ((table c.args.entries.now c.args.pool.now)) (pages c.args.presence.now c.args.ranks.now) =
    record { form = form; paged = c.requires.usable.paged } in
    record { findable = findable; place_value = c.find_entry-place.ensures }

-- the titlecase is scalar, and there is room for its octets
pub write_character-octets-requires : goal.write_character-octets-requires
write_character-octets-requires c =
    let parts : let read = c in c.title_parts-parts.result.now ≡ entry_parts ((table c.args.entries.now c.args.pool.now)) read.title_of-title.result.0 =
    c.title_parts-parts.ensures ∙ ap (entry_parts ((table c.args.entries.now c.args.pool.now))) (sym c.title_of-title.ensures) in
    let plain : let read = c in parts_of ((table c.args.entries.now c.args.pool.now)) read.title_of-title.result.0 ≡ [] =
    let looked = c in
    let read = looked in
    listed-none ((table c.args.entries.now c.args.pool.now)) read.title_of-title.result.0 _ (parts)
    (sym looked.decomposes.ensures ∙ c.if-not-decomposes.true) in
    let form : form_refusal ((table c.args.entries.now c.args.pool.now)) ≡ None =
    accepted-form ((table c.args.entries.now c.args.pool.now)) c.requires.usable.accepted in
    let title : let s = c in title_of ((table c.args.entries.now c.args.pool.now)).entries s.args.c.0 ≡ c.title_of-title.result.0 =
    sym c.title_of-title.ensures in
    let scalar_title : scalar c.title_of-title.result.0 ≡ true =
    let s = c in
    sym (ap scalar (title)) ∙ formed-title-scalar ((table c.args.entries.now c.args.pool.now)) (form) s.args.c.0 s.requires.c_value in
    let read = c in
    let s = read in
    let octets = expanded-plain (mapping_of ((table c.args.entries.now c.args.pool.now))) s.args.c.0 _ (title) (plain) in
    record { c_bound = scalar-most _ (scalar_title); c_in_bounds = rw octets at s.requires.c_in_bounds }

-- it stays
pub returns-then-not-decomposes : goal.returns-then-not-decomposes
returns-then-not-decomposes c =
    let parts : let read = c in c.title_parts-parts.result.now ≡ entry_parts ((table c.args.entries.now c.args.pool.now)) read.title_of-title.result.0 =
    c.title_parts-parts.ensures ∙ ap (entry_parts ((table c.args.entries.now c.args.pool.now))) (sym c.title_of-title.ensures) in
    let plain : let read = c in parts_of ((table c.args.entries.now c.args.pool.now)) read.title_of-title.result.0 ≡ [] =
    let looked = c in
    let read = looked in
    listed-none ((table c.args.entries.now c.args.pool.now)) read.title_of-title.result.0 _ (parts)
    (sym looked.decomposes.ensures ∙ c.if-not-decomposes.true) in
    let title : let s = c in title_of ((table c.args.entries.now c.args.pool.now)).entries s.args.c.0 ≡ c.title_of-title.result.0 =
    sym c.title_of-title.ensures in
    let called = c in
    let whole = called in
    let read = whole in
    let s = read in
    filled-plain (mapping_of ((table c.args.entries.now c.args.pool.now))) s.args.c.0 _ (title) (plain) s.args.out.now _ _
    called.write_character-octets.ensures

-- it decomposes, is scalar and unfolds, and there is room
pub write_unfolded-unfolded-requires : goal.write_unfolded-unfolded-requires
write_unfolded-unfolded-requires c =
    let bounded : Bounded (mapping_of ((table c.args.entries.now c.args.pool.now))) levels_most c.title_of-title.result.0 =
    let s = c in
    bounded_unfolds (mapping_of ((table c.args.entries.now c.args.pool.now))) c.title_of-title.result.0 (accepted-all ((table c.args.entries.now c.args.pool.now)) s.requires.usable.accepted c.title_of-title.result.0) in
    let form : form_refusal ((table c.args.entries.now c.args.pool.now)) ≡ None =
    accepted-form ((table c.args.entries.now c.args.pool.now)) c.requires.usable.accepted in
    let findable : Findable ((table c.args.entries.now c.args.pool.now)) (pages c.args.presence.now c.args.ranks.now) =
    record { form = form; paged = c.requires.usable.paged } in
    let parts : let read = c in c.title_parts-parts.result.now ≡ entry_parts ((table c.args.entries.now c.args.pool.now)) read.title_of-title.result.0 =
    c.title_parts-parts.ensures ∙ ap (entry_parts ((table c.args.entries.now c.args.pool.now))) (sym c.title_of-title.ensures) in
    let title : let s = c in title_of ((table c.args.entries.now c.args.pool.now)).entries s.args.c.0 ≡ c.title_of-title.result.0 =
    sym c.title_of-title.ensures in
    let scalar_title : scalar c.title_of-title.result.0 ≡ true =
    let s = c in
    sym (ap scalar (title)) ∙ formed-title-scalar ((table c.args.entries.now c.args.pool.now)) (form) s.args.c.0 s.requires.c_value in
    let other = c in
    let parted = other in
    let read = parted in
    let s = read in
    let octets = expanded-title (mapping_of ((table c.args.entries.now c.args.pool.now))) s.args.c.0 _ (title) in
    let decomposes = sym other.decomposes.ensures ∙ other.if-not-decomposes.false in
    let listed = listed-some ((table c.args.entries.now c.args.pool.now)) _ _ (form) (parts) decomposes in
    record { findable = findable; listed = listed; c_value = scalar_title; bounded = bounded; c_in_bounds = rw octets at s.requires.c_in_bounds }

-- for few asks
pub overflow_add-result : goal.overflow_add-result
overflow_add-result c =
    let bounded : Bounded (mapping_of ((table c.args.entries.now c.args.pool.now))) levels_most c.title_of-title.result.0 =
    let s = c in
    bounded_unfolds (mapping_of ((table c.args.entries.now c.args.pool.now))) c.title_of-title.result.0 (accepted-all ((table c.args.entries.now c.args.pool.now)) s.requires.usable.accepted c.title_of-title.result.0) in
    let called = c in
    let read = called in
    omega (arith, called.write_unfolded-unfolded.ensures.counted.asked, bounded-asks (bounded))
