-- `prepare::filling::fill_two` meets its contract: where both buffers are roomy 8 does not apply, and both keys are filled
-- in, of two short texts as such; else they are sized first.
-- Assumes nothing.
use Rattle.std.specs.Prelude.{None}
use mathlib.Core.Path.{◌≡◌, sym, ◌∙◌}
use Prim.Native.Nat.{◌≤◌}
use native.Mathlib.Omega.{arith}
use lib.ListN.{length}
use Rattle.table.specs.Table.{table, mapping_of}
use Rattle.utf8.specs.Utf8.{characters}
use Rattle.pages.specs.Pages.{pages}
use Rattle.decompose.specs.TableCheck.{Usable}
use Rattle.keys.specs.Keys.{unicode_prepared, room_for, table_under}
use Rattle.keys.proofs.Collations.{usable-accepted, usable-unicode}
use Rattle.keys.proofs.Bounds.{key-most, Roomy, roomy-enough}
use Rattle.prepare.proofs.Rooms.{filled-written, two-written}
use Rattle.prepare.proofs.filling.fill_two.Goals as goal

-- two short texts
pub fill_short-one-requires : goal.fill_short-one-requires
fill_short-one-requires c =
    let first : Roomy c.args.collation (length c.args.first.now) (length c.args.first_key.now) =
    let one = c in
    roomy-enough _ _ _ (sym one.is_roomy.ensures ∙ one.if-is_roomy.true) in
    let usable : let args = c.args in Usable (table args.entries.now args.pool.now) (pages args.presence.now args.ranks.now) =
    usable-unicode _ (first).unicode c.requires.usable_under in
    let first_room : let args = c.args in room_for (unicode_prepared (mapping_of (table args.entries.now args.pool.now)) args.first.now (characters args.first.now)) ≤ length args.first_key.now =
    let args = c.args in
    omega (arith, key-most (table args.entries.now args.pool.now) args.first.now (usable).accepted, (first).enough) in
    let r = c in
    record { text_len_bound = r.requires.first_len_bound; usable = usable; text_in_bounds = first_room }

pub fill_short-two-requires : goal.fill_short-two-requires
fill_short-two-requires c =
    let second : Roomy c.args.collation (length c.args.second.now) (length c.args.second_key.now) =
    roomy-enough _ _ _ (sym c.is_roomy-then-is_roomy.ensures ∙ c.if-is_roomy-2.true) in
    let first : Roomy c.args.collation (length c.args.first.now) (length c.args.first_key.now) =
    let one = c in
    roomy-enough _ _ _ (sym one.is_roomy.ensures ∙ one.if-is_roomy.true) in
    let usable : let args = c.args in Usable (table args.entries.now args.pool.now) (pages args.presence.now args.ranks.now) =
    usable-unicode _ (first).unicode c.requires.usable_under in
    let second_room : let args = c.args in room_for (unicode_prepared (mapping_of (table args.entries.now args.pool.now)) args.second.now (characters args.second.now)) ≤ length args.second_key.now =
    let args = c.args in
    omega (arith, key-most (table args.entries.now args.pool.now) args.second.now (usable).accepted, (second).enough) in
    let r = c in
    record { text_len_bound = r.requires.second_len_bound; usable = usable; text_in_bounds = second_room }

pub returns-then-second-lt-LONG_TEXT : goal.returns-then-second-lt-LONG_TEXT
returns-then-second-lt-LONG_TEXT c =
    let accepted : let args = c.args in table_under args.collation (table args.entries.now args.pool.now) ≡ None =
    let s = c in
    usable-accepted s.args.collation (table s.args.entries.now s.args.pool.now)
    (pages s.args.presence.now s.args.ranks.now) s.requires.usable_under in
    let first : Roomy c.args.collation (length c.args.first.now) (length c.args.first_key.now) =
    let one = c in
    roomy-enough _ _ _ (sym one.is_roomy.ensures ∙ one.if-is_roomy.true) in
    let second : Roomy c.args.collation (length c.args.second.now) (length c.args.second_key.now) =
    roomy-enough _ _ _ (sym c.is_roomy-then-is_roomy.ensures ∙ c.if-is_roomy-2.true) in
    let r = c in
    two-written
    (filled-written (accepted) (first) c.fill_short-one.ensures)
    (filled-written (accepted) (second) c.fill_short-two.ensures)

-- any others
pub fill_unicode-one-requires : goal.fill_unicode-one-requires
fill_unicode-one-requires c =
    let first : Roomy c.args.collation (length c.args.first.now) (length c.args.first_key.now) =
    let one = c in
    roomy-enough _ _ _ (sym one.is_roomy.ensures ∙ one.if-is_roomy.true) in
    let usable : let args = c.args in Usable (table args.entries.now args.pool.now) (pages args.presence.now args.ranks.now) =
    usable-unicode _ (first).unicode c.requires.usable_under in
    let first_room : let args = c.args in room_for (unicode_prepared (mapping_of (table args.entries.now args.pool.now)) args.first.now (characters args.first.now)) ≤ length args.first_key.now =
    let args = c.args in
    omega (arith, key-most (table args.entries.now args.pool.now) args.first.now (usable).accepted, (first).enough) in
    let r = c in
    record { text_len_bound = r.requires.first_len_bound; usable = usable; text_in_bounds = first_room }

pub fill_unicode-two-requires : goal.fill_unicode-two-requires
fill_unicode-two-requires c =
    let second : Roomy c.args.collation (length c.args.second.now) (length c.args.second_key.now) =
    roomy-enough _ _ _ (sym c.is_roomy-then-is_roomy.ensures ∙ c.if-is_roomy-2.true) in
    let first : Roomy c.args.collation (length c.args.first.now) (length c.args.first_key.now) =
    let one = c in
    roomy-enough _ _ _ (sym one.is_roomy.ensures ∙ one.if-is_roomy.true) in
    let usable : let args = c.args in Usable (table args.entries.now args.pool.now) (pages args.presence.now args.ranks.now) =
    usable-unicode _ (first).unicode c.requires.usable_under in
    let second_room : let args = c.args in room_for (unicode_prepared (mapping_of (table args.entries.now args.pool.now)) args.second.now (characters args.second.now)) ≤ length args.second_key.now =
    let args = c.args in
    omega (arith, key-most (table args.entries.now args.pool.now) args.second.now (usable).accepted, (second).enough) in
    let r = c in
    record { text_len_bound = r.requires.second_len_bound; usable = usable; text_in_bounds = second_room }

pub returns-then-is_roomy-2 : goal.returns-then-is_roomy-2
returns-then-is_roomy-2 c =
    let accepted : let args = c.args in table_under args.collation (table args.entries.now args.pool.now) ≡ None =
    let s = c in
    usable-accepted s.args.collation (table s.args.entries.now s.args.pool.now)
    (pages s.args.presence.now s.args.ranks.now) s.requires.usable_under in
    let first : Roomy c.args.collation (length c.args.first.now) (length c.args.first_key.now) =
    let one = c in
    roomy-enough _ _ _ (sym one.is_roomy.ensures ∙ one.if-is_roomy.true) in
    let second : Roomy c.args.collation (length c.args.second.now) (length c.args.second_key.now) =
    roomy-enough _ _ _ (sym c.is_roomy-then-is_roomy.ensures ∙ c.if-is_roomy-2.true) in
    let r = c in
    two-written
    (filled-written (accepted) (first) c.fill_unicode-one.ensures)
    (filled-written (accepted) (second) c.fill_unicode-two.ensures)
