-- `prepare::filling::fill_one` meets its contract: in a roomy buffer 8 does not apply, and a short text's key is filled in; all
-- else is handed on.
-- Assumes nothing.
use mathlib.Core.Path.{sym, ◌∙◌}
use native.Mathlib.Omega.{arith}
use lib.ListN.{length}
use Rattle.table.specs.Table.{table}
use Rattle.pages.specs.Pages.{pages}
use Rattle.keys.proofs.Collations.{usable-accepted, usable-unicode}
use Rattle.keys.proofs.Bounds.{key-most, Roomy, roomy-enough}
use Rattle.prepare.proofs.Rooms.{filled-written, one_written}
use Rattle.prepare.proofs.filling.fill_one.Goals as goal

-- the buffer is roomy
pub fill_short-requires : goal.fill_short-requires
fill_short-requires c =
    let enough : Roomy c.args.collation (length c.args.text.now) (length c.args.key.now) =
    roomy-enough _ _ _ (sym c.is_roomy.ensures ∙ c.if-is_roomy.true) in
    let r = c in
    let s = r in
    let usable = usable-unicode _ (enough).unicode s.requires.usable_under in
    let most = key-most (table s.args.entries.now s.args.pool.now) s.args.text.now usable.accepted in
    record { text_len_bound = s.requires.text_len_bound; usable = usable; text_in_bounds = omega (arith, most, (enough).enough) }

-- filled in
pub returns-then-text-lt-LONG_TEXT : goal.returns-then-text-lt-LONG_TEXT
returns-then-text-lt-LONG_TEXT c =
    let enough : Roomy c.args.collation (length c.args.text.now) (length c.args.key.now) =
    roomy-enough _ _ _ (sym c.is_roomy.ensures ∙ c.if-is_roomy.true) in
    let called = c in
    let r = called in
    let s = r in
    let accepted = usable-accepted s.args.collation (table s.args.entries.now s.args.pool.now)
    (pages s.args.presence.now s.args.ranks.now) s.requires.usable_under in
    one_written accepted (filled-written accepted (enough) called.fill_short.ensures)
