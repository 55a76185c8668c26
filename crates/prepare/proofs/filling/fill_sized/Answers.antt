-- `prepare::filling::fill_sized` meets its contract: what `check_room` answers of the size is 8, and where it is ready
-- the key is written.
-- Assumes nothing.
use Rattle.std.specs.Result.{result_err}
use Rattle.std.specs.Prelude.{None}
use mathlib.Core.Path.{◌≡◌, sym, ap, ◌∙◌}
use lib.ListN.{length}
use Rattle.table.specs.Table.{table}
use Rattle.pages.specs.Pages.{pages}
use Rattle.keys.proofs.Collations.{usable-accepted}
use Rattle.prepare.specs.Promises.{room_needed}
use Rattle.prepare.proofs.Rooms.{one_written}
use Rattle.prepare.proofs.filling.fill_sized.Goals as goal

-- written
pub returns : goal.returns
returns c =
    let room : room_needed 1 (length c.args.key.now) c.size_key-summary.result ≡ None =
    sym c.check_room.ensures ∙ ap result_err c.in_ok-check_room.was
    in
    one_written (usable-accepted c.args.collation (table c.args.entries.now c.args.pool.now)
    (pages c.args.presence.now c.args.ranks.now) c.requires.usable_under)
    (record { sized = c.size_key-summary.ensures; room = room; left = c.fill_key.ensures.left })
