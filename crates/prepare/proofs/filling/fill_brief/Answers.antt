-- `prepare::filling::fill_brief` meets its contract: what `check_room` answers of the key that stands beside is 8, and where
-- there is room the key is put; a key that was given up is sized.
-- Assumes nothing.
use Rattle.std.specs.Result.{result_err}
use Rattle.std.specs.Prelude.{None}
use mathlib.Core.Path.{◌≡◌, sym, ap, ◌∙◌}
use lib.ListN.{length}
use Rattle.prepare.specs.Promises.{room_needed}
use Rattle.prepare.proofs.Beside.{beside-put}
use Rattle.prepare.proofs.Rooms.{one_written}
use Rattle.prepare.proofs.filling.fill_brief.Goals as goal

-- put
pub returns-in-Some : goal.returns-in-Some
returns-in-Some c =
    let room : room_needed 1 (length c.args.key.now) c.in-Some.summary ≡ None =
    sym c.check_room.ensures ∙ ap result_err c.in_ok-check_room.was
    in
    let filled = rw c.in-Some.is at c.try_filling.ensures in
    one_written c.requires.usable.accepted
    (record { sized = filled.numbers; room = room; left = c.put_beside.ensures ∙ beside-put filled c.args.key.now })
