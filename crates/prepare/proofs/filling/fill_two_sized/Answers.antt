-- `prepare::filling::fill_two_sized` meets its contract: what `check_room` refuses of the first key, or else of the second, is 8.
-- Assumes nothing.
use mathlib.Core.Path.{◌≡◌, sym, ap, ◌∙◌}
use lib.ListN.{length}
use Rattle.std.specs.Prelude.{None}
use Rattle.std.specs.Result.{result_err}
use Rattle.std.proofs.lemmas.Result.{err_from_is_err_and}
use Rattle.terms.proofs.Checks.{or_else-first, or_else-second}
use Rattle.prepare.specs.Promises.{room_needed}
use Rattle.prepare.proofs.Rooms.{two-refused}
use Rattle.prepare.proofs.filling.fill_two_sized.Goals as goal

-- the first key has too little room
pub returns-in_err-check_room : goal.returns-in_err-check_room
returns-in_err-check_room c =
    let short = sym c.check_room.ensures ∙ ap result_err c.in_err-check_room.was in
    let same = err_from_is_err_and c.from_residual.result c.from_residual.ensures.1 in
    rw (same.1, same.2)
    (two-refused c.size_key-one.result c.size_key-two.result _ c.size_key-one.ensures c.size_key-two.ensures
    (or_else-first _ _ _ short))

-- it has, and the second has not
pub returns-in_err-check_room-2 : goal.returns-in_err-check_room-2
returns-in_err-check_room-2 c =
    let enough : room_needed 1 (length c.args.first_key.now) c.size_key-one.result ≡ None =
    sym c.check_room.ensures ∙ ap result_err c.in_ok-check_room.was
    in
    let short = sym c.check_room-2.ensures ∙ ap result_err c.in_err-check_room-2.was in
    let same =
    err_from_is_err_and c.from_residual-in_err-check_room-2.result c.from_residual-in_err-check_room-2.ensures.1
    in
    rw (same.1, same.2)
    (two-refused c.size_key-one.result c.size_key-two.result _ c.size_key-one.ensures c.size_key-two.ensures
    (or_else-second _ _ enough ∙ short))
