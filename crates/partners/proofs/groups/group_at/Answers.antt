-- `partners::groups::group_at` meets its contract: a number of the second list comes before those after it.
-- Assumes nothing.
use mathlib.Core.Path.{sym}
use Prim.Native.Nat.{suc}
use native.Mathlib.Omega.{arith}
use lib.ListN.{drop, get_or, length-drop}
use Rattle.sorting.specs.KeyOrder.{key_in}
use Rattle.partners.specs.Groups.{is_partner}
use Rattle.partners.proofs.Those.{those-most}
use Rattle.partners.proofs.Leading.{at_first, at_second}
use Rattle.partners.proofs.Telling.{tells-same, tells_more}
use Rattle.partners.proofs.groups.group_at.Goals as goal

pub returns-then-x-middle : goal.returns-then-x-middle
returns-then-x-middle c =
    let s = c in
    let key = key_in s.args.store.now s.args.ends.now in
    tells-same (sym (at_first key s.args.middle s.args.row.now s.args.i s.requires.i_in_bounds
    c.if-x-middle.true))
    c.group_after-after.ensures

pub overflow_add-result : goal.overflow_add-result
overflow_add-result c =
    let s = c in
    let key = key_in s.args.store.now s.args.ends.now in
    let row = s.args.row.now in
    let rest = drop (suc s.args.i) row in
    omega (
      arith,
      c.group_after-after.ensures.count,
      those-most (is_partner key s.args.middle (key (get_or row s.args.i 0))) rest,
      length-drop (suc s.args.i) row,
      s.requires.row_len_bound,
    )

pub returns : goal.returns
returns c =
    let s = c in
    let key = key_in s.args.store.now s.args.ends.now in
    tells-same
    (sym (at_second key s.args.middle s.args.row.now s.args.i s.requires.i_in_bounds c.if-x-middle.false))
    (tells_more (get_or s.args.row.now s.args.i 0) c.group_after-after.ensures)
