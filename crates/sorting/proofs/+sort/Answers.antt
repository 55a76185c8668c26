-- `sorting::sort` meets its contract: each half comes back in order, and joined they are the whole in order (`sorted-append`).
-- The measure of the recursion is the row's length.
-- Assumes nothing.
use mathlib.Core.Path.{sym, ap, ◌∙◌}
use Prim.Native.Nat.{◌/◌, ◌≤◌}
use native.Mathlib.Omega.{arith}
use lib.Dec.{ltb}
use lib.ListN.{length, length-drop}
use lib.Seq.{length-take-le}
use Rattle.sorting.specs.KeyOrder.{key_in, key_order}
use Rattle.sorting.proofs.KeyOrders.{key_order-total, key_order-trans}
use Rattle.sorting.proofs.Sorting.{sorted-short}
use Rattle.sorting.proofs.Recursion.{all_take, second-part, second-numbered, long-back, back-numbered}
use Rattle.sorting.proofs.Recursion.{back-merged}
use Rattle.sorting.proofs.+sort.Goals as goal

-- too short to be out of order
pub returns-then-n-lt2 : goal.returns-then-n-lt2
returns-then-n-lt2 t c =
    let s = c in
    sym (sorted-short ((key_order (key_in c.args.store.now c.args.ends.now))) s.args.row.now c.if-n-lt2.true)

pub sort-requires : goal.sort-requires
sort-requires t c =
    let s = c in
    let row = s.args.row.now in
    let n = length-take-le (length row / 2) row (omega arith) in (
      omega (arith, s.decreases, n, c.if-n-lt2.false),
      (
        s.requires.ends,
        (
          all_take (λ x. ltb x (length s.args.ends.now)) (length row / 2) row s.requires.row_value,
          omega (arith, n, s.requires.row_in_bounds),
        ),
      ),
    )

pub sort-requires-2 : goal.sort-requires-2
sort-requires-2 t c =
    let s = c in
    let row = s.args.row.now in
    let within : length row / 2 ≤ length row = omega arith in
    let one = c.sort in
    let sorting = second-part ((key_order (key_in c.args.store.now c.args.ends.now))) row (length row / 2) within one.new.row one.ensures in (
      omega (arith, s.decreases, ap length sorting, length-drop (length row / 2) row),
      (
        s.requires.ends,
        (
          second-numbered ((key_order (key_in c.args.store.now c.args.ends.now))) row (length row / 2) within one.new.row one.ensures
              (λ x. ltb x (length s.args.ends.now))
              s.requires.row_value,
          omega (arith, ap length sorting, length-drop (length row / 2) row, s.requires.row_in_bounds),
        ),
      ),
    )

pub join-requires : goal.join-requires
join-requires t c =
    let s = c in
    let row = s.args.row.now in
    let n = length row / 2 in
    let within : n ≤ length row = omega arith in
    let two = c.sort-2 in
    let one = c.sort in
    let long = long-back ((key_order (key_in c.args.store.now c.args.ends.now))) row n within one.new.row one.ensures two.new.row two.ensures in
    record {
      ends = s.requires.ends;
      row_value = back-numbered ((key_order (key_in c.args.store.now c.args.ends.now))) row n within one.new.row one.ensures two.new.row two.ensures
          (λ x. ltb x (length s.args.ends.now))
          s.requires.row_value;
      half_in_bounds = omega (arith, long);
      row_in_bounds = omega (arith, long, s.requires.row_in_bounds);
    }

-- both halves in order, joined
pub returns : goal.returns
returns t c =
    let s = c in
    let row = s.args.row.now in
    let within : length row / 2 ≤ length row = omega arith in
    let two = c.sort-2 in
    let one = c.sort in
    c.join.ensures
    ∙ back-merged ((key_order (key_in c.args.store.now c.args.ends.now))) row (length row / 2) within one.new.row one.ensures two.new.row
    two.ensures
    (key_order-trans (key_in s.args.store.now s.args.ends.now))
    (key_order-total (key_in s.args.store.now s.args.ends.now))
