-- `matching::fill_rows` meets its contract: the row is sorted, walked over, marked and then counted from 1.
-- Assumes nothing.
use mathlib.Core.Path.{◌≡◌, ap, ◌∙◌}
use Prim.Native.Nat.{◌+◌}
use native.Mathlib.Omega.{arith}
use mathlib.Core.Bool.{true}
use lib.Dec.{ltb}
use lib.ListN.{length}
use borrow.Author.Tests.{ltb-true, lt-ltb}
use Rattle.terms.specs.Lists.{all}
use Rattle.terms.specs.Refusals.{ends_most}
use Rattle.terms.proofs.Lists.{all-mono}
use Rattle.sorting.specs.Sorted.{numbers}
use Rattle.sorting.specs.KeyOrder.{key_in, all_numbered, key_order}
use Rattle.sorting.proofs.Sorting.{all-sorted}
use Rattle.partners.proofs.Those.{numbers-most}
use Rattle.matching.proofs.fill_rows.Goals as goal

pub mark_repeats-requires : goal.mark_repeats-requires
mark_repeats-requires c =
    let below : all_numbered c.args.ends.now c.sort_numbers.new.row ≡ true =
    let ends = c.args.ends.now in
    let order = key_order (key_in c.args.store.now ends) in
    let from : 0 + length ends ≡ length ends = omega arith in
    ap (all (λ x. ltb x (length ends))) c.sort_numbers.ensures
    ∙ all-sorted order (λ x. ltb x (length ends)) (numbers 0 (length ends))
    ∙ rw from at (numbers-most 0 (length ends)) in
    let walked = c in
    let sort = c in
    let s = sort in
    record {
      ends = s.requires.ends;
      row_value = below;
      repeats_len = omega (
        arith,
        s.requires.row_len,
        s.requires.repeats_len,
        sort.sort_numbers.auto.row,
        sort.sort_numbers.auto.spare,
        walked.walk-totals.auto.positions,
      );
    }

pub count_from_one-requires : goal.count_from_one-requires
count_from_one-requires c =
    let below : all_numbered c.args.ends.now c.sort_numbers.new.row ≡ true =
    let ends = c.args.ends.now in
    let order = key_order (key_in c.args.store.now ends) in
    let from : 0 + length ends ≡ length ends = omega arith in
    ap (all (λ x. ltb x (length ends))) c.sort_numbers.ensures
    ∙ all-sorted order (λ x. ltb x (length ends)) (numbers 0 (length ends))
    ∙ rw from at (numbers-most 0 (length ends)) in
    let sort = c in
    let n = length sort.args.ends.now in
    all-mono (λ x. ltb x n) (λ x. ltb x ends_most)
    (λ x h. lt-ltb x ends_most (omega (arith, ltb-true x n h, sort.requires.ends_len_bound))) sort.sort_numbers.new.row
    (below)
