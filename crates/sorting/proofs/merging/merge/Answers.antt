-- `sorting::merging::merge` meets its contract. The invariant: what stands in the other row, and then what is left of
-- both parts merged, is the whole; what falls is how much is left.
-- Assumes nothing.
use mathlib.Core.Path.{sym, ◌∙◌}
use Rattle.sorting.specs.KeyOrder.{key_in, key_order}
use Rattle.sorting.proofs.Halves.{merging-left, merging-right, merging-done}
use Rattle.sorting.proofs.merging.merge.Goals as goal

pub loop-i-preserved-then-takes_left : goal.loop-i-preserved-then-takes_left
loop-i-preserved-then-takes_left c =
    let l = c in
    let m = l.loop-i.invariant in
    let s = l in
    let test = sym c.takes_left.ensures ∙ c.if-takes_left.true in
    merging-left ((key_order (key_in c.args.store.now c.args.ends.now))) m l.loop-i-test.true test

pub loop-i-preserved : goal.loop-i-preserved
loop-i-preserved c =
    let l = c in
    let m = l.loop-i.invariant in
    let s = l in
    let test = sym c.takes_left.ensures ∙ c.if-takes_left.false in
    merging-right ((key_order (key_in c.args.store.now c.args.ends.now))) m l.loop-i-test.true test

pub returns : goal.returns
returns c = merging-done ((key_order (key_in c.args.store.now c.args.ends.now))) c.loop-i.invariant c.loop-i-test.false
