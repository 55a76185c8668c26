-- `keys::long::write_by_row` meets its contract. The loop's invariant: the text was walked up to `at` (`Walking`). The
-- measure is what is left of the text.
-- Assumes nothing.
use mathlib.Core.List.{◌++◌}
use Prim.Native.Nat.{◌+◌}
use lib.ListN.{take}
use Rattle.terms.proofs.Parts.{take-drop, put_back}
use Rattle.table.specs.Table.{table, mapping_of}
use Rattle.keys.specs.Walks.{Walking}
use Rattle.keys.proofs.Walking.{walking-join}
use Rattle.keys.proofs.long.write_by_row.Goals as goal

-- the part joined
pub loop-at-preserved : goal.loop-at-preserved
loop-at-preserved c =
    let joined : let l = c in let r = c.write_run-written.result in Walking ((mapping_of (table c.args.entries.now c.args.pool.now))) ((c.args.text.now)) l.args.key.now (l.loop-at.at.0 + r.at.0) (l.loop-at.end.0 + r.end.0) (l.loop-at.lookups + r.lookups) (take l.loop-at.end.0 l.loop-at.key ++ (c.write_run-written.new.key)) =
    let l = c in
    walking-join l.loop-at.invariant
    (rw (take-drop l.loop-at.at.0 ((c.args.text.now)), take-drop l.loop-at.end.0 l.loop-at.key) at c.write_run-written.ensures.walked) in
    let w = c in
    let l = w in
    rw (put_back l.loop-at.end.0 l.loop-at.key ((c.write_run-written.new.key))) (joined)
