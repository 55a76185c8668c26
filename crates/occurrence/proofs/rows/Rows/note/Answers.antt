-- `occurrence::rows::Rows::note` meets its contract.
-- Assumes nothing.
use Prim.Native.Nat.{◌+◌}
use native.Mathlib.Omega.{arith}
use Rattle.occurrence.proofs.Candidates.{TableOf, table-short, table-reached, table-noted, table_same}
use Rattle.occurrence.proofs.Candidates.{periods-set, reaches-set, table_on, candidate-on}
use Rattle.occurrence.proofs.rows.Rows.note.Goals as goal
use Rattle.occurrence.proofs.rows.Rows.note.Goals.{then-j-i+then-reach-j, else-j-i}
use Rattle.occurrence.proofs.rows.Rows.note.Goals.{else-j-i-via-then-j-i+else-reach-j, else-j-i-via-else-j-i}

-- the table after candidate j
pub least_shift-s-requires : goal.least_shift-s-requires
least_shift-s-requires c =
    let joined : TableOf c.args.needle.now c.if-j-i.self c.if-j-i.reach (c.loop-j.j + 1) =
    let t = c.loop-j.invariant.0 in
    let e = c.extend-i.ensures in
    let pos = c.loop-j.invariant.1.start in
    elim c.if-j-i.branch [
      | then-j-i+then-reach-j w ↦
          table_same w.self-is w.reach-is
          (rw (periods-set c.loop-j.self _, reaches-set c.loop-j.self _)
          (table-noted t e pos (omega arith) (omega arith) (omega arith) (omega arith)))
      | else-j-i w ↦
          table_same w.self-is w.reach-is
          (elim w.else-j-i.branch [
            | else-j-i-via-then-j-i+else-reach-j w' ↦ table-reached t e pos (omega arith)
            | else-j-i-via-else-j-i w' ↦ table-short t e pos (omega arith)
          ])
    ] in
    (omega arith, joined.rows.ordered)

-- on to the next candidate
pub loop-j-preserved : goal.loop-j-preserved
loop-j-preserved c =
    let joined : TableOf c.args.needle.now c.if-j-i.self c.if-j-i.reach (c.loop-j.j + 1) =
    let t = c.loop-j.invariant.0 in
    let e = c.extend-i.ensures in
    let pos = c.loop-j.invariant.1.start in
    elim c.if-j-i.branch [
      | then-j-i+then-reach-j w ↦
          table_same w.self-is w.reach-is
          (rw (periods-set c.loop-j.self _, reaches-set c.loop-j.self _)
          (table-noted t e pos (omega arith) (omega arith) (omega arith) (omega arith)))
      | else-j-i w ↦
          table_same w.self-is w.reach-is
          (elim w.else-j-i.branch [
            | else-j-i-via-then-j-i+else-reach-j w' ↦ table-reached t e pos (omega arith)
            | else-j-i-via-else-j-i w' ↦ table-short t e pos (omega arith)
          ])
    ] in
    let pos = c.loop-j.invariant.1.start in
    let e = c.extend-i.ensures in
    let shift = c.least_shift-s.ensures in
    (table_on joined e pos (omega arith) shift, candidate-on joined e pos (omega arith) shift)
