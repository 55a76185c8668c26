-- `occurrence::rows::Rows::least_shift` meets its contract.
-- Assumes nothing.
use mathlib.Core.Path.{◌≡◌}
use native.Mathlib.Omega.{arith}
use lib.ListN.{length-take}
use Rattle.occurrence.proofs.Shifts.{counted, passed-more, shifted_none, shifted-over, shifted_row}
use Rattle.occurrence.proofs.rows.Rows.least_shift.Goals as goal
use Rattle.occurrence.proofs.rows.Rows.least_shift.Goals.{else-loop-row-test, then-loop-row-test+then-third-row}

-- a row that reaches
pub returns-then-i-row : goal.returns-then-i-row
returns-then-i-row c =
    let row = counted c.args.self.now c.loop-row.row-index c.loop-row-test.true in
    rw (← row.period)
    (shifted_row c.loop-row.row-index c.requires.1 c.loop-row.invariant row.below (rw row.period c.if-third-row.false)
    (rw row.reach c.if-i-row.true))

-- a row that doesn't
pub loop-row-preserved : goal.loop-row-preserved
loop-row-preserved c =
    let row = counted c.args.self.now c.loop-row.row-index c.loop-row-test.true in
    passed-more c.loop-row.invariant (rw row.reach c.if-i-row.false)

-- no row is left, or the next one's period is over a third
pub returns : goal.returns
returns c =
    elim c.loop-row-test.branch [
      | else-loop-row-test w ↦
          let all : c.loop-row.row-index ≡ c.args.self.now.count =
          omega (arith, length-take c.args.self.now.count c.args.self.now.rows)
          in
          shifted_none (rw all at c.loop-row.invariant)
      | then-loop-row-test+then-third-row w ↦
          let row = counted c.args.self.now c.loop-row.row-index w.loop-row-test.true in
          shifted-over c.loop-row.row-index c.requires.1 c.loop-row.invariant (rw row.period w.if-third-row.true)
    ]
