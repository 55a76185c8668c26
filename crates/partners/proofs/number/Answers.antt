-- `partners::number` meets its contract. The invariant: so many places are filled.
-- Assumes nothing.
use native.Mathlib.Omega.{arith}
use Rattle.partners.proofs.Numbering.{numbering_start, numbering-more}
use Rattle.partners.proofs.number.Goals as goal

pub loop-i-init : goal.loop-i-init
loop-i-init c = numbering_start c.args.row.now

pub loop-i-preserved : goal.loop-i-preserved
loop-i-preserved c = numbering-more c.loop-i.invariant (omega (arith, c.loop-i-test.true, c.loop-i.auto.row))
