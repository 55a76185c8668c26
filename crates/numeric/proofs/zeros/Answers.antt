-- `numeric::zeros` meets its contract.
-- Assumes nothing.
use native.Mathlib.Omega.{arith}
use Rattle.numeric.proofs.Runs.{zeros-end, zeros-other, zeros-more}
use Rattle.numeric.proofs.zeros.Goals as goal

-- another octet
pub returns-then-text-i-ne-ZERO : goal.returns-then-text-i-ne-ZERO
returns-then-text-i-ne-ZERO c =
    zeros-other c.args.text.now c.loop-i.i c.loop-i.invariant c.loop-i-test.true
    (λ e. omega (arith, e, c.if-text-i-ne-ZERO.true))

-- one zero more
pub loop-i-preserved : goal.loop-i-preserved
loop-i-preserved c =
    zeros-more c.args.text.now c.loop-i.i c.loop-i.invariant c.loop-i-test.true (omega (arith, c.if-text-i-ne-ZERO.false))

-- zeros only
pub returns : goal.returns
returns c =
    let zeros = zeros-end c.args.text.now c.loop-i.i c.loop-i.invariant c.loop-i-test.false in omega arith
