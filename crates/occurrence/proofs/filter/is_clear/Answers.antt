-- `occurrence::filter::is_clear` meets its contract.
-- Assumes nothing.
use Prim.Native.Nat.{◌-◌, ◌/◌}
use native.Mathlib.Omega.{arith}
use mathlib.Core.Path.{◌≡◌}
use lib.ListN.{length}
use borrow.Author.Tests.{ltb-true}
use Rattle.occurrence.proofs.Skips.{least_more, least-skipped, block-zero}
use Rattle.occurrence.proofs.filter.is_clear.Goals as goal

-- the least goes on
pub loop-k-preserved : goal.loop-k-preserved
loop-k-preserved c =
    let m = length c.args.needle.now in
    let zero =
    block-zero c.args.needle.now c.args.hay.now c.args.j c.loop-k.k (m / 2) (m - 1) (omega arith) (omega arith)
    in
    least_more c.loop-k.invariant (omega arith) (λ h. omega (arith, zero h))

-- the least is not 0
pub returns : goal.returns
returns c =
    λ e.
    let all : c.loop-k.k ≡ 64 = omega arith in
    least-skipped (rw all at c.loop-k.invariant) (ltb-true _ _ e) (omega arith)
