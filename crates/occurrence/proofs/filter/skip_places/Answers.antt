-- `occurrence::filter::skip_places` meets its contract. The loop's invariant: the places passed are skipped. The measure is
-- how many are left up to the stop. Assumes nothing.
use Prim.Native.Nat.{◌-◌, ◌/◌}
use native.Mathlib.Omega.{arith}
use mathlib.Core.Path.{refl}
use lib.ListN.{length}
use Rattle.occurrence.proofs.Skips.{skipped-more, matched-zero}
use Rattle.occurrence.proofs.filter.skip_places.Goals as goal

-- one of them is not
pub loop-at-preserved : goal.loop-at-preserved
loop-at-preserved c =
    let at-loop = c in
    let args = at-loop.args in
    let m = length args.needle.now in
    let zero =
    matched-zero
    args.needle.now
    args.hay.now
    {k = at-loop.loop-at.at}
    (m / 2)
    (m - 1)
    (omega arith)
    (omega arith)
    refl
    refl
    refl
    in
    skipped-more at-loop.loop-at.invariant (omega arith) (λ h. c.if-d-eq0.false (zero h))
