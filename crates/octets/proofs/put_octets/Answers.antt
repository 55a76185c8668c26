-- `octets::put_octets` meets its contract. The loop's invariant: the octets so far are written, and four or more are left, which
-- are the measure. The last block is written where some of its octets may be written already.
-- Assumes nothing.
use mathlib.Core.Path.{◌≡◌, refl}
use Prim.Native.Nat.{◌+◌, ◌-◌}
use native.Mathlib.Omega.{arith}
use lib.ListN.{length, take, drop}
use Rattle.terms.specs.Lists.{put_at}
use Rattle.octets.specs.Put.{Puts}
use Rattle.octets.proofs.Puts.{puts-block, puts-all}
use Rattle.octets.proofs.put_octets.Goals as goal

-- all of them
pub returns-then-n-i-le4 : goal.returns-then-n-i-le4
returns-then-n-i-le4 c =
    let next : let a = c.args in Puts (take (c.loop-i.i + 4) a.octets.now) a.out.now (c.loop-i.i + 4) (put_at c.loop-i.i (take 4 (drop c.loop-i.i a.octets.now)) c.loop-i.out) =
    let a = c.args in
    puts-block a.octets.now a.out.now c.loop-i.i c.loop-i.out c.loop-i.invariant.1 c.loop-i.i 4 (omega arith)
    (omega arith) c.loop-i.invariant.0 in
    let block = c in
    let l = block in
    let a = l.args in
    let n = length a.octets.now in
    let so_far = rw (← block.put_four.ensures) at (next) in
    let end : n - 4 + 4 ≡ n = omega arith in
    rw c.put_four-then-n-i-le4.ensures
    (puts-all a.octets.now a.out.now n _
    (rw end at
    (puts-block a.octets.now a.out.now (l.loop-i.i + 4) _ so_far (n - 4) 4 (omega arith) (omega arith) (omega arith)))
    refl)

-- one block more
pub loop-i-preserved : goal.loop-i-preserved
loop-i-preserved c =
    let next : let a = c.args in Puts (take (c.loop-i.i + 4) a.octets.now) a.out.now (c.loop-i.i + 4) (put_at c.loop-i.i (take 4 (drop c.loop-i.i a.octets.now)) c.loop-i.out) =
    let a = c.args in
    puts-block a.octets.now a.out.now c.loop-i.i c.loop-i.out c.loop-i.invariant.1 c.loop-i.i 4 (omega arith)
    (omega arith) c.loop-i.invariant.0 in
    let block = c in
    (omega arith, rw block.put_four.ensures (next))
