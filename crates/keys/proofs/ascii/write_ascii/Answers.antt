-- `keys::ascii::write_ascii` meets its contract. The loop's invariant: the first `at` octets of the text were raised and written
-- (`Raising`), into as many of the key (`end`). The measure is what is left of the text.
-- Assumes nothing.
use Prim.Native.Nat.{◌-◌}
use native.Mathlib.Omega.{arith}
use Rattle.keys.proofs.Raising.{raising-more}
use Rattle.keys.proofs.ascii.write_ascii.Goals as goal

-- one octet more
pub loop-at-preserved : goal.loop-at-preserved
loop-at-preserved c =
    let raised = c in
    let l = raised in
    let s = l in
    let more = raising-more s.args.text.now s.args.key.now l.loop-at.at.0 l.loop-at.key l.loop-at.invariant.1
    raised.raised.result
    raised.loop-at-test.true s.requires raised.raised.ensures in
    (omega (arith, l.loop-at.invariant.0), rw l.loop-at.invariant.0 more)
