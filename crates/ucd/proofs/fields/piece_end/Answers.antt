-- `ucd::fields::piece_end` meets its contract.
-- Assumes nothing.
use native.Mathlib.Omega.{arith}
use Rattle.ucd.proofs.Cutting.{piece_end-end, piece_end-here, piece_end-later}
use Rattle.ucd.proofs.fields.piece_end.Goals as goal

-- the separator
pub returns-then-t-i : goal.returns-then-t-i
returns-then-t-i c =
    let a = c.args in
    omega (arith, piece_end-here a.separator a.t.now c.loop-i.i (omega arith) c.if-t-i.true)

-- another octet
pub loop-i-preserved : goal.loop-i-preserved
loop-i-preserved c =
    let a = c.args in
    omega (arith, piece_end-later a.separator a.t.now c.loop-i.i (omega arith) c.if-t-i.false)

-- the end
pub returns : goal.returns
returns c =
    let a = c.args in
    omega (arith, piece_end-end a.separator a.t.now c.loop-i.i (omega arith))
