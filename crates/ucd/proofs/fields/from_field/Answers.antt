-- `ucd::fields::from_field` meets its contract: the next field starts after the separator.
-- Assumes nothing.
use Prim.Native.Nat.{◌<◌, ◌+◌}
use native.Mathlib.Omega.{arith}
use lib.ListN.{length}
use Rattle.ucd.specs.Fields.{cut}
use Rattle.ucd.proofs.Cutting.{stands-most, stands-inside, stands-more}
use Rattle.ucd.proofs.fields.from_field.Goals as goal

pub overflow_add-start : goal.overflow_add-start
overflow_add-start c = omega (arith, c.piece_end-start.ensures, stands-most c.loop.invariant, c.well_formed.0)

-- one field further
pub loop-preserved : goal.loop-preserved
loop-preserved c =
    let line = c.args.line.now in
    let s = c.loop.invariant in
    let more : c.loop.counter + 1 < length (cut 0x3B line) = omega (arith, c.loop-test.true, c.requires) in
    rw c.piece_end-start.ensures (stands-more s (stands-inside s more))
