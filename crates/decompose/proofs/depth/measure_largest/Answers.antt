-- `decompose::depth::measure_largest` meets its contract. The loop's invariant: the first `i` jamo fit, and `most` is the largest
-- of them. Assumes nothing.
use Prim.Native.Nat.{◌+◌, ◌<◌, max}
use native.Mathlib.Omega.{arith}
use Rattle.std.proofs.lemmas.Grind.{common_steps}
use mathlib.Core.Path.{◌≡◌, sym, ◌∙◌}
use Rattle.table.specs.Table.{table, mapping_of}
use Rattle.hangul.specs.Hangul.{s_base}
use Rattle.hangul.proofs.Syllables.{syllable-below}
use Rattle.decompose.proofs.Largest.{largest-start, largest-more, largest-stop}
use Rattle.decompose.proofs.depth.measure_largest.Goals as goal

-- before the first turn
pub loop-i-init : goal.loop-i-init
loop-i-init c = largest-start (mapping_of (table c.args.entries.now c.args.pool.now)) c.args.room c.args.from

pub measure_jamo-requires : goal.measure_jamo-requires
measure_jamo-requires c =
    let below : c.args.from + c.loop-i.i < s_base = omega (arith, c.loop-i-test.true, c.requires.count_bound) in
    record { pool_value = c.requires.pool_value; c_value = syllable-below _ below }

-- one is too much
pub returns-in_err-measure_jamo : goal.returns-in_err-measure_jamo
returns-in_err-measure_jamo c =
    let m = mapping_of (table c.args.entries.now c.args.pool.now) in
    let nothing = sym c.measure_jamo.ensures ∙ c.in_err-measure_jamo.was in
    let stopped = largest-stop m c.args.room c.args.from c.loop-i.i nothing c.args.count c.loop-i-test.true in
    rw c.from_residual.ensures (sym stopped)

-- one more that fits
pub loop-i-preserved : goal.loop-i-preserved
loop-i-preserved c =
    let m = mapping_of (table c.args.entries.now c.args.pool.now) in
    let fits = sym c.measure_jamo.ensures ∙ c.in_ok-measure_jamo.was in
    let more = largest-more m c.args.room c.args.from c.loop-i.i _ _ c.loop-i.invariant fits in
    let larger : c.max-most.result ≡ max c.loop-i.most c.in_ok-measure_jamo.field-0 = grind (arith, common_steps) in
    rw larger more

-- every jamo was measured
pub returns : goal.returns
returns c =
    let m = mapping_of (table c.args.entries.now c.args.pool.now) in
    let end : c.loop-i.i ≡ c.args.count = omega arith in
    sym (rw end at c.loop-i.invariant)
