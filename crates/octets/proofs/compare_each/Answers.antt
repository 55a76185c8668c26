-- `octets::compare_each` meets its contract.
-- Assumes nothing.
use mathlib.Core.Path.{sym, ap, ◌∙◌}
use Prim.Native.Nat.{min, ◌≤◌}
use native.Mathlib.Omega.{arith}
use lib.ListN.{length}
use Rattle.std.proofs.lemmas.Grind.{common_steps}
use Rattle.octets.specs.Order.{compared_order}
use Rattle.octets.proofs.Order.{order-tie, order-octet, order-ends}
use Rattle.octets.proofs.Numbers.{cmp_compare}
use Rattle.octets.proofs.compare_each.Goals as goal

-- octets that differ
pub returns-then-a-i : goal.returns-then-a-i
returns-then-a-i c =
    ap compared_order c.cmp.ensures
    ∙ cmp_compare _ _
    ∙ sym
    (c.loop-i.invariant
    ∙ order-octet c.args.a.now c.args.b.now c.loop-i.i (grind (arith, common_steps)) (grind (arith, common_steps)) c.if-a-i.true)

-- octets that are the same
pub loop-i-preserved : goal.loop-i-preserved
loop-i-preserved c =
    c.loop-i.invariant
    ∙ order-tie c.args.a.now c.args.b.now c.loop-i.i (grind (arith, common_steps)) (grind (arith, common_steps)) c.if-a-i.false

-- one of them ends
pub returns : goal.returns
returns c =
    let ended : min (length c.args.a.now) (length c.args.b.now) ≤ c.loop-i.i = grind (arith, common_steps) in
    ap compared_order c.cmp-2.ensures
    ∙ cmp_compare _ _
    ∙ sym
    (c.loop-i.invariant
    ∙ order-ends c.args.a.now c.args.b.now c.loop-i.i (grind (arith, common_steps)) (grind (arith, common_steps)) ended)
