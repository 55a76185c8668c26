-- `octets::compare_octets` meets its contract: the first four octets of each decide, or what follows them does.
-- Assumes nothing.
use mathlib.Core.Path.{◌≡◌, ◌∙◌, sym}
use native.Mathlib.Omega.{arith}
use Rattle.std.specs.declared.cmp.Ordering.TheVariants.{Less, Equal, Greater}
use Rattle.std.specs.Ordering.{nat_cmp}
use Rattle.std.proofs.lemmas.Grind.{common_steps}
use Rattle.octets.proofs.Numbers.{begins-four, read_unequal, read_same}
use Rattle.octets.proofs.compare_octets.Goals as goal

-- the first is lower there
pub returns-then-x-y : goal.returns-then-x-y
returns-then-x-y c =
    let lower = c.if-x-y.true in
    let compared : Less ≡ nat_cmp c.from_be_bytes-x.result c.from_be_bytes-y.result = grind (arith, common_steps) in
    read_unequal
    (begins-four (λ i. omega (arith, c.type_inv.a i)) c.in-Some-Some.ensures.cases c.from_be_bytes-x.ensures)
    (begins-four (λ i. omega (arith, c.type_inv.b i)) c.in-Some-Some.ensures'.cases c.from_be_bytes-y.ensures)
    compared
    (λ e. cc)

-- the second is
pub returns-then-y-x : goal.returns-then-y-x
returns-then-y-x c =
    let lower = c.if-y-x.true in
    let compared : Greater ≡ nat_cmp c.from_be_bytes-x.result c.from_be_bytes-y.result = grind (arith, common_steps) in
    read_unequal
    (begins-four (λ i. omega (arith, c.type_inv.a i)) c.in-Some-Some.ensures.cases c.from_be_bytes-x.ensures)
    (begins-four (λ i. omega (arith, c.type_inv.b i)) c.in-Some-Some.ensures'.cases c.from_be_bytes-y.ensures)
    compared
    (λ e. cc)

-- neither is
pub returns-else-y-x : goal.returns-else-y-x
returns-else-y-x c =
    let one = c.if-x-y.false in
    let other = c.if-y-x.false in
    let compared : Equal ≡ nat_cmp c.from_be_bytes-x.result c.from_be_bytes-y.result = grind (arith, common_steps) in
    c.compare_blocks.ensures
    ∙ sym
    (read_same
    (begins-four (λ i. omega (arith, c.type_inv.a i)) c.in-Some-Some.ensures.cases c.from_be_bytes-x.ensures)
    (begins-four (λ i. omega (arith, c.type_inv.b i)) c.in-Some-Some.ensures'.cases c.from_be_bytes-y.ensures)
    compared
    (cc))
