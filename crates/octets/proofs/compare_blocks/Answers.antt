-- `octets::compare_blocks` meets its contract.
-- Assumes nothing.
use mathlib.Core.Path.{sym, ◌∙◌}
use Rattle.octets.proofs.Numbers.{begins-eight, read_unequal, read_same, octets-left}
use Rattle.octets.proofs.compare_blocks.Goals as goal

-- octets that differ
pub returns-in_default-cmp : goal.returns-in_default-cmp
returns-in_default-cmp c =
    let l = c.loop-block_a.invariant in
    read_unequal
    (begins-eight l.octets_a c.in-Some-Some.ensures.cases c.from_be_bytes.ensures)
    (begins-eight l.octets_b c.in-Some-Some.ensures'.cases c.from_be_bytes-in-Some-Some.ensures)
    c.cmp.ensures
    c.in_default-cmp.not-Equal
    ∙ sym l.same

-- octets that are the same
pub loop-block_a-preserved : goal.loop-block_a-preserved
loop-block_a-preserved c =
    let l = c.loop-block_a.invariant in
    record {
      same =
          l.same
          ∙ read_same
          (begins-eight l.octets_a c.in-Some-Some.ensures.cases c.from_be_bytes.ensures)
          (begins-eight l.octets_b c.in-Some-Some.ensures'.cases c.from_be_bytes-in-Some-Some.ensures)
          c.cmp.ensures
          c.in-Equal.is;
      octets_a = octets-left 8 _ l.octets_a c.in-Some-Some.ensures.cases;
      octets_b = octets-left 8 _ l.octets_b c.in-Some-Some.ensures'.cases;
    }
