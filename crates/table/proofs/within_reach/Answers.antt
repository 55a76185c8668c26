-- `table::within_reach` meets its contract: the code points ascend, so entry k has at least the first code point and k.
-- Assumes nothing.
use native.Mathlib.Omega.{arith}
use Rattle.table.proofs.Form.{ascending-from}
use Rattle.table.proofs.within_reach.Goals as goal

-- the first entry is above
pub returns-then-sought-least : goal.returns-then-sought-least
returns-then-sought-least c =
    let s = c in
    record {
      within = omega arith;
      first = λ l. absurd (omega arith);
      above = λ k l m. omega (arith, ascending-from s.args.entries.now s.requires k m);
    }

-- those within reach, or all
pub returns : goal.returns
returns c =
    record {
      within = omega arith;
      first = λ l. omega arith;
      above = λ k l m. omega (arith, ascending-from c.args.entries.now c.requires k m);
    }
