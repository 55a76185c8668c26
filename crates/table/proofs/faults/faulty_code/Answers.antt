-- `table::faults::faulty_code` meets its contract. The loop's invariant: no entry below `i` is faulty. Assumes nothing.
use native.Mathlib.Omega.{arith}
use mathlib.Core.Path.{sym, ◌∙◌}
use borrow.Author.Count.{below_more}
use Rattle.terms.proofs.Lowest.{lowest-is, lowest-nowhere}
use Rattle.table.specs.Layout.{entry_count}
use Rattle.table.specs.Table.{faulty_code}
use Rattle.table.proofs.faults.faulty_code.Goals as goal

-- a faulty entry
pub returns-then-is_faulty_code : goal.returns-then-is_faulty_code
returns-then-is_faulty_code c =
    let holds = sym c.is_faulty_code.ensures ∙ c.if-is_faulty_code.true in
    sym (lowest-is (faulty_code _) _ c.loop-i.i (omega arith) holds c.loop-i.invariant)

-- one entry more that is not faulty
pub loop-i-preserved : goal.loop-i-preserved
loop-i-preserved c = below_more _ _ c.loop-i.invariant (sym c.is_faulty_code.ensures ∙ c.if-is_faulty_code.false)

-- every entry was passed
pub returns : goal.returns
returns c =
    let es = c.args.entries.now in
    sym (lowest-nowhere (faulty_code es) (entry_count es) (λ k h. c.loop-i.invariant k (omega arith)))
