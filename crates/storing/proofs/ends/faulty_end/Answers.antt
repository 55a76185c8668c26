-- `storing::ends::faulty_end` meets its contract. The loop's invariant: no end below `i` is at fault. Assumes nothing.
use mathlib.Core.Path.{sym, ◌∙◌}
use native.Mathlib.Omega.{arith}
use lib.ListN.{length}
use borrow.Author.Count.{below_more}
use Rattle.terms.proofs.Lowest.{lowest-is, lowest-nowhere}
use Rattle.storing.specs.Ends.{faulty_end}
use Rattle.storing.proofs.ends.faulty_end.Goals as goal

-- an end at fault
pub returns-then-is_faulty_end : goal.returns-then-is_faulty_end
returns-then-is_faulty_end c =
    let holds = sym c.is_faulty_end.ensures ∙ c.if-is_faulty_end.true in
    sym (lowest-is (faulty_end c.args.octets c.args.ends.now) (length c.args.ends.now) c.loop-i.i (omega arith) holds
    c.loop-i.invariant)

-- one more that is not
pub loop-i-preserved : goal.loop-i-preserved
loop-i-preserved c = below_more _ _ c.loop-i.invariant (sym c.is_faulty_end.ensures ∙ c.if-is_faulty_end.false)

-- every end was passed
pub returns : goal.returns
returns c =
    sym (lowest-nowhere (faulty_end c.args.octets c.args.ends.now) (length c.args.ends.now)
    (λ k h. c.loop-i.invariant k (omega arith)))
