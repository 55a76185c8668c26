-- `many::checks::long_text` meets its contract. The loop's invariant: no text below `i` is over the limit. Assumes nothing.
use mathlib.Core.Path.{sym, ◌∙◌}
use native.Mathlib.Omega.{arith}
use lib.ListN.{length}
use borrow.Author.Count.{below_more}
use Rattle.terms.proofs.Lowest.{lowest-is, lowest-nowhere}
use Rattle.many.specs.Many.{long_text}
use Rattle.many.proofs.checks.long_text.Goals as goal

-- a text over the limit
pub returns-then-is_long : goal.returns-then-is_long
returns-then-is_long c =
    let holds = sym c.is_long.ensures ∙ c.if-is_long.true in
    sym (lowest-is (long_text c.args.ends.now) (length c.args.ends.now) c.loop-i.i (omega arith) holds c.loop-i.invariant)

-- one more that is not
pub loop-i-preserved : goal.loop-i-preserved
loop-i-preserved c = below_more _ _ c.loop-i.invariant (sym c.is_long.ensures ∙ c.if-is_long.false)

-- every text was passed
pub returns : goal.returns
returns c =
    sym (lowest-nowhere (long_text c.args.ends.now) (length c.args.ends.now) (λ k h. c.loop-i.invariant k (omega arith)))
