-- `storing::ends::check_ends` meets its contract: 14, 36 at the lowest end at fault, or neither.
-- Assumes nothing.
use mathlib.Core.Path.{sym, ◌∙◌}
use borrow.Author.Tests.{lt-ltb, le-ltb}
use Rattle.storing.specs.Ends.{ends_refusal}
use Rattle.storing.proofs.ends.check_ends.Goals as goal

-- too many
pub returns-then-ends-gt-ENDS_MOST : goal.returns-then-ends-gt-ENDS_MOST
unfolding ends_refusal
returns-then-ends-gt-ENDS_MOST c = simp (lt-ltb _ _ c.if-ends-gt-ENDS_MOST.true, c.refused.ensures)

-- one is at fault
pub returns-in-Some : goal.returns-in-Some
unfolding ends_refusal
returns-in-Some c =
    let found = sym c.faulty_end.ensures ∙ c.in-Some.is in
    simp (le-ltb _ _ c.if-ends-gt-ENDS_MOST.false, found, c.refused-in-Some.ensures)

-- none is
pub returns-in-None : goal.returns-in-None
unfolding ends_refusal
returns-in-None c =
    let found = sym c.faulty_end.ensures ∙ c.in-None.is in
    simp (le-ltb _ _ c.if-ends-gt-ENDS_MOST.false, found)
