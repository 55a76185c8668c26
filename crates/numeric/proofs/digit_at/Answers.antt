-- `numeric::digit_at` meets its contract: the octet there says whether a run begins, and past the end none does.
-- Assumes nothing.
use mathlib.Core.Path.{◌∙◌}
use Rattle.numeric.proofs.Runs.{run_at, run_past}
use Rattle.numeric.proofs.digit_at.Goals as goal

-- an octet is there
pub returns-then-i-text : goal.returns-then-i-text
returns-then-i-text c = c.is_digit.ensures ∙ run_at c.args.text.now c.args.i c.if-i-text.true

-- past the end
pub returns-else-i-text : goal.returns-else-i-text
returns-else-i-text c = run_past c.args.text.now c.args.i c.if-i-text.false
