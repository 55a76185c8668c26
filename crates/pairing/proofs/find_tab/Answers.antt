-- `pairing::find_tab` meets its contract: no octet before the one reached is a tab.
-- Assumes nothing.
use mathlib.Core.Path.{sym}
use native.Mathlib.Omega.{arith}
use lib.ListN.{length, get_or}
use borrow.Author.Tests.{eq-eqb}
use Rattle.terms.proofs.Lowest.{lowest-is, lowest-nowhere}
use Rattle.pairing.specs.Pairing.{is_tab}
use Rattle.pairing.proofs.find_tab.Goals as goal

-- the tab
pub returns-then-line-i-eq-TAB : goal.returns-then-line-i-eq-TAB
returns-then-line-i-eq-TAB c =
    let line = c.args.line.now in
    let i = c.loop-i.i in
    sym
    (lowest-is (is_tab line) (length line) i (omega arith) (eq-eqb (get_or line i 0) 9 c.if-line-i-eq-TAB.true)
    c.loop-i.invariant)

-- the end
pub returns : goal.returns
returns c =
    let line = c.args.line.now in
    sym (lowest-nowhere (is_tab line) (length line) (λ k h. c.loop-i.invariant k (omega arith)))
