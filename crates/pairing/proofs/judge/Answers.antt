-- `pairing::judge` meets its contract: the line is too long, or it has no tab, or its texts are compared.
-- Assumes nothing.
use Rattle.std.proofs.Common.{◌≡◌, sym, ◌∙◌, None, Some, length, arith}
use Rattle.std.proofs.lemmas.Result.{err_from_is_err_and}
use Rattle.terms.proofs.Lowest.{lowest-some}
use Rattle.pairing.specs.Pairing.{is_tab}
use Rattle.pairing.proofs.Judging.{judges-long, judges-tabless, judges-compared}
use Rattle.pairing.proofs.judge.Goals as goal

-- over 8,193 octets
pub returns-then-line-gt-PAIR_MOST : goal.returns-then-line-gt-PAIR_MOST
returns-then-line-gt-PAIR_MOST c = rw (c.refuse.ensures, c.number.ensures) (judges-long c.if-line-gt-PAIR_MOST.true)

-- no tab
pub returns-in_err-at : goal.returns-in_err-at
returns-in_err-at c =
    let none : c.find_tab.result ≡ None = grind arith in
    let err = err_from_is_err_and c.from_residual.result c.from_residual.ensures.1 in
    let is : c.refuse-2.result ≡ err.0 = grind arith in
    rw (err.1, ← is, c.refuse-2.ensures, c.number-2.ensures) (judges-tabless c.if-line-gt-PAIR_MOST.false (sym c.find_tab.ensures ∙ none))

-- a tab was found
pub order_around-requires : goal.order_around-requires
order_around-requires c =
    let line = c.args.line.now in
    let some : c.find_tab.result ≡ Some c.in_ok-at.at = grind arith in
    ((lowest-some (is_tab line) (length line) _ (sym c.find_tab.ensures ∙ some)).below, c.requires)

-- the texts are compared
pub returns : goal.returns
returns c =
    let some : c.find_tab.result ≡ Some c.in_ok-at.at = grind arith in
    judges-compared c.if-line-gt-PAIR_MOST.false (sym c.find_tab.ensures ∙ some) c.order_around.ensures
