-- `compare::order` meets its contract: `check_call` answers 1 to 7 and 15 and fills the pages, and `order_accepted` answers the
-- call that passed it.
-- Assumes nothing.
use mathlib.Core.Path.{refl}
use mathlib.Core.List.{[], ◌∷◌}
use Rattle.std.proofs.lemmas.Result.{err_from_is_err_and}
use Rattle.terms.specs.Collations.{collation_of}
use Rattle.table.specs.Table.{table}
use Rattle.pages.specs.Pages.{pages}
use Rattle.prepare.specs.Calls.{lent}
use Rattle.prepare.proofs.CallRefusals.{checks-passed, checks-refused, called-refused, passed-usable, called-passed}
use Rattle.compare.proofs.order.Goals as goal

-- the table was accepted, and the pages were filled
pub order_accepted-requires : goal.order_accepted-requires
order_accepted-requires c =
    let t = table c.args.entries.now c.args.pool.now in
    let p = pages c.args.presence.now c.args.ranks.now in
    let ls = lent c.args.first.now c.args.first_key.now ∷ lent c.args.second.now c.args.second_key.now ∷ [] in
    let checked = c.check_call.ensures in
    passed-usable (collation_of c.args.collation) t p ls _ checked.paged
    (checks-passed checked.checks c.in_ok-check_call.was).refusal

pub returns : goal.returns
returns c =
    let t = table c.args.entries.now c.args.pool.now in
    let p = pages c.args.presence.now c.args.ranks.now in
    let ls = lent c.args.first.now c.args.first_key.now ∷ lent c.args.second.now c.args.second_key.now ∷ [] in
    let checked = c.check_call.ensures in
    called-passed (collation_of c.args.collation) t p ls _ checked.paged
    (checks-passed checked.checks c.in_ok-check_call.was).refusal refl
    c.order_accepted.ensures

-- one of 1 to 7, or 15
pub returns-in_err-check_call : goal.returns-in_err-check_call
returns-in_err-check_call c =
    let checked = c.check_call.ensures in
    let passed = err_from_is_err_and c.from_residual.result c.from_residual.ensures.1 in
    rw (passed.1, passed.2)
    (record { called = called-refused (checks-refused checked.checks c.in_err-check_call.was) refl; paged = checked.paged })
