-- `prepare::prepare` meets its contract: `check_call` answers the front of the call and fills the pages, and `fill_one_apart`
-- what is left of it.
-- Assumes nothing.
use mathlib.Core.List.{[], ◌∷◌}
use Rattle.std.proofs.lemmas.Result.{err_from_is_err_and}
use Rattle.terms.specs.Collations.{collation_of}
use Rattle.table.specs.Table.{table}
use Rattle.pages.specs.Pages.{pages}
use Rattle.prepare.specs.Calls.{lent}
use Rattle.prepare.proofs.CallRefusals.{checks-passed, checks-refused, prepares-refused, passed-usable, prepares-passed}
use Rattle.prepare.proofs.CallRefusals.{passed-ready, prepares-ready}
use Rattle.prepare.proofs.prepare.Goals as goal

-- the table was accepted, and the pages were filled
pub fill_one_apart-requires : goal.fill_one_apart-requires
fill_one_apart-requires c =
    let t = table c.args.entries.now c.args.pool.now in
    let p = pages c.args.presence.now c.args.ranks.now in
    let checked = c.check_call.ensures in
    let passed = checks-passed checked.checks c.in_ok-known.was in
    record {
      text_len_bound = passed.first;
      usable_under = passed-usable (collation_of c.args.collation) t p (lent c.args.text.now c.args.key.now ∷ []) _
          checked.paged passed.refusal _ passed.known;
    }

pub returns : goal.returns
returns c =
    let t = table c.args.entries.now c.args.pool.now in
    let p = pages c.args.presence.now c.args.ranks.now in
    let ls = lent c.args.text.now c.args.key.now ∷ [] in
    let o = collation_of c.args.collation in
    let checked = c.check_call.ensures in
    let passed = checks-passed checked.checks c.in_ok-known.was in
    prepares-passed o t p ls _ checked.paged passed.refusal
    (prepares-ready passed.known (passed-ready o t p ls _ checked.paged passed.refusal) c.fill_one_apart.ensures)

-- refused by the front
pub returns-in_err-known : goal.returns-in_err-known
returns-in_err-known c =
    let checked = c.check_call.ensures in
    let passed = err_from_is_err_and c.from_residual.result c.from_residual.ensures.1 in
    rw (passed.1, passed.2)
    (record { prepares = prepares-refused (checks-refused checked.checks c.in_err-known.was); paged = checked.paged })
