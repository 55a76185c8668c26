-- `prepare::prepare_accepted` meets its contract: the table passes, so that `check_texts` answers the front of the call, and
-- `fill_one` what is left of it.
-- Assumes nothing.
use Rattle.std.proofs.lemmas.Result.{err_from_is_err_and}
use lib.ListN.{length}
use Rattle.terms.specs.Collations.{collation_of}
use Rattle.table.specs.Table.{table}
use Rattle.pages.specs.Pages.{pages}
use Rattle.prepare.specs.Promises.{ChecksCall}
use Rattle.prepare.proofs.CallRefusals.{checks-texts, checks-passed, checks-refused, prepares-ready}
use Rattle.prepare.proofs.CallRefusals.{prepares-refused}
use Rattle.prepare.proofs.prepare_accepted.Goals as goal

-- what is left of the call decides
pub returns : goal.returns
returns c =
    let t = table c.args.entries.now c.args.pool.now in
    let p = pages c.args.presence.now c.args.ranks.now in
    let checked : ChecksCall (collation_of c.args.collation) (length c.args.text.now) 0 t p c.check_texts.result =
    checks-texts c.requires c.check_texts.ensures
    in
    let passed = checks-passed checked c.in_ok-known.was in
    prepares-ready passed.known passed.refusal c.fill_one.ensures

-- refused for a text
pub returns-in_err-known : goal.returns-in_err-known
returns-in_err-known c =
    let t = table c.args.entries.now c.args.pool.now in
    let p = pages c.args.presence.now c.args.ranks.now in
    let checked : ChecksCall (collation_of c.args.collation) (length c.args.text.now) 0 t p c.check_texts.result =
    checks-texts c.requires c.check_texts.ensures
    in
    let passed = err_from_is_err_and c.from_residual.result c.from_residual.ensures.1 in
    rw (passed.1, passed.2) (prepares-refused (checks-refused checked c.in_err-known.was))
