-- `lists::find_shared_accepted` meets its contract: 1 and 11 to 14, or what is left after them.
-- Assumes nothing.
use mathlib.Core.Path.{◌≡◌, sym, ap, ◌∙◌}
use Rattle.std.specs.Prelude.{None, Some}
use Rattle.std.specs.Result.{result_err}
use Rattle.std.proofs.lemmas.Result.{err_from_is_err_and}
use Rattle.terms.specs.Collations.{collation_of}
use Rattle.terms.specs.Refusals.{first}
use Rattle.lists.specs.Lists.{lists_call, names_checks}
use Rattle.lists.specs.Promises.{Counted}
use Rattle.prepare.proofs.Paging.{usable-lookup}
use Rattle.lists.proofs.Sharing.{refused-names, refused-rooms, shares-refused, shares-same}
use Rattle.lists.proofs.find_shared_accepted.Goals as goal

pub returns : goal.returns
returns c =
    let d = lists_call (collation_of c.args.collation) c.args.first.now c.args.second.now c.args.entries.now c.args.pool.now
    c.args.presence.now c.args.ranks.now c.args.store.now c.args.partners.now c.args.positions.now in
    let k = c.in_ok-checked.checked in
    let known : (d.collation ≡ Some k.collation) × Counted d.first_list k.first × Counted d.second_list k.second =
    c.check_lists.ensures.known k c.in_ok-checked.was
    in
    let passed : None ≡ first (names_checks d.collation d.first_list d.second_list) =
    sym (ap result_err c.in_ok-checked.was) ∙ c.check_lists.ensures.refusal
    in
    shares-same (refused-rooms d passed (usable-lookup d.collation d.table d.pages c.requires)) (rw known.0 c.fill_lists.ensures)

pub returns-in_err-checked : goal.returns-in_err-checked
returns-in_err-checked c =
    let d = lists_call (collation_of c.args.collation) c.args.first.now c.args.second.now c.args.entries.now c.args.pool.now
    c.args.presence.now c.args.ranks.now c.args.store.now c.args.partners.now c.args.positions.now in
    let refusal = sym (ap result_err c.in_err-checked.was) ∙ c.check_lists.ensures.refusal in
    let same = err_from_is_err_and c.from_residual.result c.from_residual.ensures.1 in
    rw (same.1, same.2) (shares-refused d _ (refused-names d refusal))
