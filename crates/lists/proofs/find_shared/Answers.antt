-- `lists::find_shared` meets its contract: 1 and 11 to 14, 3 to 7 and 15, or what is left after them.
-- Assumes nothing.
use mathlib.Core.Path.{◌≡◌, sym, ap, ◌∙◌}
use Rattle.std.specs.Prelude.{None, Some}
use Rattle.std.specs.Result.{result_err}
use Rattle.std.proofs.lemmas.Result.{err_from_is_err_and}
use Rattle.terms.specs.Collations.{collation_of}
use Rattle.terms.specs.Refusals.{first}
use Rattle.pages.specs.Pages.{pages}
use Rattle.prepare.specs.Calls.{lookup_check}
use Rattle.lists.specs.Lists.{lists_call, names_checks}
use Rattle.lists.specs.Promises.{Counted}
use Rattle.prepare.proofs.CallRefusals.{lookup-told, lookup-left, lookup-ready}
use Rattle.lists.proofs.Sharing.{first-listed, second-listed, refused-names, refused-lookup, refused-rooms}
use Rattle.lists.proofs.Sharing.{paged-names, paged-lookup, shares-refused, shares-same, shares-repaged}
use Rattle.lists.proofs.find_shared.Goals as goal

pub fill_lists-requires : goal.fill_lists-requires
fill_lists-requires c =
    let d = lists_call (collation_of c.args.collation) c.args.first.now c.args.second.now c.args.entries.now c.args.pool.now
    c.args.presence.now c.args.ranks.now c.args.store.now c.args.partners.now c.args.positions.now in
    let k = c.in_ok-checked.checked in
    let known : (d.collation ≡ Some k.collation) × Counted d.first_list k.first × Counted d.second_list k.second =
    c.check_lists.ensures.known k c.in_ok-checked.was
    in
    let passed : None ≡ first (names_checks d.collation d.first_list d.second_list) =
    sym (ap result_err c.in_ok-checked.was) ∙ c.check_lists.ensures.refusal
    in
    record {
      usable_under = lookup-ready c.check_call.ensures known.0 c.in_ok-check_call.was;
      listed = first-listed d.collation d.first_list d.second_list passed k.first known.1;
      listed_2 = second-listed d.collation d.first_list d.second_list passed k.second known.2;
    }

-- what is left decides
pub returns : goal.returns
returns c =
    let d = lists_call (collation_of c.args.collation) c.args.first.now c.args.second.now c.args.entries.now c.args.pool.now
    c.args.presence.now c.args.ranks.now c.args.store.now c.args.partners.now c.args.positions.now in
    let k = c.in_ok-checked.checked in
    let known : (d.collation ≡ Some k.collation) × Counted d.first_list k.first × Counted d.second_list k.second =
    c.check_lists.ensures.known k c.in_ok-checked.was
    in
    let passed : None ≡ first (names_checks d.collation d.first_list d.second_list) =
    sym (ap result_err c.in_ok-checked.was) ∙ c.check_lists.ensures.refusal
    in
    let lookup : lookup_check d.collation d.table d.pages ≡ None =
    sym (lookup-told c.check_call.ensures known.0) ∙ ap result_err c.in_ok-check_call.was
    in
    record {
      shares =
          shares-same (refused-rooms d passed lookup)
          (shares-repaged d (pages c.check_call.new.presence c.check_call.new.ranks) (rw known.0 c.fill_lists.ensures));
      paged = paged-lookup d passed (lookup-left c.check_call.ensures known.0);
    }

-- one of 3 to 7, or 15
pub returns-in_err-check_call : goal.returns-in_err-check_call
returns-in_err-check_call c =
    let d = lists_call (collation_of c.args.collation) c.args.first.now c.args.second.now c.args.entries.now c.args.pool.now
    c.args.presence.now c.args.ranks.now c.args.store.now c.args.partners.now c.args.positions.now in
    let k = c.in_ok-checked.checked in
    let known : (d.collation ≡ Some k.collation) × Counted d.first_list k.first × Counted d.second_list k.second =
    c.check_lists.ensures.known k c.in_ok-checked.was
    in
    let passed : None ≡ first (names_checks d.collation d.first_list d.second_list) =
    sym (ap result_err c.in_ok-checked.was) ∙ c.check_lists.ensures.refusal
    in
    let told = sym (lookup-told c.check_call.ensures known.0) ∙ ap result_err c.in_err-check_call.was in
    let same = err_from_is_err_and c.from_residual-in_err-check_call.result c.from_residual-in_err-check_call.ensures.1 in
    rw (same.1, same.2)
    (record {
      shares = shares-refused d _ (refused-lookup d passed told);
      paged = paged-lookup d passed (lookup-left c.check_call.ensures known.0);
    })

-- 1 or 11 to 14
pub returns-in_err-checked : goal.returns-in_err-checked
returns-in_err-checked c =
    let d = lists_call (collation_of c.args.collation) c.args.first.now c.args.second.now c.args.entries.now c.args.pool.now
    c.args.presence.now c.args.ranks.now c.args.store.now c.args.partners.now c.args.positions.now in
    let refusal = sym (ap result_err c.in_err-checked.was) ∙ c.check_lists.ensures.refusal in
    let same = err_from_is_err_and c.from_residual.result c.from_residual.ensures.1 in
    rw (same.1, same.2) (record { shares = shares-refused d _ (refused-names d refusal); paged = paged-names d refusal })
