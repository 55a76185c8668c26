-- `many::prepare_many` meets its contract: 1, 14, 36 and 2, 3 to 7 and 15, or what is left after them.
-- Assumes nothing.
use mathlib.Core.Path.{◌≡◌, sym, ap, ◌∙◌}
use Rattle.std.specs.Prelude.{None, Some}
use Rattle.std.specs.Result.{result_err}
use Rattle.std.proofs.lemmas.Result.{err_from_is_err_and}
use lib.ListN.{length}
use Rattle.terms.specs.Collations.{collation_of}
use Rattle.terms.specs.Refusals.{first}
use Rattle.pages.specs.Pages.{pages}
use Rattle.prepare.specs.Calls.{lookup_check}
use Rattle.prepare.proofs.CallRefusals.{lookup-told, lookup-left, lookup-ready}
use Rattle.many.specs.Many.{many_call, texts_checks}
use Rattle.many.proofs.Answers.{texts-passed, refused-texts, refused-lookup, refused-rooms, paged-texts, paged-lookup}
use Rattle.many.proofs.Answers.{many-refused, many-same, many-repaged}
use Rattle.many.proofs.prepare_many.Goals as goal

pub fill_many-requires : goal.fill_many-requires
fill_many-requires c =
    let d = many_call (collation_of c.args.collation) c.args.octets.now c.args.ends.now c.args.entries.now c.args.pool.now
    c.args.presence.now c.args.ranks.now c.args.store.now c.args.key_ends.now c.args.valid.now in
    let known : d.collation ≡ Some c.in_ok-known.known = c.check_many.ensures.known c.in_ok-known.known c.in_ok-known.was in
    let passed : None ≡ first (texts_checks d.collation (length d.octets) d.ends) =
    sym (ap result_err c.in_ok-known.was) ∙ c.check_many.ensures.refusal
    in
    record {
      usable_under = lookup-ready c.check_call.ensures known c.in_ok-check_call.was;
      texts = texts-passed d.collation d.octets d.ends passed;
    }

-- what is left decides
pub returns : goal.returns
returns c =
    let d = many_call (collation_of c.args.collation) c.args.octets.now c.args.ends.now c.args.entries.now c.args.pool.now
    c.args.presence.now c.args.ranks.now c.args.store.now c.args.key_ends.now c.args.valid.now in
    let known : d.collation ≡ Some c.in_ok-known.known = c.check_many.ensures.known c.in_ok-known.known c.in_ok-known.was in
    let passed : None ≡ first (texts_checks d.collation (length d.octets) d.ends) =
    sym (ap result_err c.in_ok-known.was) ∙ c.check_many.ensures.refusal
    in
    let lookup : lookup_check d.collation d.table d.pages ≡ None =
    sym (lookup-told c.check_call.ensures known) ∙ ap result_err c.in_ok-check_call.was
    in
    record {
      prepares =
          many-same (refused-rooms d passed lookup)
          (many-repaged d (pages c.check_call.new.presence c.check_call.new.ranks) (rw known c.fill_many.ensures));
      paged = paged-lookup d passed (lookup-left c.check_call.ensures known);
    }

-- one of 3 to 7, or 15
pub returns-in_err-check_call : goal.returns-in_err-check_call
returns-in_err-check_call c =
    let d = many_call (collation_of c.args.collation) c.args.octets.now c.args.ends.now c.args.entries.now c.args.pool.now
    c.args.presence.now c.args.ranks.now c.args.store.now c.args.key_ends.now c.args.valid.now in
    let known : d.collation ≡ Some c.in_ok-known.known = c.check_many.ensures.known c.in_ok-known.known c.in_ok-known.was in
    let passed : None ≡ first (texts_checks d.collation (length d.octets) d.ends) =
    sym (ap result_err c.in_ok-known.was) ∙ c.check_many.ensures.refusal
    in
    let told = sym (lookup-told c.check_call.ensures known) ∙ ap result_err c.in_err-check_call.was in
    let same = err_from_is_err_and c.from_residual-in_err-check_call.result c.from_residual-in_err-check_call.ensures.1 in
    rw (same.1, same.2)
    (record {
      prepares = many-refused d _ (refused-lookup d passed told);
      paged = paged-lookup d passed (lookup-left c.check_call.ensures known);
    })

-- 1, 14, 36 or 2
pub returns-in_err-known : goal.returns-in_err-known
returns-in_err-known c =
    let d = many_call (collation_of c.args.collation) c.args.octets.now c.args.ends.now c.args.entries.now c.args.pool.now
    c.args.presence.now c.args.ranks.now c.args.store.now c.args.key_ends.now c.args.valid.now in
    let refusal = sym (ap result_err c.in_err-known.was) ∙ c.check_many.ensures.refusal in
    let same = err_from_is_err_and c.from_residual.result c.from_residual.ensures.1 in
    rw (same.1, same.2) (record { prepares = many-refused d _ (refused-texts d refusal); paged = paged-texts d refusal })
