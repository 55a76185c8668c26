-- `prepare::checks::check_table_under` meets its contract: where the collation reads the table, the answer is that of
-- `check_table`, and then that of the pages' lengths.
-- Assumes nothing.
use Rattle.std.specs.Result.{result_err}
use Rattle.std.specs.Prelude.{None}
use mathlib.Core.Path.{◌≡◌, sym, ap, ◌∙◌}
use mathlib.Core.Bool.{false}
use lib.Dec.{ltb}
use lib.ListN.{length}
use borrow.Author.Tests.{ltb-false}
use Rattle.terms.specs.Refusals.{pages_most}
use Rattle.terms.proofs.Checks.{or_left, or_right, check_refusal-answer}
use Rattle.table.specs.Table.{table}
use Rattle.table.proofs.Form.{formed-ascending}
use Rattle.pages.specs.Pages.{pages, short_pages}
use Rattle.decompose.specs.TableCheck.{table_refusal}
use Rattle.decompose.proofs.Demand3.{accepted-form}
use Rattle.prepare.proofs.checks.check_table_under.Goals as goal

pub fill_pages-requires : goal.fill_pages-requires
fill_pages-requires c =
    let accepted : table_refusal ((table c.args.entries.now c.args.pool.now)) ≡ None =
    let checked = c.check_table in
    sym (check_refusal-answer checked.result (table_refusal ((table c.args.entries.now c.args.pool.now))) checked.ensures) ∙ ap result_err c.in_ok-check_table.was in
    let long : short_pages ((pages c.args.presence.now c.args.ranks.now)) ≡ false =
    sym c.is_short.ensures ∙ c.if-is_short.false in
    let both = c in
    let told = both in
    let s = told in
    let p = (pages c.args.presence.now c.args.ranks.now) in
    record { ascending = formed-ascending ((table c.args.entries.now c.args.pool.now)) (accepted-form ((table c.args.entries.now c.args.pool.now)) (accepted)); pages_most_in_bounds = ltb-false (length p.presence) pages_most (or_left _ (ltb (length p.ranks) pages_most) (long)); pages_most_in_bounds_2 = ltb-false (length p.ranks) pages_most (or_right (ltb (length p.presence) pages_most) _ (long)) }
