-- `matching::match_keys` meets its contract: refused, or the rows filled up to the number of keys.
-- Assumes nothing.
use mathlib.Core.Path.{sym, ap, ◌∙◌}
use native.Mathlib.Omega.{arith}
use lib.ListN.{length}
use lib.Seq.{length-take-le}
use Rattle.std.specs.Result.{result_err}
use Rattle.matching.specs.Matching.{keys_call}
use Rattle.matching.proofs.Ordered.{checked-fits, matches-found}
use Rattle.matching.proofs.match_keys.Goals as goal

pub slice_bounds-fill_rows-end : goal.slice_bounds-fill_rows-end
slice_bounds-fill_rows-end c =
    let a = c.args in
    let passed = sym c.check_keys.ensures ∙ ap result_err c.in_ok-check_keys.was in
    let fits = checked-fits a.store.now a.ends.now a.first_names (length a.row.now) (length a.repeats.now) (length a.partners.now) passed in
    fits.rows.0

pub slice_bounds-fill_rows-end-2 : goal.slice_bounds-fill_rows-end-2
slice_bounds-fill_rows-end-2 c =
    let a = c.args in
    let passed = sym c.check_keys.ensures ∙ ap result_err c.in_ok-check_keys.was in
    let fits = checked-fits a.store.now a.ends.now a.first_names (length a.row.now) (length a.repeats.now) (length a.partners.now) passed in
    sym (length-take-le (length a.ends.now) a.row.now fits.rows.0)

pub slice_bounds-fill_rows-end-3 : goal.slice_bounds-fill_rows-end-3
slice_bounds-fill_rows-end-3 c =
    let a = c.args in
    let passed = sym c.check_keys.ensures ∙ ap result_err c.in_ok-check_keys.was in
    let fits = checked-fits a.store.now a.ends.now a.first_names (length a.row.now) (length a.repeats.now) (length a.partners.now) passed in
    fits.rows.1

pub slice_bounds-fill_rows-end-4 : goal.slice_bounds-fill_rows-end-4
slice_bounds-fill_rows-end-4 c =
    let a = c.args in
    let passed = sym c.check_keys.ensures ∙ ap result_err c.in_ok-check_keys.was in
    let fits = checked-fits a.store.now a.ends.now a.first_names (length a.row.now) (length a.repeats.now) (length a.partners.now) passed in
    sym (length-take-le (length a.ends.now) a.repeats.now fits.rows.1)

pub fill_rows-requires : goal.fill_rows-requires
fill_rows-requires c =
    let a = c.args in
    let passed = sym c.check_keys.ensures ∙ ap result_err c.in_ok-check_keys.was in
    let fits = checked-fits a.store.now a.ends.now a.first_names (length a.row.now) (length a.repeats.now) (length a.partners.now) passed in
    record {
      ends = fits.sound;
      ends_len_bound = omega (arith, fits.few);
      first_names_in_bounds = fits.names;
      row_len = length-take-le (length a.ends.now) a.row.now fits.rows.0;
      repeats_len = length-take-le (length a.ends.now) a.repeats.now fits.rows.1;
      first_names_in_bounds_2 = fits.room;
    }

pub returns : goal.returns
returns c =
    let a = c.args in
    let call = keys_call a.store.now a.ends.now a.first_names a.row.now a.repeats.now a.partners.now in
    let passed = sym c.check_keys.ensures ∙ ap result_err c.in_ok-check_keys.was in
    matches-found call c.fill_rows.result passed c.fill_rows.ensures
