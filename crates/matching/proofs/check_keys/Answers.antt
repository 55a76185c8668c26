-- `matching::check_keys` meets its contract: one check after the other, in the order of `keys_checked`.
-- Assumes nothing.
use mathlib.Core.Path.{refl, sym, ap, ◌∙◌}
use Rattle.std.specs.Prelude.{Some}
use Rattle.std.specs.Result.{result_err}
use Rattle.std.proofs.lemmas.Result.{err_from_is_err_and}
use borrow.Author.Tests.{lt-ltb, le-ltb}
use Rattle.matching.specs.Matching.{keys_checked}
use Rattle.matching.proofs.check_keys.Goals as goal

-- 14 or 36
pub returns-in_err-check_ends : goal.returns-in_err-check_ends
unfolding keys_checked
returns-in_err-check_ends c =
    let ends = sym c.check_ends.ensures ∙ ap result_err c.in_err-check_ends.was in
    let err = err_from_is_err_and c.from_residual.result c.from_residual.ensures.1 in
    rw (ends, err.1, err.2) refl

-- 37
pub returns-then-n-first_names : goal.returns-then-n-first_names
unfolding keys_checked
returns-then-n-first_names c =
    let ends = sym c.check_ends.ensures ∙ ap result_err c.in_ok-check_ends.was in
    rw (ends, lt-ltb _ _ c.if-n-first_names.true) (ap Some c.refused.ensures)

-- 8 for row and repeats
pub returns-in_err-check_arrays : goal.returns-in_err-check_arrays
unfolding keys_checked
returns-in_err-check_arrays c =
    let ends = sym c.check_ends.ensures ∙ ap result_err c.in_ok-check_ends.was in
    let arrays = sym c.check_arrays.ensures ∙ ap result_err c.in_err-check_arrays.was in
    let err =
    err_from_is_err_and c.from_residual-in_err-check_arrays.result c.from_residual-in_err-check_arrays.ensures.1
    in
    rw (ends, le-ltb _ _ c.if-n-first_names.false, arrays, err.1, err.2) refl

-- 8 for partners
pub returns-then-partners-first_names : goal.returns-then-partners-first_names
unfolding keys_checked
returns-then-partners-first_names c =
    let ends = sym c.check_ends.ensures ∙ ap result_err c.in_ok-check_ends.was in
    let arrays = sym c.check_arrays.ensures ∙ ap result_err c.in_ok-check_arrays.was in
    rw (ends, le-ltb _ _ c.if-n-first_names.false, arrays, lt-ltb _ _ c.if-partners-first_names.true)
    (ap Some c.refused-then-partners-first_names.ensures)

pub returns : goal.returns
unfolding keys_checked
returns c =
    let ends = sym c.check_ends.ensures ∙ ap result_err c.in_ok-check_ends.was in
    let arrays = sym c.check_arrays.ensures ∙ ap result_err c.in_ok-check_arrays.was in
    rw (ends, le-ltb _ _ c.if-n-first_names.false, arrays, le-ltb _ _ c.if-partners-first_names.false) refl
