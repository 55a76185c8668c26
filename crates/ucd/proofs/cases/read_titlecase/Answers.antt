-- `ucd::cases::read_titlecase` meets its contract: what each field was read as says whether it is well formed, and both say the
-- titlecase.
-- Assumes nothing.
use Rattle.std.proofs.Common.{sym, ◌∙◌, ap}
use Rattle.std.specs.Prelude.{None, Some}
use Rattle.std.proofs.lemmas.Result.{err_from_is_err_and}
use Rattle.ucd.specs.Promises.{number_read}
use Rattle.ucd.specs.Fields.{code_point_or}
use Rattle.ucd.proofs.Options.{missing, present}
use Rattle.ucd.proofs.Titlecase.{read-uppercase, read-titlecase}
use Rattle.ucd.proofs.cases.read_titlecase.Goals as goal

-- field 12 is malformed
pub returns-in_err-uppercase : goal.returns-in_err-uppercase
returns-in_err-uppercase c =
    let code = c.args.code.0 in
    let from-12 = c.from_field-from_12 in
    let none = missing c.read_optional.result _ _ c.ok_or.ensures.value c.in_err-uppercase.was in
    let said = sym (ap (code_point_or code) c.find_field.ensures) ∙ sym c.read_optional.ensures ∙ ap number_read none.0 in
    let err = err_from_is_err_and c.from_residual.result c.from_residual.ensures.1 in
    rw (err.1, err.2, ← none.1) (read-uppercase code c.args.line.now from-12.result.now from-12.ensures said)

-- field 14 is
pub returns-in_err-titlecase : goal.returns-in_err-titlecase
returns-in_err-titlecase c =
    let code = c.args.code.0 in
    let from-12 = c.from_field-from_12 in
    let u = c.in_ok-uppercase.uppercase in
    let some = present c.read_optional.result _ u c.ok_or.ensures.value c.in_ok-uppercase.was in
    let none = missing c.read_optional-2.result _ _ c.ok_or-2.ensures.value c.in_err-titlecase.was in
    let upper = sym (ap (code_point_or code) c.find_field.ensures) ∙ sym c.read_optional.ensures ∙ ap number_read some in
    let title = sym (ap number_read none.0) ∙ c.read_optional-2.ensures ∙ ap (code_point_or u.0) c.find_field-2.ensures in
    let err = err_from_is_err_and c.from_residual-in_err-titlecase.result c.from_residual-in_err-titlecase.ensures.1 in
    rw (err.1, err.2, ← none.1)
    (read-titlecase code c.args.line.now from-12.result.now from-12.ensures u.0 None upper title)

-- neither is
pub returns : goal.returns
returns c =
    let code = c.args.code.0 in
    let from-12 = c.from_field-from_12 in
    let u = c.in_ok-uppercase.uppercase in
    let t = c.in_ok-titlecase.titlecase in
    let some = present c.read_optional.result _ u c.ok_or.ensures.value c.in_ok-uppercase.was in
    let some-2 = present c.read_optional-2.result _ t c.ok_or-2.ensures.value c.in_ok-titlecase.was in
    let upper = sym (ap (code_point_or code) c.find_field.ensures) ∙ sym c.read_optional.ensures ∙ ap number_read some in
    let title = sym (ap number_read some-2) ∙ c.read_optional-2.ensures ∙ ap (code_point_or u.0) c.find_field-2.ensures in
    read-titlecase code c.args.line.now from-12.result.now from-12.ensures u.0 (Some t) upper title
