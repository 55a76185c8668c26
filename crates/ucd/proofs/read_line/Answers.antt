-- `ucd::read_line` meets its contract: what was found of the line and of each field says which check applies, or none.
-- Assumes nothing.
use Rattle.std.proofs.Common.{◌≡◌, sym, ◌∙◌, ap, subst, ℕ, Option, length, ◌≤◌}
use Rattle.std.proofs.lemmas.Result.{err_from_is_err_and}
use Rattle.std.specs.Prelude.{unwrap_or}
use Rattle.terms.specs.Refusals.{parts_most}
use Rattle.ucd.specs.Fields.{fields, code_point, decomposition}
use Rattle.ucd.specs.Promises.{number_read, TitlecaseRead, parts_read}
use Rattle.ucd.proofs.Options.{missing, present}
use Rattle.ucd.proofs.Lines.{code_found, parts_found, line_properties-some}
use Rattle.ucd.proofs.Lines.{refused_length, refused_count, refused_code, refused_parts, refused_case, unrefused}
use Rattle.ucd.proofs.read_line.Goals as goal

-- too long
pub returns-then-line-gt-LINE_MOST : goal.returns-then-line-gt-LINE_MOST
returns-then-line-gt-LINE_MOST c = refused_length c.args.line.now c.if-line-gt-LINE_MOST.true

-- not 15 fields
pub returns-then-count_fields-ne15 : goal.returns-then-count_fields-ne15
returns-then-count_fields-ne15 c =
    refused_count c.args.line.now c.if-line-gt-LINE_MOST.false (rw c.count_fields.ensures at c.if-count_fields-ne15.true)

-- field 0 is malformed
pub returns-in_err-code : goal.returns-in_err-code
returns-in_err-code c =
    let none = missing c.read_code_point.result _ _ c.ok_or.ensures.value c.in_err-code.was in
    let code = sym (ap code_point c.find_field.ensures) ∙ sym c.read_code_point.ensures ∙ ap number_read none.0 in
    let err = err_from_is_err_and c.from_residual.result c.from_residual.ensures.1 in
    let whole : length (fields c.args.line.now) ≡ 15 = sym c.count_fields.ensures ∙ c.if-count_fields-ne15.false in
    rw (err.1, err.2, ← none.1) (refused_code c.args.line.now c.if-line-gt-LINE_MOST.false whole code)

-- field 5 is
pub returns-in_err-count : goal.returns-in_err-count
returns-in_err-count c =
    let code =
    code_found _ _ _ _ _ c.find_field.ensures c.read_code_point.ensures c.ok_or.ensures.value c.in_ok-code.was in
    let none = missing c.read_parts.result _ _ c.ok_or-2.ensures.value c.in_err-count.was in
    let parts =
    sym (ap decomposition c.find_field-2.ensures)
    ∙ sym c.read_parts.ensures.read
    ∙ ap (λ (r : Option ℕ). parts_read r c.read_parts.new.parts) none.0 in
    let err = err_from_is_err_and c.from_residual-in_err-count.result c.from_residual-in_err-count.ensures.1 in
    let whole : length (fields c.args.line.now) ≡ 15 = sym c.count_fields.ensures ∙ c.if-count_fields-ne15.false in
    rw (err.1, err.2, ← none.1) (refused_parts c.args.line.now c.if-line-gt-LINE_MOST.false whole _ code parts)

-- field 12 or 14 is
pub returns-in_err-title : goal.returns-in_err-title
returns-in_err-title c =
    let code =
    code_found _ _ _ _ _ c.find_field.ensures c.read_code_point.ensures c.ok_or.ensures.value c.in_ok-code.was in
    let parts =
    parts_found _ _ _ c.read_parts.result _ _ c.find_field-2.ensures c.read_parts.ensures.read c.ok_or-2.ensures.value
    c.in_ok-count.was in
    let cased = subst (TitlecaseRead c.in_ok-code.code.0 c.args.line.now) c.in_err-title.was c.read_titlecase.ensures in
    let err = err_from_is_err_and c.from_residual-in_err-title.result c.from_residual-in_err-title.ensures.1 in
    let whole : length (fields c.args.line.now) ≡ 15 = sym c.count_fields.ensures ∙ c.if-count_fields-ne15.false in
    rw (err.1, err.2) (refused_case c.args.line.now c.if-line-gt-LINE_MOST.false whole _ code _ parts _ cased)

-- none is
pub returns : goal.returns
returns c =
    let code =
    code_found _ _ _ _ _ c.find_field.ensures c.read_code_point.ensures c.ok_or.ensures.value c.in_ok-code.was in
    let parts =
    parts_found _ _ _ c.read_parts.result _ _ c.find_field-2.ensures c.read_parts.ensures.read c.ok_or-2.ensures.value
    c.in_ok-count.was in
    let cased = subst (TitlecaseRead c.in_ok-code.code.0 c.args.line.now) c.in_ok-title.was c.read_titlecase.ensures in
    let whole : length (fields c.args.line.now) ≡ 15 = sym c.count_fields.ensures ∙ c.if-count_fields-ne15.false in
    record {
      unrefused = unrefused c.args.line.now c.if-line-gt-LINE_MOST.false whole _ code _ parts _ cased;
      given = line_properties-some _ _ _ _ code parts cased;
      within =
          subst (λ (r : Option ℕ). unwrap_or r 0 ≤ parts_most)
          (present c.read_parts.result _ _ c.ok_or-2.ensures.value c.in_ok-count.was)
          c.read_parts.ensures.within;
    }
