-- `decompose::check_table` meets its contract: what `check_form` answers is the whole answer, or leaves it to `check_levels`.
-- Assumes nothing.
use mathlib.Core.Path.{◌≡◌, refl, sym, ap, ◌∙◌}
use Rattle.std.specs.Prelude.{Option, None, Some}
use mathlib.Core.List.{[]}
use Rattle.terms.specs.Lists.{or_else}
use Rattle.terms.specs.Refusals.{refused, answer, check_outcome}
use Rattle.terms.specs.declared.Refusal.{Refusal}
use Rattle.terms.proofs.Checks.{answer-given}
use Rattle.table.specs.Table.{Table, table, refused_at, form_refusal}
use Rattle.decompose.specs.TableCheck.{level_fault, table_refusal, table_answer}
use Rattle.std.proofs.lemmas.Result.{err_from_is_err_and}
use Rattle.decompose.proofs.check_table.Goals as goal

-- a table of the form: 7 decides
answer-levels : (t : Table) → form_refusal t ≡ None
    → answer (refused_at 7 (level_fault t)) [] ≡ table_answer t
unfolding table_refusal
answer-levels t form = rw form (go (refused_at 7 (level_fault t)))
  where
    go : (o : Option Refusal) → answer o [] ≡ answer (or_else o None) []
    go None = refl
    go (Some r) = refl

-- any other: the refusal of the form
answer-form : (t : Table) (r : Refusal) → refused r ≡ answer (form_refusal t) []
    → refused r ≡ table_answer t
unfolding table_refusal
answer-form t r e = go (form_refusal t) e
  where
    go : (o : Option Refusal) → refused r ≡ answer o []
        → refused r ≡ answer (or_else o (or_else (refused_at 7 (level_fault t)) None)) []
    go None q = cc
    go (Some s) q = q

-- the levels decide
pub returns : goal.returns
returns c =
    let t = table c.args.entries.now c.args.pool.now in
    let form : form_refusal t ≡ None = answer-given _ _ _ (sym (ap check_outcome c.in_ok-check_form.was) ∙ c.check_form.ensures) in
    c.check_levels.ensures ∙ answer-levels t form

-- refused for its form
pub returns-in_err-check_form : goal.returns-in_err-check_form
returns-in_err-check_form c =
    let t = table c.args.entries.now c.args.pool.now in
    let passed = err_from_is_err_and c.from_residual.result c.from_residual.ensures.1 in
    rw (passed.1, passed.2) (answer-form t _ (sym (ap check_outcome c.in_err-check_form.was) ∙ c.check_form.ensures))
