-- `table::check_form` meets its contract: each return follows from what the four checks answered up to there.
-- Assumes nothing.
use mathlib.Core.Path.{◌≡◌, refl, sym, ◌∙◌}
use mathlib.Core.Bool.{Bool}
use Rattle.std.specs.Prelude.{Option}
use mathlib.Core.List.{[], ◌∷◌}
use Prim.Native.Nat.{ℕ}
use lib.ListN.{length}
use Rattle.terms.specs.Lists.{lowest}
use Rattle.terms.specs.Refusals.{Outcome, check, first, answer}
use Rattle.table.specs.Layout.{entry_count}
use Rattle.table.specs.Table.{Table, table, faulty_size, faulty_code, entry_fault, faulty_number, refused_at, form_refusal}
use Rattle.table.proofs.check_form.Goals as goal

-- the answer that what the four checks found comes to
abbrev found : Bool → Option ℕ → Option ℕ → Option ℕ → Outcome
found b o4 o5 o6 = answer (first (check b 3 0 0 ∷ refused_at 4 o4 ∷ refused_at 5 o5 ∷ refused_at 6 o6 ∷ [])) []

-- the answer, by what the checks found
answer-found : (t : Table) {b : Bool} {o4 o5 o6 : Option ℕ} → b ≡ faulty_size t
    → o4 ≡ lowest (faulty_code t.entries) (entry_count t.entries)
    → o5 ≡ entry_fault t
    → o6 ≡ lowest (faulty_number t.pool) (length t.pool)
    → found b o4 o5 o6 ≡ answer (form_refusal t) []
unfolding form_refusal
answer-found t e3 e4 e5 e6 = rw (e3, e4, e5, e6)

-- refused for its size
pub returns-then-is_faulty_size : goal.returns-then-is_faulty_size
returns-then-is_faulty_size c =
    let t = table c.args.entries.now c.args.pool.now in
    rw c.number.ensures (answer-found t (sym c.if-is_faulty_size.true ∙ c.is_faulty_size.ensures) refl refl refl)

-- refused for a code point
pub returns-in-Some : goal.returns-in-Some
returns-in-Some c =
    let t = table c.args.entries.now c.args.pool.now in
    let size = sym c.if-is_faulty_size.false ∙ c.is_faulty_size.ensures in
    rw (c.refused_at.ensures, c.number-in-Some.ensures) (answer-found t size (sym c.in-Some.is ∙ c.faulty_code.ensures) refl refl)

-- refused for an entry
pub returns-in-Some-faulty_entry : goal.returns-in-Some-faulty_entry
returns-in-Some-faulty_entry c =
    let t = table c.args.entries.now c.args.pool.now in
    let size = sym c.if-is_faulty_size.false ∙ c.is_faulty_size.ensures in
    let codes = sym c.in_default.is ∙ c.faulty_code.ensures in
    let fault = sym c.in-Some-faulty_entry.is ∙ c.faulty_entry.ensures in
    rw (c.refused_at-in-Some-faulty_entry.ensures, c.number-in-Some-faulty_entry.ensures) (answer-found t size codes fault refl)

-- refused for a pool number
pub returns-in-Some-faulty_number : goal.returns-in-Some-faulty_number
returns-in-Some-faulty_number c =
    let t = table c.args.entries.now c.args.pool.now in
    let size = sym c.if-is_faulty_size.false ∙ c.is_faulty_size.ensures in
    let codes = sym c.in_default.is ∙ c.faulty_code.ensures in
    let entries = sym c.in_default-faulty_entry.is ∙ c.faulty_entry.ensures in
    let fault = sym c.in-Some-faulty_number.is ∙ c.faulty_number.ensures in
    rw (c.refused_at-in-Some-faulty_number.ensures, c.number-in-Some-faulty_number.ensures) (answer-found t size codes entries fault)

-- accepted
pub returns : goal.returns
returns c =
    let t = table c.args.entries.now c.args.pool.now in
    let size = sym c.if-is_faulty_size.false ∙ c.is_faulty_size.ensures in
    let codes = sym c.in_default.is ∙ c.faulty_code.ensures in
    let entries = sym c.in_default-faulty_entry.is ∙ c.faulty_entry.ensures in
    let numbers = sym c.in_default-faulty_number.is ∙ c.faulty_number.ensures in
    answer-found t size codes entries numbers
