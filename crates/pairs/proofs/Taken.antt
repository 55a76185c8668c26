-- A line that the builder takes leaves a state whose entries and pool numbers lie within the slices; a table that passes the
-- check is accepted.
-- Assumes nothing.
use mathlib.Core.Path.{◌≡◌, refl, sym, ◌∙◌, ap, subst}
use Prim.Native.Nat.{ℕ}
use Rattle.std.specs.Prelude.{Option, None, Some, Result, Ok, ⊤}
use mathlib.Core.List.{List, []}
use Rattle.terms.specs.Refusals.{gives, answer, check_outcome}
use Rattle.terms.specs.declared.Refusal.{Refusal}
use Rattle.table.specs.Table.{Table}
use Rattle.decompose.specs.TableCheck.{table_refusal, table_answer}
use Rattle.builder.specs.Builder.{Built, built, Added}
use Rattle.builder.specs.Promises.{UsedFits}
use Rattle.builder.specs.declared.LineState.{LineState}
use Rattle.builder.proofs.BuiltForm.{fits-add_line}

-- the state that comes back for a line that is taken
pub used-taken : {b : Built} {line : List ℕ} {st : LineState} {entries pool : List ℕ} → UsedFits b
    → Added b line (Ok st) entries pool
    → UsedFits (built st entries pool)
used-taken {b} {line} fits a = subst (λ (c : Built). UsedFits c) (sym a.left) (fits-add_line b line fits)

-- a table that passes the check is accepted
pub accepted : (t : Table) (r : Result ⊤ Refusal) → r ≡ Ok tt → check_outcome r ≡ table_answer t
    → table_refusal t ≡ None
accepted t r passed told = go (table_refusal t) (ap check_outcome (sym passed) ∙ told)
  where
    go : (o : Option Refusal) → gives [] ≡ answer o [] → o ≡ None
    go None e = refl
    go (Some x) e = cc
