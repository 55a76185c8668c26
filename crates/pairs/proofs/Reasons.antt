-- The number by which the builder refuses a line is that of a reason.
-- Assumes nothing.
use mathlib.Core.Path.{◌≡◌, ap}
use Prim.Native.Nat.{ℕ}
use mathlib.Core.Bool.{Bool, true, false}
use mathlib.Core.List.{List, ◌++◌}
use lib.ListN.{length}
use Rattle.std.specs.Prelude.{Option, None, Some, Err}
use Rattle.terms.specs.Lists.{or_else}
use Rattle.terms.specs.Reasons.{reason_number}
use Rattle.terms.specs.Refusals.{refusal, first}
use Rattle.terms.specs.Views.{reason_numbered-back}
use Rattle.terms.specs.declared.Reason.{Reason}
use Rattle.terms.specs.declared.Reason.TheVariants.{LineLength, FieldCount, Field0, Field5, Field12, Field14}
use Rattle.terms.specs.declared.Reason.TheVariants.{Surrogate, Order, TableRoom, State}
use Rattle.terms.specs.declared.Refusal.{Refusal}
use Rattle.terms.proofs.Checks.{first-append, answer-refused}
use Rattle.table.specs.Layout.{entry_count}
use Rattle.ucd.specs.Lines.{Properties, line_check, reading_checks, line_properties}
use Rattle.builder.specs.Builder.{Built, given_checks, line_refusal, add_line, state_numbers, Added}
use Rattle.builder.specs.declared.LineState.{LineState}
use Rattle.builder.specs.declared.RefusedLine.{RefusedLine}
use Rattle.pairs.specs.Reading.{OfReason}

-- a refusal, if there is one, has the number of a reason
record Reasoned (o : Option Refusal) : Type 0 where
  number : (x : Refusal) → o ≡ Some x → OfReason x.number

-- none
no-refusal : Reasoned None
no-refusal = record { number = λ x e. cc }

-- one check
one-check : (b : Bool) (r : Reason) → Reasoned (line_check b (reason_number r))
one-check true r = record {
  number = λ x e.
      let same : x ≡ refusal (reason_number r) 0 0 = cc in
      rw same (ap reason_number (reason_numbered-back r));
}
one-check false r = no-refusal

-- the first of two
first-of : {a b : Option Refusal} → Reasoned a → Reasoned b → Reasoned (or_else a b)
first-of {a = None} p q = q
first-of {a = Some x} p q = p

-- the checks of the reading
reading-reasoned : (line : List ℕ) → Reasoned (first (reading_checks line))
reading-reasoned line =
    first-of (one-check _ LineLength)
    (first-of (one-check _ FieldCount)
    (first-of (one-check _ Field0)
    (first-of (one-check _ Field5) (first-of (one-check _ Field12) (first-of (one-check _ Field14) no-refusal)))))

-- those of what a line gives
given-reasoned : (st : LineState) (entries pool : ℕ) (p : Option Properties)
    → Reasoned (first (given_checks st entries pool p))
given-reasoned st entries pool None = no-refusal
given-reasoned st entries pool (Some p) =
    first-of (one-check _ Surrogate) (first-of (one-check _ Order) (first-of (one-check _ TableRoom) no-refusal))

-- all checks of a line
line-reasoned : (b : Built) (line : List ℕ) → Reasoned (line_refusal b line)
unfolding line_refusal
line-reasoned b line =
    let entries = entry_count b.table.entries in
    let pool = length b.table.pool in
    let given = given_checks b.state entries pool (line_properties line) in
    let after : Reasoned (first (reading_checks line ++ given)) =
    rw (first-append (reading_checks line) given)
    (first-of (reading-reasoned line) (given-reasoned b.state entries pool (line_properties line))) in
    first-of (one-check _ State) after

-- a line that the builder refused
pub refused-reasoned : {b : Built} {line : List ℕ} {e : RefusedLine} {entries pool : List ℕ}
    → Added b line (Err e) entries pool
    → OfReason e.refusal.number
refused-reasoned {b} {line} {e} a =
    (line-reasoned b line).number e.refusal (answer-refused _ (state_numbers (add_line b line).state) e.refusal a.answered)
