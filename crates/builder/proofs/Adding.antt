-- What becomes of a line by its refusal and what it gives, and the state and slices after it.
-- Assumes nothing.
use mathlib.Core.Path.{◌≡◌, refl, ap}
use Rattle.std.specs.Prelude.{Option, None, Some, Result, Ok, Err}
use mathlib.Core.List.{List}
use Prim.Native.Nat.{ℕ}
use Rattle.terms.specs.Refusals.{gives}
use Rattle.terms.specs.declared.Refusal.{Refusal}
use Rattle.ucd.specs.Lines.{Properties, line_properties}
use Rattle.builder.specs.Builder.{Built, built, line_refusal, added, accepted, add_given, add_line, state_numbers, Added}
use Rattle.builder.specs.Builder.{refused_line}
use Rattle.builder.specs.Promises.{AddedBy}
use Rattle.builder.specs.declared.LineState.{LineState}
use Rattle.builder.specs.declared.RefusedLine.{RefusedLine}

module _ (b : Built) {x : Option Refusal} {given : Option Properties} where
  -- a refusal leaves all as it was
  pub added_by-refused : {r : Refusal} → x ≡ Some r → AddedBy x given b (Err (refused_line r b.state)) b.table.entries b.table.pool
  added_by-refused e = rw e (record { answered = refl; left = refl })

  -- what is not refused is stored
  pub added_by-taken : {p : Properties} {st : LineState} {entries pool : List ℕ}
      → x ≡ None → given ≡ Some p → built st entries pool ≡ added b p → AddedBy x given b (Ok st) entries pool
  added_by-taken e f s = rw (e, f) (record { answered = ap (λ (c : Built). gives (state_numbers c.state)) s; left = s })

-- so of a line by its refusal and its properties
pub added_by-line : {b : Built} {line : List ℕ} {x : Option Refusal} {given : Option Properties}
    {r : Result LineState RefusedLine} {entries pool : List ℕ}
    → line_refusal b line ≡ x → line_properties line ≡ given → AddedBy x given b r entries pool → Added b line r entries pool
unfolding add_line
added_by-line e f a = record { answered = rw (e, f) a.answered; left = rw (e, f) a.left }

-- ---- the state and slices after a line

-- an accepted line is stored
pub add_line-accepted : (b : Built) (line : List ℕ) (p : Properties) → accepted b line ≡ Some p → add_line b line ≡ added b p
unfolding add_line
add_line-accepted b line p e = ap (add_given b) e

-- a line of which nothing is accepted leaves all as it was
pub add_line-none : (b : Built) (line : List ℕ) → accepted b line ≡ None → add_line b line ≡ b
unfolding add_line
add_line-none b line e = ap (add_given b) e

-- so a refused line
pub add_line-refused : (b : Built) (line : List ℕ) (r : Refusal) → line_refusal b line ≡ Some r → add_line b line ≡ b
add_line-refused b line r e = add_line-none b line (rw e)
