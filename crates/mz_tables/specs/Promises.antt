-- What the calls of the C interface on tables promise: the whole of the answer row, and both slices of a table that is being
-- built. The rows are the library's own answers in the paper's numbers.
-- Assumes nothing.
use Rattle.std.specs.Prelude.{◌≡◌, ℕ, List, ◌∷◌}
use Rattle.terms.specs.Refusals.{Outcome, refused, gives}
use Rattle.table.specs.Table.{Table}
use Rattle.builder.specs.Builder.{Built, add_line, line_answer, state_numbers}
use Rattle.builder.specs.declared.LineState.{LineState}

-- the number of the interface that include/mundeziwa.h describes (document 01 names none)
abbrev pub interface_number : ℕ
interface_number = 2

-- "The builder takes a state by value": a state by its three numbers
abbrev pub state_of : ℕ → ℕ → ℕ → LineState
state_of entries pool next = record { entries_used = entries; pool_used = pool; next = next }

-- the row of a line: it begins as every row does, with number (0 if not refused), place and detail; the state that comes back
-- follows on a refusal too ("state and slices stay on refusal")
abbrev pub line_row : Outcome → LineState → List ℕ
line_row (refused r) st = r.number ∷ r.place ∷ r.detail ∷ state_numbers st
line_row (gives values) st = 0 ∷ 0 ∷ 0 ∷ state_numbers st

-- a line was added: its row, and the two slices
pub record LineAdded (b : Built) (line answer : List ℕ) (after : Table) : Type 0 where
  pub answered : answer ≡ line_row (line_answer b line) (add_line b line).state
  pub left : after ≡ (add_line b line).table
