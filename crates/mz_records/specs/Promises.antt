-- What the calls of the C interface on records promise: the whole of the answer row, and the slice that is written to. The rows
-- are the library's own answers in the paper's numbers.
-- Assumes nothing.
use Rattle.std.specs.Prelude.{◌≡◌, ℕ, List}
use Rattle.terms.specs.Refusals.{row}
use Rattle.records.specs.Items.{Item}
use Rattle.records.specs.Writing.{writing_answer, writing_leaves}
use Rattle.records.specs.declared.KeyFields.{KeyFields}

-- what a record says of a key, by its three numbers
abbrev pub fields_of : ℕ → ℕ → ℕ → KeyFields
fields_of collation valid length = record { collation = collation; valid = valid; text_length = length }

-- an item's record was written at a position, unless it is refused: the row, and the whole slice
pub record WritesRow (i : Item) (p : ℕ) (slice answer after : List ℕ) : Type 0 where
  pub answered : answer ≡ row 1 (writing_answer i p slice)
  pub left : after ≡ writing_leaves i p slice
