-- What the calls of the C interface on texts promise: the whole of the answer row, every key buffer, and the pages. The rows are the
-- library's own answers in the paper's numbers.
-- Assumes nothing.
use Rattle.std.specs.Prelude.{◌≡◌, ℕ, List}
use Rattle.std.specs.Prelude.{Option, None, Some}
use Rattle.terms.specs.Refusals.{Outcome, row}
use Rattle.pages.specs.Pages.{Pages}
use Rattle.prepare.specs.Calls.{Call, call_refusal, answer_of, buffers_after, pages_after}

-- the row of an answer of n values, where a call has an answer
abbrev pub row_of : ℕ → Option Outcome → Option (List ℕ)
row_of n None = None
row_of n (Some o) = Some (row n o)

-- a call on texts was answered: the row of its n values or of its refusal, and the key buffers
pub record RowAnswered (n : ℕ) (values : Call → Option (List ℕ)) (c : Call) (answer : List ℕ)
    (after : List (List ℕ)) : Type 0 where
  pub answered : Some answer ≡ row_of n (answer_of (call_refusal c) (values c))
  pub left : after ≡ buffers_after (call_refusal c) c

-- and was lent the pages to fill
pub record RowPaging (n : ℕ) (values : Call → Option (List ℕ)) (c : Call) (answer : List ℕ) (after : List (List ℕ))
    (p : Pages) : Type 0 where
  pub row : RowAnswered n values c answer after
  pub paged : p ≡ pages_after c
