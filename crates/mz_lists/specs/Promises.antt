-- What the calls of the C interface on lists promise: the whole row, and every slice that was lent.
-- Assumes nothing.
use Rattle.std.specs.Prelude.{◌≡◌, ℕ, List}
use Rattle.terms.specs.Refusals.{row, answer}
use Rattle.pages.specs.Pages.{Pages}
use Rattle.lists.specs.Lists.{ListsCall, lists_refusal, shared_values, slices_after, pages_after}

-- a call on two lists was answered: the row of its refusal or of its four values, and store, partners and positions after it
pub record SharesRow (c : ListsCall) (numbers : List ℕ) (after : List (List ℕ)) : Type 0 where
  pub answered : numbers ≡ row 4 (answer (lists_refusal c) (shared_values c))
  pub left : after ≡ slices_after (lists_refusal c) c

-- and was lent the pages to fill
pub record SharesRowPaging (c : ListsCall) (numbers : List ℕ) (after : List (List ℕ)) (p : Pages) : Type 0 where
  pub row : SharesRow c numbers after
  pub paged : p ≡ pages_after c
