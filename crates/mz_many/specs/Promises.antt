-- What the calls of the C interface on many texts and keys promise: the whole row, and every slice that was lent.
-- Assumes nothing.
use Rattle.std.specs.Prelude.{◌≡◌, ℕ, List}
use Rattle.terms.specs.Refusals.{row, answer}
use Rattle.pages.specs.Pages.{Pages}
use Rattle.many.specs.Many.{ManyCall, many_refusal, many_values, slices_after, pages_after}
use Rattle.matching.specs.Matching.{KeysCall, keys_refusal, matched_values, rows_after}

-- a call on many texts was answered: the row of its refusal or of its value, and store, ends of keys and validity after it
pub record PreparesManyRow (c : ManyCall) (numbers : List ℕ) (after : List (List ℕ)) : Type 0 where
  pub answered : numbers ≡ row 1 (answer (many_refusal c) (many_values c))
  pub left : after ≡ slices_after (many_refusal c) c

-- and was lent the pages to fill
pub record PreparesManyRowPaging (c : ManyCall) (numbers : List ℕ) (after : List (List ℕ)) (p : Pages) : Type 0 where
  pub row : PreparesManyRow c numbers after
  pub paged : p ≡ pages_after c

-- a call on the keys of two lists was answered: the row of its refusal or of its two values, and row, repeats and partners
-- after it
pub record MatchesRow (c : KeysCall) (numbers : List ℕ) (after : List (List ℕ)) : Type 0 where
  pub answered : numbers ≡ row 2 (answer (keys_refusal c) (matched_values c))
  pub left : after ≡ rows_after (keys_refusal c) c
