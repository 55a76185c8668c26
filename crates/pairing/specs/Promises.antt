-- What the contracts of the crate say with the definitions of the other files.
-- Assumes nothing.
use Rattle.std.specs.Prelude.{◌≡◌, ℕ, List}
use Rattle.std.specs.Prelude.{Some, Result}
use Rattle.std.specs.declared.cmp.Ordering.{Ordering}
use Rattle.terms.specs.declared.Refusal.{Refusal}
use Rattle.table.specs.Table.{Table}
use Rattle.pages.specs.Pages.{Pages}
use Rattle.compare.specs.Compare.{order_outcome}
use Rattle.pairing.specs.Pairing.{pair_answer, pair_buffers}

-- a line was judged: the answer, and both key buffers
pub record Judges (line : List ℕ) (t : Table) (p : Pages) (firstBuffer secondBuffer : List ℕ)
    (r : Result Ordering Refusal) (after : List (List ℕ)) : Type 0 where
  pub answered : Some (order_outcome r) ≡ pair_answer line t p firstBuffer secondBuffer
  pub left : after ≡ pair_buffers line t p firstBuffer secondBuffer
