-- The row of what a call answered.
-- Assumes nothing.
use mathlib.Core.Path.{◌≡◌, ap, ◌∙◌}
use Prim.Native.Nat.{ℕ}
use mathlib.Core.List.{List}
use Rattle.std.specs.Prelude.{Option, Some}
use Rattle.terms.specs.Refusals.{Outcome, row}
use Rattle.prepare.specs.Calls.{Call, Called}
use Rattle.mz_texts.specs.Promises.{row_of, RowAnswered}

-- a call that was answered has its row
pub called→row : {R : Type 0} {outcome : R → Outcome} {values : Call → Option (List ℕ)} {c : Call} {r : R}
    {after : List (List ℕ)} {n : ℕ} {answer : List ℕ}
    → Called outcome values c r after → answer ≡ row n (outcome r) → RowAnswered n values c answer after
called→row {n = n} called e = record { answered = ap Some e ∙ ap (row_of n) called.answered; left = called.left }
