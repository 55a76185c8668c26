-- What is answered for a line, and what is left in the key buffers, in each of the three cases: it is too long, it has no
-- tab, its texts are compared.
-- Assumes nothing.
use mathlib.Core.Path.{◌≡◌}
use Prim.Native.Nat.{ℕ, ◌≤◌, ◌<◌}
use Rattle.std.specs.Prelude.{None, Some, Result, Err}
use Rattle.std.specs.declared.cmp.Ordering.{Ordering}
use Rattle.terms.specs.declared.Refusal.{Refusal}
use mathlib.Core.List.{List, [], ◌∷◌}
use lib.ListN.{length}
use borrow.Author.Tests.{lt-ltb, le-ltb}
use Rattle.terms.specs.Refusals.{refusal}
use Rattle.table.specs.Table.{Table}
use Rattle.pages.specs.Pages.{Pages}
use Rattle.prepare.specs.Calls.{Called}
use Rattle.compare.specs.Compare.{order_outcome, order_values}
use Rattle.pairing.specs.Pairing.{pair_most, tab_of, call_around, pair_answer, pair_buffers}
use Rattle.pairing.specs.Promises.{Judges}

module _ {line : List ℕ} {t : Table} {p : Pages} {firstBuffer secondBuffer : List ℕ} where
  -- a line over 8,193 octets
  pub judges-long : pair_most < length line
      → Judges line t p firstBuffer secondBuffer (Err (refusal 2 0 0)) (firstBuffer ∷ secondBuffer ∷ [])
  unfolding pair_answer pair_buffers
  judges-long h = record {
    answered = rw (lt-ltb pair_most (length line) h);
    left = rw (lt-ltb pair_most (length line) h);
  }

  -- a line without a tab
  pub judges-tabless : length line ≤ pair_most → tab_of line ≡ None
      → Judges line t p firstBuffer secondBuffer (Err (refusal 9 0 0)) (firstBuffer ∷ secondBuffer ∷ [])
  unfolding pair_answer pair_buffers
  judges-tabless h e = record {
    answered = rw (le-ltb pair_most (length line) h, e);
    left = rw (le-ltb pair_most (length line) h, e);
  }

  -- a line with a tab: its texts are compared
  pub judges-compared : {at : ℕ} {r : Result Ordering Refusal} {after : List (List ℕ)} → length line ≤ pair_most
      → tab_of line ≡ Some at
      → Called order_outcome order_values (call_around line t p firstBuffer secondBuffer at) r after
      → Judges line t p firstBuffer secondBuffer r after
  unfolding pair_answer pair_buffers
  judges-compared h e o = record {
    answered = rw (le-ltb pair_most (length line) h, e) o.answered;
    left = rw (le-ltb pair_most (length line) h, e) o.left;
  }
