-- `utf8::judging::row_of` meets its contract, by one test of all 256 octets.
-- Assumes nothing.
use mathlib.Core.Path.{◌≡◌, refl}
use mathlib.Core.Bool.{Bool, not}
use Rattle.std.specs.Prelude.{None}
use Prim.Native.Nat.{ℕ, ◌<◌}
use native.Mathlib.Omega.{arith}
use lib.Dec.{eqb}
use Rattle.std.specs.List.{flat_map}
use lib.ListN.{get_or}
use borrow.Author.Tests.{eqb-true, not-false}
use Rattle.terms.specs.Lists.{lowest, total}
use Rattle.terms.proofs.Lowest.{lowest-none}
use Rattle.utf8.specs.Judging.{after_first, row_of}
use Rattle.utf8.specs.declared.judging.TheConstants.{ROWS}
use Rattle.utf8.proofs.judging.row_of.Goals as goal

-- the test of an octet
abbrev agrees : ℕ → Bool
agrees o = eqb (get_or (flat_map (λ row. row) ROWS) o 0) (row_of o)

-- computed for all of them
no-row-differs : lowest (λ o. not (agrees o)) 256 ≡ None
unfolding lowest row_of total after_first
no-row-differs = refl

-- so it is the row of each
row : (o : ℕ) → o < 256 → get_or (flat_map (λ row. row) ROWS) o 0 ≡ row_of o
row o h =
    eqb-true (get_or (flat_map (λ row. row) ROWS) o 0) (row_of o)
    (not-false (agrees o) (lowest-none (λ k. not (agrees k)) 256 no-row-differs o h))

pub returns : goal.returns
returns c = rw (c.as_flattened.ensures.value, c.from.ensures) (row c.args.octet (omega arith))
