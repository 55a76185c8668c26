-- An octet's row has at the place of each state the place of the next one (`row_next`), by one test of all 256 octets for each
-- state; and the state after one octet more of a text, as a loop meets it (`judged-more`).
-- Assumes nothing.
use mathlib.Core.Path.{◌≡◌, refl}
use mathlib.Core.Bool.{Bool, not}
use mathlib.Core.List.{List, [], ◌∷◌}
use Rattle.std.specs.Prelude.{None}
use Prim.Native.Nat.{ℕ, zero, suc, ◌/◌, ◌%◌, ◌^◌, ◌<◌}
use native.Mathlib.Omega.{arith}
use lib.Dec.{eqb}
use lib.ListN.{length, take, get_or}
use borrow.Author.Tests.{eqb-true, not-false}
use Rattle.terms.specs.Lists.{lowest, total}
use Rattle.terms.proofs.Lowest.{lowest-none}
use Rattle.utf8.specs.Judging.{State, Whole, One, Two, Three, AfterE0, AfterED, AfterF0, AfterF4, Fault}
use Rattle.utf8.specs.Judging.{after_first, next, judged, place, row_of}

-- the test of an octet at a state
abbrev agrees : State → ℕ → Bool
agrees s o = eqb (row_of o / 2 ^ place s % 64) (place (next s o))

-- computed for all of them
no-row-differs : (s : State) → lowest (λ o. not (agrees s o)) 256 ≡ None
unfolding lowest row_of total after_first
no-row-differs Whole = refl
no-row-differs One = refl
no-row-differs Two = refl
no-row-differs Three = refl
no-row-differs AfterE0 = refl
no-row-differs AfterED = refl
no-row-differs AfterF0 = refl
no-row-differs AfterF4 = refl
no-row-differs Fault = refl

-- the six bits of a row at the place of a state are the place of the next
pub row_next : (s : State) (o : ℕ) → o < 256 → row_of o / 2 ^ place s % 64 ≡ place (next s o)
row_next s o h =
    let passed = not-false (agrees s o) (lowest-none (λ k. not (agrees s k)) 256 (no-row-differs s) o h) in
    eqb-true (row_of o / 2 ^ place s % 64) (place (next s o)) passed

-- ---- the state after the octets so far

-- no octet yet
pub judged-nil : (s : State) → judged s [] ≡ s
unfolding judged
judged-nil s = refl

-- one octet more
pub judged-more : (s : State) (t : List ℕ) (i : ℕ) → i < length t
    → judged s (take (suc i) t) ≡ next (judged s (take i t)) (get_or t i 0)
unfolding judged
judged-more s [] i h = absurd (omega arith)
judged-more s (o ∷ t) zero h = refl
judged-more s (o ∷ t) (suc i) h = judged-more (next s o) t i (omega arith)
