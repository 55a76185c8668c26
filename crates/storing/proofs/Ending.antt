-- What a passed check of ends says.
-- Assumes nothing.
use mathlib.Core.Path.{◌≡◌, refl, sym}
use Prim.Native.Nat.{ℕ, ◌≤◌, ◌<◌}
use mathlib.Core.Bool.{false}
use Rattle.std.specs.Prelude.{Option, None, Some}
use mathlib.Core.List.{List, [], ◌∷◌}
use lib.Dec.{ltb}
use lib.ListN.{length, get_or}
use borrow.Author.Tests.{ltb-false}
use Rattle.terms.specs.Lists.{lowest}
use Rattle.terms.specs.Refusals.{ends_most, refusal, check}
use Rattle.terms.specs.declared.Refusal.{Refusal}
use Rattle.terms.proofs.Checks.{or_left, or_right, when-none, first-none}
use Rattle.terms.proofs.Lowest.{lowest-none}
use Rattle.terms.proofs.Tests.{none-some}
use Rattle.sorting.specs.KeyOrder.{start_of, Ends}
use Rattle.storing.specs.Ends.{string_at, faulty_end, ends_refusal}

-- none is at fault
pub string_at-none : (number : ℕ) (o : Option ℕ) → string_at number o ≡ None → o ≡ None
string_at-none number None e = refl
string_at-none number (Some i) e = absurd (none-some (refusal number 1 i) (sym e))

module _ (octets : ℕ) (ends : List ℕ) (passed : ends_refusal octets ends ≡ None) where
  abbrev checks : List (Option Refusal)
  checks = check (ltb ends_most (length ends)) 14 1 0 ∷ string_at 36 (lowest (faulty_end octets ends) (length ends)) ∷ []

  pub ends-few : length ends ≤ ends_most
  unfolding ends_refusal
  ends-few =
      ltb-false ends_most (length ends) (when-none (ltb ends_most (length ends)) (refusal 14 1 0) (first-none checks passed 0))

  sound : (x : ℕ) → x < length ends → faulty_end octets ends x ≡ false
  unfolding ends_refusal
  sound = lowest-none (faulty_end octets ends) (length ends)
      (string_at-none 36 (lowest (faulty_end octets ends) (length ends)) (first-none checks passed 1))

  end-within : (x : ℕ) → x < length ends → get_or ends x 0 ≤ octets
  end-within x h =
      ltb-false octets (get_or ends x 0) (or_left (ltb octets (get_or ends x 0)) (ltb (get_or ends x 0) (start_of ends x)) (sound x h))

  end-forward : (x : ℕ) → x < length ends → start_of ends x ≤ get_or ends x 0
  end-forward x h =
      ltb-false (get_or ends x 0) (start_of ends x)
      (or_right (ltb octets (get_or ends x 0)) (ltb (get_or ends x 0) (start_of ends x)) (sound x h))

-- they are ends of keys there
pub ends-passed : (octets ends : List ℕ) → ends_refusal (length octets) ends ≡ None → Ends octets ends
ends-passed octets ends e = record {
  forward = end-forward (length octets) ends e;
  within = end-within (length octets) ends e;
}
