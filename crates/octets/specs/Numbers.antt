-- Octets of a list that were read as one number, the first the highest.
-- Assumes nothing.
use Rattle.std.specs.Prelude.{◌≡◌, ℕ, zero, suc, ◌+◌, ◌*◌, ◌<◌, List, get_or}

-- the number that so many octets of a list from a place on write after a number
unfoldable pub number_at : ℕ → ℕ → ℕ → List ℕ → ℕ
number_at zero n at xs = n
number_at (suc k) n at xs = number_at k (n * 256 + get_or xs at 0) (suc at) xs

-- so many octets of a list from a place on were read as one number, and octets are all that the list has
pub record ReadsNumber (k : ℕ) (xs : List ℕ) (at r : ℕ) : Type 0 where
  pub number : r ≡ number_at k 0 at xs
  pub octets : (i : ℕ) → get_or xs i 0 < 256
