-- Matches and periods of lists of octets, element by element.
-- Assumes nothing.
use Rattle.std.specs.Prelude.{ℕ, ◌+◌, ◌≤◌, ◌<◌, ◌≡◌, List, length, get_or}

-- the first i octets of x stand in y from place j on
pub record Matched (x y : List ℕ) (j i : ℕ) : Type 0 where
  pub same : (k : ℕ) → k < i → get_or x k 0 ≡ get_or y (j + k) 0

-- s is a period of the first i octets of x
pub record Period (x : List ℕ) (i s : ℕ) : Type 0 where
  pub same : (k : ℕ) → s + k < i → get_or x k 0 ≡ get_or x (s + k) 0

-- of the first `most` octets of x just r stand in y from place j on, before one that differs
pub record Extended (x y : List ℕ) (j most r : ℕ) : Type 0 where
  pub within : r ≤ most
  pub matched : Matched x y j r
  pub stops : r < most → get_or x r 0 ≡ get_or y (j + r) 0 → ⊥

-- x stands in y from no place below j on
pub record Unmatched (x y : List ℕ) (j : ℕ) : Type 0 where
  pub fails : (k : ℕ) → k < j → Matched x y k (length x) → ⊥

-- the places of a block
abbrev pub block : ℕ
block = 64

-- x stands in y from no place from j on and below `at`, and y has room for it at that place
pub record Skipped (x y : List ℕ) (j at : ℕ) : Type 0 where
  pub onward : j ≤ at
  pub room : at + length x ≤ length y
  pub fails : (k : ℕ) → j ≤ k → k < at → Matched x y k (length x) → ⊥
