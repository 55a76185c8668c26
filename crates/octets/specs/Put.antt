-- Octets that were written at the start of a slice.
-- Assumes nothing.
use Rattle.std.specs.Prelude.{◌≡◌, ℕ, List, length}
use Rattle.terms.specs.Lists.{over}

-- octets were written at the start of a slice, the rest left, and counted
pub record Puts (octets before : List ℕ) (n : ℕ) (after : List ℕ) : Type 0 where
  pub count : n ≡ length octets
  pub left : after ≡ over octets before
