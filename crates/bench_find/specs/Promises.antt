-- The answer of the exported search as one number.
-- Assumes nothing.
use Rattle.std.specs.Prelude.{ℕ, ◌+◌}
use Rattle.std.specs.Prelude.{Option, None, Some}

-- one more than the place, or 0 where there is none
abbrev pub place_or_zero : Option ℕ → ℕ
place_or_zero None = 0
place_or_zero (Some i) = i + 1
