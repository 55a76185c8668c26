-- The first occurrence of one list of octets in another: "The answer gives start and end of the lowest occurrence".
-- Assumes nothing.
use Rattle.std.specs.Prelude.{ℕ, suc, Bool, List, length, drop}
use Rattle.std.specs.Prelude.{Option}
use Rattle.terms.specs.Lists.{begins, lowest}

-- the needle stands in the hay from place i on: "its key occurs contiguously"
abbrev pub occurs_at : List ℕ → List ℕ → ℕ → Bool
occurs_at needle hay i = begins needle (drop i hay)

-- the lowest place at which it does, if there is one
unfoldable pub occurrence : List ℕ → List ℕ → Option ℕ
occurrence needle hay = lowest (occurs_at needle hay) (suc (length hay))
