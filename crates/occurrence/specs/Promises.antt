-- The answer of `find` and the rows of a needle in the paper's numbers.
-- Assumes nothing.
use Rattle.std.specs.Prelude.{ℕ, List, map}
use Rattle.std.specs.Prelude.{Option, None, Some}
use Rattle.terms.specs.declared.KeyPosition.{KeyPosition}
use Rattle.occurrence.specs.declared.rows.Rows.{Rows}

-- the place that was found, if there is one
abbrev pub place_found : Option KeyPosition → Option ℕ
place_found (Some p) = Some p.0
place_found None = None

-- the periods of rows
abbrev pub periods : Rows → List ℕ
periods t = map (λ r. r.period) t.rows

-- how far each of them reaches
abbrev pub reaches : Rows → List ℕ
reaches t = map (λ r. r.reach) t.rows
