-- An answer of the builder is fixed by its numbers and the state that comes back.
-- Assumes nothing.
use mathlib.Core.Path.{◌≡◌, ap₂}
use Rattle.std.specs.Prelude.{Result, Ok, Err}
use Rattle.builder.specs.Builder.{refused_line, line_outcome, state_after}
use Rattle.terms.specs.declared.Refusal.{Refusal}
use Rattle.builder.specs.declared.LineState.{LineState}
use Rattle.builder.specs.declared.RefusedLine.{RefusedLine}

-- lines with the same numbers and the same state are the same answer
pub line_outcome-inj : (x y : Result LineState RefusedLine)
    → line_outcome x ≡ line_outcome y → state_after x ≡ state_after y → x ≡ y
line_outcome-inj (Ok s) (Ok t) e f = cc
line_outcome-inj (Ok s) (Err y) e f = cc
line_outcome-inj (Err x) (Ok t) e f = cc
line_outcome-inj (Err x) (Err y) e f =
    let same : x.refusal ≡ y.refusal = cc in
    ap₂ (λ (r : Refusal) (s : LineState). Err (refused_line r s)) same f
