-- `bench_find::bench_find` meets its contract: the place is within the hay, so one more than it is a number.
-- Assumes nothing.
use mathlib.Core.Path.{◌≡◌, sym, ap, ◌∙◌}
use Rattle.std.specs.Prelude.{Some}
use native.Mathlib.Omega.{arith}
use Rattle.occurrence.specs.Occurrence.{occurrence}
use Rattle.occurrence.specs.Promises.{place_found}
use Rattle.occurrence.proofs.Laws.{occurrence-within}
use Rattle.bench_find.proofs.bench_find.Goals as goal

-- within the hay
pub overflow_add-result : goal.overflow_add-result
overflow_add-result c =
    let found : let s = c in occurrence s.args.needle.now s.args.hay.now ≡ Some ((c.in-Some.place.0)) =
    sym c.find.ensures ∙ ap place_found c.in-Some.is in
    let at = c in
    let s = at in
    omega (arith, occurrence-within s.args.needle.now s.args.hay.now ((c.in-Some.place.0)) (found), s.well_formed.1.0.1)
