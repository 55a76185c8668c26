-- `search::seek_key` meets its contract: what `find` answers says whether there is a hit, and where.
-- Assumes nothing.
use mathlib.Core.Path.{◌≡◌, sym, ap, ◌∙◌}
use Rattle.std.specs.Prelude.{Some}
use native.Mathlib.Omega.{arith}
use Rattle.occurrence.specs.Occurrence.{occurrence}
use Rattle.occurrence.specs.Promises.{place_found}
use Rattle.occurrence.proofs.Laws.{occurrence-within}
use Rattle.search.proofs.Seeking.{found-hits}
use Rattle.search.proofs.seek_key.Goals as goal

-- the hay has room for the needle there
pub overflow_add-end : goal.overflow_add-end
overflow_add-end c =
    let found : occurrence c.args.needle.now c.args.hay.now ≡ Some c.in_ok-start.start.0 =
    sym c.find.ensures ∙ ap place_found c.in_ok-start.was in
    omega (arith, occurrence-within c.args.needle.now c.args.hay.now _ found, c.well_formed.1.1.0.0)

-- found
pub hit_at-requires-clause-hits : goal.hit_at-requires-clause-hits
hit_at-requires-clause-hits c =
    found-hits c.requires.seekable _ (sym c.find.ensures ∙ ap place_found c.in_ok-start.was)
