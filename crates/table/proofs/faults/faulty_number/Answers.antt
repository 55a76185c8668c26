-- `table::faults::faulty_number` meets its contract: the first number that is not scalar is the lowest. Assumes nothing.
use mathlib.Core.Bool.{not}
use mathlib.Core.Path.{◌≡◌, ◌∙◌}
use Rattle.std.proofs.Common.{rules, tests}
use Rattle.std.proofs.lemmas.Iterator.{YieldsList-from_slice}
use Rattle.std.proofs.lemmas.Iterator.Search.{position_from_yields_List}
use Rattle.std.specs.List.{position}
use Rattle.terms.specs.CodePoints.{scalar}
use Rattle.terms.proofs.Lowest.{position-lowest}
use Rattle.table.proofs.faults.faulty_number.Goals as goal

pub returns : goal.returns
returns c =
    let found : c.position.result ≡ position (λ n. not (scalar n)) c.args.pool.now =
    position_from_yields_List (λ n. not (scalar n)) _ _ c.position.result c.position.ensures.ran
    (YieldsList-from_slice c.args.pool.now cc) (λ x b q k. search (rules, tests))
    in
    found ∙ position-lowest (λ n. not (scalar n)) c.args.pool.now 0
