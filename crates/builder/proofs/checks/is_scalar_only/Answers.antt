-- `builder::checks::is_scalar_only` meets its contract: the parts are scalar if std's `all` says so.
-- Assumes nothing.
use Rattle.std.proofs.Common.{◌≡◌, ◌∙◌, sym, rules, tests}
use Rattle.std.proofs.lemmas.Iterator.{YieldsList-from_slice}
use Rattle.std.proofs.lemmas.Iterator.Search.{all_from_yields_List}
use Rattle.terms.specs.CodePoints.{scalar}
use Rattle.terms.specs.Lists.{all}
use Rattle.ucd.proofs.Walks.{all_std}
use Rattle.builder.proofs.checks.is_scalar_only.Goals as goal

pub returns-then-is_scalar-2 : goal.returns-then-is_scalar-2
returns-then-is_scalar-2 c =
    let parts = c.args.parts.now in
    let these : c.all.result ≡ all scalar parts =
    all_from_yields_List scalar _ _ _ c.all.ensures.ran (YieldsList-from_slice parts (cc)) (λ x b q k. search (rules, tests))
    ∙ sym (all_std scalar parts) in
    search rules
