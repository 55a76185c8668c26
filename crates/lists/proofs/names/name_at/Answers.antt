-- `lists::names::name_at` meets its contract: the position is before the end and no record from there on is refused, so that a
-- name is there.
-- Assumes nothing.
use mathlib.Core.Path.{sym, ap, ◌∙◌}
use native.Mathlib.Omega.{arith}
use Rattle.std.specs.Prelude.{Ok}
use Rattle.terms.proofs.Tests.{none-some}
use Rattle.lists.proofs.Steps.{fault-stopped}
use Rattle.lists.proofs.Answers.{name-read, end_read, stopped-read, no_key}
use Rattle.lists.proofs.names.name_at.Goals as goal

pub returns : goal.returns
returns c =
    name-read c.args.list.now c.args.at.0 c.read_name.result c.read_name.ensures c.in-Ok-Text.start c.in-Ok-Text.end
    (c.in-Ok-Text.is ∙ ap Ok c.in-Ok-Text.field-0-is)

-- not the end
pub unreachable-requires : goal.unreachable-requires
unreachable-requires c =
    let last = end_read c.args.list.now c.args.at.0 c.read_name.result c.read_name.ensures
    (c.in-Ok-End.is ∙ ap Ok c.in-Ok-End.field-0-is) in
    omega (arith, last, c.requires.at_in_bounds)

-- no key
pub unreachable-requires-in-Ok-Key : goal.unreachable-requires-in-Ok-Key
unreachable-requires-in-Ok-Key c =
    no_key c.args.list.now c.args.at.0 c.read_name.result c.read_name.ensures _ _ _ (c.in-Ok-Key.is ∙ ap Ok c.in-Ok-Key.field-0-is)

-- nothing refused
pub unreachable-requires-in-Err : goal.unreachable-requires-in-Err
unreachable-requires-in-Err c =
    let y = c.in-Err.field-0 in
    let there = stopped-read c.args.list.now c.args.at.0 c.read_name.result c.read_name.ensures y c.in-Err.is in
    none-some y (sym c.requires.at_value ∙ fault-stopped c.args.list.now c.args.at.0 (omega (arith, c.requires.at_in_bounds)) y there)
