-- `pairs::growing::add_read`: the builder keeps what is used within the slices, and refuses by the number of a reason.
use mathlib.Core.Path.{sym, subst}
use Rattle.builder.specs.declared.RefusedLine.{RefusedLine}
use Rattle.pairs.specs.Reading.{OfReason}
use Rattle.pairs.proofs.Reasons.{refused-reasoned}
use Rattle.pairs.proofs.Taken.{used-taken}
use Rattle.pairs.proofs.growing.add_read.Goals as goal

pub returns-in-Ok : goal.returns-in-Ok
returns-in-Ok c = λ n bound goes. (used-taken c.requires c.in-Ok.ensures, goes)

pub returns-in-Err : goal.returns-in-Err
returns-in-Err c = λ n bound goes.
    subst (λ (e : RefusedLine). OfReason e.refusal.number) (sym c.refused.view_is) (refused-reasoned c.in-Err.ensures)
