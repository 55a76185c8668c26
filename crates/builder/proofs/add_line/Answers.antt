-- `builder::add_line` meets its contract: 28, then what the reading of the line gives, then what becomes of what the line gives.
-- Assumes nothing.
use Rattle.std.proofs.Common.{refl, sym, ◌∙◌, subst}
use Rattle.ucd.specs.Promises.{Reads}
use Rattle.builder.specs.Builder.{built}
use Rattle.builder.proofs.Refusals.{line_refusal-28, line_refusal-reading, line_refusal-given}
use Rattle.builder.proofs.Adding.{added_by-refused, added_by-line}
use Rattle.builder.proofs.add_line.Goals as goal

-- an impossible state
pub returns-then-is_impossible : goal.returns-then-is_impossible
returns-then-is_impossible c =
    let b = built c.args.state c.args.entries.now c.args.pool.now in
    rw c.refused.ensures
    (added_by-line (line_refusal-28 b _ (sym c.is_impossible.ensures ∙ c.if-is_impossible.true)) refl
    (added_by-refused b refl))

-- what the line gives
pub returns-in-Ok : goal.returns-in-Ok
returns-in-Ok c =
    let b = built c.args.state c.args.entries.now c.args.pool.now in
    let given = subst (Reads c.args.line.now c.read_line.new.parts) c.in-Ok.is c.read_line.ensures in
    let possible = sym c.is_impossible.ensures ∙ c.if-is_impossible.false in
    added_by-line (line_refusal-given b _ possible given.unrefused given.given) given.given c.add_given.ensures

-- the reading is refused
pub returns-in-Err : goal.returns-in-Err
returns-in-Err c =
    let b = built c.args.state c.args.entries.now c.args.pool.now in
    let line = c.args.line.now in
    let read-refused = subst (Reads line c.read_line.new.parts) c.in-Err.is c.read_line.ensures in
    let possible = sym c.is_impossible.ensures ∙ c.if-is_impossible.false in
    rw (c.refused-in-Err.ensures, c.from.ensures)
    (added_by-line (line_refusal-reading b line possible read-refused) refl (added_by-refused b refl))
