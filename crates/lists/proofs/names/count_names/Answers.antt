-- `lists::names::count_names` meets its contract. The invariant: the names before the position are counted, and the list
-- has the refusal that it has from there on; what falls is what is left of the list.
-- Assumes nothing.
use mathlib.Core.Path.{ap, ◌∙◌}
use Rattle.std.specs.Prelude.{Ok}
use native.Mathlib.Omega.{arith}
use Rattle.std.proofs.lemmas.Result.{err_from_is_err_and}
use Rattle.lists.specs.Promises.{NameRead}
use Rattle.lists.proofs.Answers.{name-read, other-end, stopped-read, counting-onward}
use Rattle.lists.proofs.Answers.{counting_more, counting-done, counting-stopped}
use Rattle.lists.proofs.names.count_names.Goals as goal

pub overflow_add-octets : goal.overflow_add-octets
overflow_add-octets c =
    let found : NameRead c.args.list.now c.loop-start.at.0 ((record { start = c.in-Text.start; end = c.in-Text.end })) =
    let r = c in
    name-read r.args.list.now r.loop-start.at.0 r.read_name.result
    r.read_name.ensures
    c.in-Text.start
    c.in-Text.end
    (c.in_ok-start.was ∙ ap Ok c.in-Text.is) in
    let r = c in
    let l = r in
    omega (
      arith,
      l.loop-start.invariant.less,
      counting-onward l.loop-start.invariant ((record { start = c.in-Text.start; end = c.in-Text.end })) (found),
      (found).within,
      l.type_inv.list 0,
    )

pub loop-start-smaller : goal.loop-start-smaller
loop-start-smaller c =
    let found : NameRead c.args.list.now c.loop-start.at.0 ((record { start = c.in-Text.start; end = c.in-Text.end })) =
    let r = c in
    name-read r.args.list.now r.loop-start.at.0 r.read_name.result
    r.read_name.ensures
    c.in-Text.start
    c.in-Text.end
    (c.in_ok-start.was ∙ ap Ok c.in-Text.is) in
    let r = c in
    let l = r in
    omega (arith, l.loop-start.invariant.inside, counting-onward l.loop-start.invariant ((record { start = c.in-Text.start; end = c.in-Text.end })) (found), (found).within)

pub loop-start-preserved : goal.loop-start-preserved
loop-start-preserved c =
    let found : NameRead c.args.list.now c.loop-start.at.0 ((record { start = c.in-Text.start; end = c.in-Text.end })) =
    let r = c in
    name-read r.args.list.now r.loop-start.at.0 r.read_name.result
    r.read_name.ensures
    c.in-Text.start
    c.in-Text.end
    (c.in_ok-start.was ∙ ap Ok c.in-Text.is) in
    let r = c in
    let l = r in
    counting_more l.loop-start.invariant ((record { start = c.in-Text.start; end = c.in-Text.end })) (found)

pub returns : goal.returns
returns c =
    counting-done c.loop-start.invariant
    (other-end c.args.list.now c.loop-start.at.0 c.read_name.result c.read_name.ensures c.in_ok-start.field-0 c.in_ok-start.was
    c.in_default.not-Text)

pub returns-in_err-start : goal.returns-in_err-start
returns-in_err-start c =
    let same = err_from_is_err_and c.from_residual.result c.from_residual.ensures.1 in
    rw (same.1, same.2)
    (counting-stopped c.loop-start.invariant _
    (stopped-read c.args.list.now c.loop-start.at.0 c.read_name.result c.read_name.ensures _ c.in_err-start.was))
