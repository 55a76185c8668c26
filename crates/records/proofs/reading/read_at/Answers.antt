-- `records::reading::read_at` meets its contract: the end, past it, or what `frame_of` and `read_following` say of the
-- octets from the position on.
-- Assumes nothing.
use mathlib.Core.Path.{sym, ap, ◌∙◌}
use native.Mathlib.Omega.{arith}
use lib.ListN.{length, drop, length-drop}
use Rattle.terms.specs.Refusals.{refused}
use Rattle.terms.proofs.Parts.{take-drop}
use Rattle.records.specs.Reading.{reading_outcome}
use Rattle.records.specs.Promises.{rules_for}
use Rattle.records.proofs.Framing.{framed-some, length-following}
use Rattle.records.proofs.Framing.{read_at-end, read_at-past, read_at-framed, read_at-short}
use Rattle.records.proofs.reading.read_at.Goals as goal

-- at the end
pub returns-then-at-records : goal.returns-then-at-records
returns-then-at-records c =
    let a = c.args in
    sym (ap reading_outcome (read_at-end (rules_for a.keys) a.records.now a.position.0 c.if-at-records.true))

-- past it
pub returns-then-records-at : goal.returns-then-records-at
returns-then-records-at c =
    let a = c.args in
    ap refused c.refusal.ensures
    ∙ sym (ap reading_outcome (read_at-past (rules_for a.keys) a.records.now a.position.0 c.if-records-at.true))

pub overflow_add-n : goal.overflow_add-n
overflow_add-n c =
    let framed = framed-some c.args.records.now c.args.position.0 c.in-Some.n (sym c.in-Some.is ∙ c.frame_of.ensures) in
    omega (arith, framed.room)

pub slice_bounds-read_following-end : goal.slice_bounds-read_following-end
slice_bounds-read_following-end c =
    let s = c.args.records.now in
    let p = c.args.position.0 in
    let framed = framed-some s p c.in-Some.n (sym c.in-Some.is ∙ c.frame_of.ensures) in
    omega (arith, framed.room, ap length (take-drop p s), length-drop p s)

pub read_following-requires-clause-in_bounds : goal.read_following-requires-clause-in_bounds
read_following-requires-clause-in_bounds c =
    let s = c.args.records.now in
    let p = c.args.position.0 in
    let framed = framed-some s p c.in-Some.n (sym c.in-Some.is ∙ c.frame_of.ensures) in
    rw (framed.lent, length-following (drop p s) framed.whole) framed.whole.kind

-- a whole record
pub returns-in-Some : goal.returns-in-Some
returns-in-Some c =
    let s = c.args.records.now in
    let p = c.args.position.0 in
    let framed = framed-some s p c.in-Some.n (sym c.in-Some.is ∙ c.frame_of.ensures) in
    c.read_following.ensures ∙ ap reading_outcome (sym (read_at-framed (rules_for c.args.keys) s p c.in-Some.n framed))

-- fewer octets than it says
pub returns-in-None : goal.returns-in-None
returns-in-None c =
    let s = c.args.records.now in
    let p = c.args.position.0 in
    ap refused c.refusal-in-None.ensures
    ∙ ap reading_outcome
    (sym (read_at-short (rules_for c.args.keys) s p c.if-at-records.false (sym c.in-None.is ∙ c.frame_of.ensures)))
