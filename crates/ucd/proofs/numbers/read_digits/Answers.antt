-- `ucd::numbers::read_digits` meets its contract: the value goes on digit by digit.
-- Assumes nothing.
use Rattle.std.proofs.Common.{sym, ◌∙◌, ap, ◌+◌, ◌*◌, drop}
use Rattle.ucd.specs.Fields.{bounded}
use Rattle.ucd.proofs.Digits.{digits_more, digits-none, digits-end, bounded-digits-above}
use Rattle.ucd.proofs.numbers.read_digits.Goals as goal

-- no digit
pub returns-in_err-value : goal.returns-in_err-value
returns-in_err-value c =
    let l = c.loop-octet in
    let t = c.args.t.now in
    let none = digits-none l.value t l.octet-index c.loop-octet-test.true (sym c.read_digit.ensures ∙ c.in_err-value.was) in
    rw c.from_residual.ensures (sym (l.invariant.rest ∙ ap bounded none))

-- above 10FFFF
pub returns-then-value-gt1114111 : goal.returns-then-value-gt1114111
returns-then-value-gt1114111 c =
    let l = c.loop-octet in
    let t = c.args.t.now in
    let d = c.in_ok-value.field-0 in
    let more = digits_more l.value d t l.octet-index c.loop-octet-test.true (sym c.read_digit.ensures ∙ c.in_ok-value.was) in
    let above = bounded-digits-above (drop (l.octet-index + 1) t) (l.value * 16 + d) c.if-value-gt1114111.true in
    sym (l.invariant.rest ∙ ap bounded more ∙ above)

-- one digit more
pub loop-octet-preserved : goal.loop-octet-preserved
loop-octet-preserved c =
    let l = c.loop-octet in
    let t = c.args.t.now in
    let d = c.in_ok-value.field-0 in
    let more = digits_more l.value d t l.octet-index c.loop-octet-test.true (sym c.read_digit.ensures ∙ c.in_ok-value.was) in
    record { most = c.if-value-gt1114111.false; rest = l.invariant.rest ∙ ap bounded more }

-- the end
pub returns : goal.returns
returns c =
    let l = c.loop-octet in
    sym (l.invariant.rest ∙ digits-end l.value c.args.t.now l.octet-index c.loop-octet-test.false l.invariant.most)
