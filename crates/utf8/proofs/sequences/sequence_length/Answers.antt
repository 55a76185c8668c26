-- `utf8::sequences::sequence_length` meets its contract: an octet of ASCII is a character by itself, and any other
-- has a leading one.
-- Assumes nothing.
use mathlib.Core.Path.{◌≡◌, sym, ◌∙◌}
use mathlib.Core.Logic.{inl}
use native.Mathlib.Omega.{arith}
use borrow.Author.Tests.{ltb-true, ltb-false}
use Rattle.utf8.specs.Utf8.{leading_ones}
use Rattle.utf8.proofs.Lengths.{leading_zeros-inverted, leading_ones-some, announced-one, announced-one-or-many}
use Rattle.utf8.proofs.sequences.sequence_length.Goals as goal

pub returns-then-is_ascii : goal.returns-then-is_ascii
returns-then-is_ascii c =
    sym (announced-one c.args.first (ltb-true c.args.first 0x80 (sym c.is_ascii.ensures ∙ c.if-is_ascii.true)))

-- a single one
pub returns-in-0-to-1 : goal.returns-in-0-to-1
returns-in-0-to-1 c =
    let counted : c.leading_ones.result ≡ leading_ones 8 c.args.first =
    c.leading_ones.ensures ∙ leading_zeros-inverted c.args.first (omega arith) in
    let some = leading_ones-some c.args.first (ltb-false c.args.first 0x80 (sym c.is_ascii.ensures ∙ c.if-is_ascii.false)) in
    sym (announced-one-or-many c.args.first (inl (omega (arith, counted, some))))
