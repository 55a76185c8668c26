-- `ucd::fields::count_fields` meets its contract: there is one field more than std counts semicolons.
-- Assumes nothing.
use Rattle.std.proofs.Common.{◌∙◌, sym}
use Rattle.std.proofs.lemmas.List.{take_all}
use Rattle.ucd.proofs.Cutting.{length-cut-count}
use Rattle.ucd.proofs.fields.count_fields.Goals as goal

pub returns : goal.returns
returns c =
    let line = c.args.line.now in
    rw (take_all c.loop-o.o-index line c.loop-o-test.false) at c.loop-o.invariant.counted
    ∙ sym (length-cut-count 0x3B line)
