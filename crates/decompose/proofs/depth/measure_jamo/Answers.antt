-- `decompose::depth::measure_jamo` meets its contract: a jamo has the parts that its entry says, or is one code point.
-- Assumes nothing.
use native.Mathlib.Omega.{arith}
use mathlib.Core.Path.{◌≡◌, sym, ap, ◌∙◌}
use lib.Dec.{leb}
use borrow.Author.Tests.{le-leb, lt-leb}
use Rattle.terms.specs.Lists.{when}
use Rattle.table.specs.Table.{table, parts_of, mapping_of}
use Rattle.table.proofs.Form.{parts_of-other}
use Rattle.decompose.specs.Promises.{jamo_levels, measured}
use Rattle.decompose.proofs.Walk.{parts_none, measured-whole}
use Rattle.decompose.proofs.depth.measure_jamo.Goals as goal

-- none, and no room
pub returns-then-room-eq0 : goal.returns-then-room-eq0
returns-then-room-eq0 c =
    let parts : c.entry_parts-parts.result.now ≡ parts_of ((let a = c.args in table a.entries.now a.pool.now)) c.args.c.0 =
    c.entry_parts-parts.ensures ∙ sym (parts_of-other ((let a = c.args in table a.entries.now a.pool.now)) c.args.c.0 c.requires.c_value) in
    let whole : let s = c in measured (mapping_of ((let a = c.args in table a.entries.now a.pool.now))) jamo_levels s.args.room s.args.c.0 ≡ when (leb 1 s.args.room) 1 =
    let s = c in
    let m = mapping_of ((let a = c.args in table a.entries.now a.pool.now)) in
    measured-whole m jamo_levels s.args.room s.args.c.0
    (parts_none m s.args.c.0 _ (parts) c.if-parts-ne0.false) in
    let room = c.args.room in
    sym (whole ∙ ap (λ b. when b 1) (lt-leb 1 room (omega (arith, c.if-room-eq0.true))))

-- none, and room
pub returns : goal.returns
returns c =
    let parts : c.entry_parts-parts.result.now ≡ parts_of ((let a = c.args in table a.entries.now a.pool.now)) c.args.c.0 =
    c.entry_parts-parts.ensures ∙ sym (parts_of-other ((let a = c.args in table a.entries.now a.pool.now)) c.args.c.0 c.requires.c_value) in
    let whole : let s = c in measured (mapping_of ((let a = c.args in table a.entries.now a.pool.now))) jamo_levels s.args.room s.args.c.0 ≡ when (leb 1 s.args.room) 1 =
    let s = c in
    let m = mapping_of ((let a = c.args in table a.entries.now a.pool.now)) in
    measured-whole m jamo_levels s.args.room s.args.c.0
    (parts_none m s.args.c.0 _ (parts) c.if-parts-ne0.false) in
    let room = c.args.room in
    sym (whole ∙ ap (λ b. when b 1) (le-leb 1 room (omega (arith, c.if-room-eq0.false))))
