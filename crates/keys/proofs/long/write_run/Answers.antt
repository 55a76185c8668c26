-- `keys::long::write_run` meets its contract: the octets that the row has were walked or, where it has none for the first, the
-- characters up to a place after it.
-- Assumes nothing.
use mathlib.Core.Path.{◌≡◌}
use Prim.Native.Nat.{◌*◌}
use native.Mathlib.Omega.{arith}
use Rattle.table.specs.Table.{table, mapping_of}
use Rattle.decompose.proofs.Demand3.{accepted-all}
use Rattle.keys.specs.Walks.{Walking}
use Rattle.keys.proofs.Walking.{walking-still}
use Rattle.keys.proofs.long.write_run.Goals as goal

-- few lookups
pub overflow_mul-result : goal.overflow_mul-result
overflow_mul-result c =
    let walked : let n = c.write_plain-run.result in Walking ((mapping_of (table c.args.entries.now c.args.pool.now))) c.args.text.now c.args.key.now n n (2 * n) ((c.write_plain-run.new.key)) =
    let s = c in
    c.write_plain-run.ensures.walked ((mapping_of (table c.args.entries.now c.args.pool.now))) s.requires.plain_row
    (accepted-all (table s.args.entries.now s.args.pool.now) s.requires.usable.accepted) s.requires.text_value in
    let w = c in
    omega (arith, (walked).sized.passed, w.requires.text_len_bound)

pub returns-then-run-ne0 : goal.returns-then-run-ne0
returns-then-run-ne0 c =
    let walked : let n = c.write_plain-run.result in Walking ((mapping_of (table c.args.entries.now c.args.pool.now))) c.args.text.now c.args.key.now n n (2 * n) ((c.write_plain-run.new.key)) =
    let s = c in
    c.write_plain-run.ensures.walked ((mapping_of (table c.args.entries.now c.args.pool.now))) s.requires.plain_row
    (accepted-all (table s.args.entries.now s.args.pool.now) s.requires.usable.accepted) s.requires.text_value in
    record { walked = walked; reached = omega (arith, c.if-run-ne0.true) }

pub returns : goal.returns
returns c =
    let walked : let n = c.write_plain-run.result in Walking ((mapping_of (table c.args.entries.now c.args.pool.now))) c.args.text.now c.args.key.now n n (2 * n) ((c.write_plain-run.new.key)) =
    let s = c in
    c.write_plain-run.ensures.walked ((mapping_of (table c.args.entries.now c.args.pool.now))) s.requires.plain_row
    (accepted-all (table s.args.entries.now s.args.pool.now) s.requires.usable.accepted) s.requires.text_value in
    let still : let w = c in (c.write_plain-run.new.key) ≡ w.args.key.now =
    walking-still (walked) (omega (arith, c.if-run-ne0.false)) in
    let r = c in
    let found = r in
    let other = found in
    let s = other in
    let to = rw (still) at r.write_characters.ensures in
    record { walked = to.walked; reached = omega (arith, to.reached, found.past_others.ensures) }
