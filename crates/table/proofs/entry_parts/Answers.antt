-- `table::entry_parts` meets its contract: the answer of the search says which case of `parts_in` holds.
-- Assumes nothing.
use native.Mathlib.Omega.{arith}
use mathlib.Core.Path.{◌≡◌, sym, ◌∙◌}
use Rattle.std.specs.Prelude.{Some}
use Rattle.table.specs.Table.{table, entry_of}
use Rattle.table.specs.Promises.{Ascending}
use Rattle.table.proofs.Form.{formed-ascending, entry_of-some, entry_parts-none}
use Rattle.table.proofs.Search.{candidates-none}
use Rattle.table.proofs.entry_parts.Goals as goal

pub within_reach-count-requires : goal.within_reach-count-requires
within_reach-count-requires c =
    let ascending : Ascending c.args.entries.now =
    formed-ascending ((table c.args.entries.now c.args.pool.now)) c.requires in
    ascending

-- no entry within reach, no parts
pub returns-then-count-eq0 : goal.returns-then-count-eq0
returns-then-count-eq0 c =
    let called = c in
    let s = called in
    sym (entry_parts-none ((table c.args.entries.now c.args.pool.now)) s.args.c.0 (candidates-none (rw c.if-count-eq0.true at called.within_reach-count.ensures)))

pub find_among-requires : goal.find_among-requires
find_among-requires c =
    let ascending : Ascending c.args.entries.now =
    formed-ascending ((table c.args.entries.now c.args.pool.now)) c.requires in
    let called = c in
    record { ascending = ascending; size_nonzero = omega arith; candidates = called.within_reach-count.ensures }

-- the entry is one
pub parts_at-requires : goal.parts_at-requires
parts_at-requires c =
    let found : entry_of c.args.entries.now c.args.c.0 ≡ Some c.in-Some.i =
    sym c.find_among.ensures ∙ c.in-Some.is in
    let s = c in
    record { pool_value = s.requires; i_bound = (entry_of-some s.args.entries.now s.args.c.0 _ (found)).0 }
