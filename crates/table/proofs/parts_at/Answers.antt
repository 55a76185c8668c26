-- `table::parts_at` meets its contract: the form of the table says that the parts of an entry lie in the pool.
-- Assumes nothing.
use Prim.Native.Nat.{◌+◌, ◌≤◌}
use native.Mathlib.Omega.{arith}
use lib.ListN.{length}
use Rattle.table.specs.Layout.{start_at, count_at}
use Rattle.table.specs.Table.{table}
use Rattle.table.proofs.Form.{formed-fits}
use Rattle.table.proofs.parts_at.Goals as goal

-- the end is in the pool
pub slice_bounds-result-end : goal.slice_bounds-result-end
slice_bounds-result-end c =
    let fits : let a = c.args in start_at a.entries.now a.i + count_at a.entries.now a.i ≤ length a.pool.now =
    let s = c in
    formed-fits (table s.args.entries.now s.args.pool.now) s.requires.pool_value s.args.i s.requires.i_bound in
    omega (arith, fits)
