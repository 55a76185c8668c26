-- `sorting::key_at` meets its contract: a key begins where the one before it ends.
-- Assumes nothing.
use mathlib.Core.Path.{sym}
use Prim.Native.Nat.{◌-◌}
use lib.ListN.{get_or}
use Rattle.sorting.proofs.Keys.{start_of-next, key_in-first, key_in-from}
use Rattle.sorting.proofs.key_at.Goals as goal

pub returns-then-x-eq0 : goal.returns-then-x-eq0
returns-then-x-eq0 c =
    sym (key_in-first c.args.store.now c.args.ends.now c.args.x c.if-x-eq0.true)

pub returns-else-x-eq0 : goal.returns-else-x-eq0
returns-else-x-eq0 c =
    let ends = c.args.ends.now in
    let x = c.args.x in
    sym (key_in-from c.args.store.now ends x (get_or ends (x - 1) 0) (start_of-next ends x c.if-x-eq0.false))
