-- `table::find_among` meets its contract. The loop's invariant: one or more entries are left, `left` of them from `first` on
-- (`Candidates`). Half of what is left is at most the rest, so both ways keep it. The measure is `left`.
-- Assumes nothing.
use Prim.Native.Nat.{◌+◌, ◌/◌}
use native.Mathlib.Omega.{arith}
use mathlib.Core.Path.{sym, ◌∙◌}
use Rattle.table.proofs.Entries.{entry_count-most}
use Rattle.table.proofs.Form.{entry_of-entry}
use Rattle.table.proofs.Search.{candidates-up, candidates-down, candidates-other}
use Rattle.table.proofs.find_among.Goals as goal
use Rattle.table.proofs.find_among.Goals.{then-there-sought, else-there-sought}

pub overflow_add-middle : goal.overflow_add-middle
overflow_add-middle c = omega (arith, entry_count-most c.args.entries.now)

-- both ways
pub loop-left-preserved : goal.loop-left-preserved
loop-left-preserved c =
    let called = c in
    let at-loop = called in
    let up = at-loop.requires.ascending in
    let l = at-loop.loop-left in
    let read = called.code_at-there.ensures in (
      omega arith,
      elim c.if-there-sought.branch [
        | then-there-sought w ↦
            rw w.first-is (candidates-up l.invariant.1 (omega arith) (rw read at w.if-there-sought.true))
        | else-there-sought w ↦
            rw w.first-is
            (candidates-down up l.invariant.1 (l.first + l.left / 2) (omega arith) (omega arith)
            (rw read at w.if-there-sought.false))
      ],
    )

-- it is the one
pub returns-then-found-sought : goal.returns-then-found-sought
returns-then-found-sought c =
    let read = c in
    let l = read in
    let s = l in
    cc (entry_of-entry s.args.entries.now s.requires.ascending l.loop-left.first (omega arith), c.if-found-sought.true, read.code_at-found.ensures)

-- it is another's
pub returns-else-found-sought : goal.returns-else-found-sought
returns-else-found-sought c =
    let read = c in
    let l = read in
    sym (candidates-other l.requires.ascending l.loop-left.invariant.1 l.loop-left.invariant.0 (omega arith)
    (λ e. c.if-found-sought.false (read.code_at-found.ensures ∙ e)))
