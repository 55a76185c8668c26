-- `pairs::reader::next_line`: the reader stands within the buffer, with no more steps left than at the start.
use Rattle.std.proofs.Common.{◌≤◌, length}
use Rattle.pairs.specs.Reading.{Stands}
use Rattle.pairs.proofs.reader.next_line.Given as goal

abbrev pub invariant-loop-r : goal.invariant-loop-r
invariant-loop-r g l = Stands (length l.buffer) l.r × (l.r.left ≤ l.fn.reader.left)

abbrev pub decreases-loop-r : goal.decreases-loop-r
decreases-loop-r g l = l.r.left
