-- `pairs::answers::answer_lines`: the reader stands within the buffer, the output buffer has room for one line more, and the
-- lines counted and the steps left are no more than the steps at the start.
use Rattle.std.proofs.Common.{◌+◌, ◌≤◌, length}
use Rattle.pairs.specs.Reading.{Stands, HasRoom}
use Rattle.pairs.proofs.answers.answer_lines.Given as goal

abbrev pub invariant-loop-answer : goal.invariant-loop-answer
invariant-loop-answer g l = record {
  stands : Stands (length l.buffer) l.reader;
  room : HasRoom (length l.out) l.output;
  counted : l.count + l.reader.left ≤ 1152921504606846976;
}

abbrev pub decreases-loop-answer : goal.decreases-loop-answer
decreases-loop-answer g l = l.reader.left
