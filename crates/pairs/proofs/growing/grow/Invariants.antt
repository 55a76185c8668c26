-- `pairs::growing::grow`: the reader stands within the buffer, and what the state says is used lies within the slices.
use Rattle.std.proofs.Common.{length}
use Rattle.builder.specs.Builder.{built}
use Rattle.builder.specs.Promises.{UsedFits}
use Rattle.pairs.specs.Reading.{Stands}
use Rattle.pairs.proofs.growing.grow.Given as goal

abbrev pub invariant-loop-after : goal.invariant-loop-after
invariant-loop-after g l = record {
  stands : Stands (length l.buffer) l.reader;
  fits : UsedFits (built l.state l.entries l.pool);
}

abbrev pub decreases-loop-after : goal.decreases-loop-after
decreases-loop-after g l = l.reader.left
