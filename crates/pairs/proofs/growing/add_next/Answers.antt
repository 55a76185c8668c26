-- `pairs::growing::add_next`: where a line came, the reader goes on after it.
use Rattle.std.proofs.Common.{length}
use Rattle.pairs.proofs.growing.add_next.Goals as goal

pub returns-in-Line : goal.returns-in-Line
returns-in-Line g c = c.add_read.ensures (length c.args.buffer.now) c.args.reader.left c.in-Line.ensures.1
