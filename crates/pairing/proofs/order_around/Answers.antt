-- `pairing::order_around` meets its contract: the two parts that are lent are the texts before and after the place.
-- Assumes nothing.
use Rattle.std.proofs.Common.{◌+◌, add-one}
use Rattle.std.proofs.lemmas.List.{take_rest}
use Rattle.pairing.proofs.order_around.Goals as goal

-- the text after it
pub returns : goal.returns
returns c = rw (take_rest c.args.line.now (c.args.at + 1), add-one c.args.at) at c.order_accepted.ensures
