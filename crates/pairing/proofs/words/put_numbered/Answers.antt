-- `pairing::words::put_numbered` meets its contract: the word, the digits in the part after it, and the line end after both.
-- Assumes nothing.
use Rattle.std.proofs.Common.{arith}
use Rattle.std.proofs.lemmas.List.{length-drop, take_rest}
use Rattle.pairing.proofs.Numbers.{room-after, line_end-within, puts-numbered}
use Rattle.pairing.proofs.words.put_numbered.Goals as goal

-- room for the digits
pub put_decimal-requires : goal.put_decimal-requires
put_decimal-requires c =
    let out = c.put_octets-at.new.out in
    let at = c.put_octets-at.result in
    let room =
    room-after c.args.word.now c.args.out.now out at c.args.n (omega (arith, c.ranges.n)) c.requires
    c.put_octets-at.ensures in
    rw (take_rest out at) (omega (arith, length-drop at out))

-- room for the line end
pub bounds-out-end : goal.bounds-out-end
bounds-out-end c =
    line_end-within _ _ _ _ c.args.n (omega (arith, c.ranges.n)) c.requires c.put_octets-at.ensures _ _ c.put_decimal.ensures

-- the line end after the digits
pub returns : goal.returns
returns c =
    puts-numbered _ _ _ _ c.args.n (omega (arith, c.ranges.n)) c.requires c.put_octets-at.ensures _ _ c.put_decimal.ensures
