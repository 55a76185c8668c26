-- `pairing::words::put_decimal` meets its contract: a digit alone, or the digits of a tenth, by a call of itself, and then
-- the last digit. The measure of the recursion is the number.
-- Assumes nothing.
use Rattle.std.proofs.Common.{◌≡◌, ◌/◌, ◌%◌, [], length, arith}
use Rattle.pairing.specs.Words.{digit, decimal, decimal_digit, decimal-more}
use Rattle.pairing.proofs.Numbers.{length-decimal-more}
use Rattle.octets.proofs.Puts.{puts_none, puts-more}
use Rattle.pairing.proofs.words.+put_decimal.Goals as goal

-- room for it
pub bounds-out-0 : goal.bounds-out-0
bounds-out-0 t c =
    let one : length (decimal c.args.n) ≡ 1 = rw (decimal_digit c.args.n c.if-n-lt10.true) in
    omega (arith, c.requires)

-- a digit alone
pub returns-then-n-lt10 : goal.returns-then-n-lt10
returns-then-n-lt10 t c =
    let out = c.args.out.now in
    let one : length (decimal c.args.n) ≡ 1 = rw (decimal_digit c.args.n c.if-n-lt10.true) in
    rw (decimal_digit c.args.n c.if-n-lt10.true)
    (puts-more [] out 0 out (puts_none out) (digit c.args.n) (omega (arith, c.requires)))

-- a tenth is less, and has a digit less
pub put_decimal-at-requires : goal.put_decimal-at-requires
put_decimal-at-requires t c =
    (omega (arith, c.decreases), omega (arith, length-decimal-more c.args.n c.if-n-lt10.false, c.requires))

-- the callee kept the length
pub bounds-out-at : goal.bounds-out-at
bounds-out-at t c =
    omega (
      arith,
      c.put_decimal-at.ensures.count,
      length-decimal-more c.args.n c.if-n-lt10.false,
      c.requires,
      c.put_decimal-at.auto.out,
    )

-- the last digit after those of a tenth
pub returns : goal.returns
returns t c =
    let n = c.args.n in
    let tenth = c.put_decimal-at in
    rw (decimal-more n c.if-n-lt10.false)
    (puts-more (decimal (n / 10)) c.args.out.now tenth.result tenth.new.out tenth.ensures (digit (n % 10))
    (omega (arith, tenth.ensures.count, length-decimal-more n c.if-n-lt10.false, c.requires)))
