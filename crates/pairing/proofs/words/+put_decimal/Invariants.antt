-- `pairing::words::put_decimal` meets its contract: a digit alone, or the digits of a tenth, by a call of itself, and then
-- the last digit. The measure of the recursion is the number.
-- Assumes nothing.

use Rattle.pairing.proofs.words.+put_decimal.Given as goal

-- the recursion's measure: the number
abbrev pub decreases-put_decimal : goal.decreases-put_decimal
decreases-put_decimal l = l.n
