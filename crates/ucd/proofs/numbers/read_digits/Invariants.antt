-- `ucd::numbers::read_digits` meets its contract. The loop's invariant: the value so far, at most 10FFFF, goes on with the
-- digits that are left.
-- Assumes nothing.
use mathlib.Core.Path.{◌≡◌}
use Prim.Native.Nat.{◌≤◌}
use lib.ListN.{drop}
use Rattle.ucd.specs.Fields.{digits, bounded}
use Rattle.ucd.proofs.numbers.read_digits.Given as goal

abbrev pub invariant-loop-octet : goal.invariant-loop-octet
invariant-loop-octet l = record {
  most : l.value ≤ 0x10FFFF;
  rest : bounded (digits 0 l.t) ≡ bounded (digits l.value (drop l.octet-index l.t));
}
