-- `ucd::fields::count_fields` meets its contract. The loop's invariant: one more than the semicolons so far was counted.
-- Assumes nothing.
use Rattle.std.proofs.Common.{◌≡◌, ◌+◌, ◌≤◌, eqb, take}
use Rattle.std.specs.List.{count_by}
use Rattle.ucd.proofs.fields.count_fields.Given as goal

abbrev pub invariant-loop-o : goal.invariant-loop-o
invariant-loop-o l = record {
  counted : l.n ≡ count_by (λ o. eqb o 0x3B) (take l.o-index l.line) + 1;
  most : l.n ≤ l.o-index + 1;
}
