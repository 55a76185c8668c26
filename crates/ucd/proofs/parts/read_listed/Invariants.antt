-- `ucd::parts::read_listed` meets its contract. The loop's invariant: the parts so far stand in the slice.
-- Assumes nothing.
use mathlib.Core.Path.{◌≡◌}
use Prim.Native.Nat.{◌≤◌}
use lib.ListN.{length}
use Rattle.terms.specs.Refusals.{parts_most}
use Rattle.ucd.specs.Fields.{cut}
use Rattle.ucd.proofs.Listing.{Lists}
use Rattle.ucd.proofs.parts.read_listed.Given as goal

abbrev pub invariant-loop-piece : goal.invariant-loop-piece
invariant-loop-piece l = record {
  room : length l.parts ≡ length l.initial.parts;
  most : l.count ≤ parts_most;
  read : l.count ≡ length l.yielded;
  lists : Lists (cut 0x20 l.t) l.parts l.count;
}
