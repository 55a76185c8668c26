-- `ucd::fields::piece_end` meets its contract. The loop's invariant: the piece from the start ends where that from the octet
-- reached does.
-- Assumes nothing.
use mathlib.Core.Path.{◌≡◌}
use Prim.Native.Nat.{◌+◌}
use lib.ListN.{drop}
use Rattle.ucd.specs.Promises.{piece_end}
use Rattle.ucd.proofs.fields.piece_end.Given as goal

abbrev pub invariant-loop-i : goal.invariant-loop-i
invariant-loop-i l = l.start + piece_end l.separator (drop l.start l.t) ≡ l.i + piece_end l.separator (drop l.i l.t)
