-- `utf8::judging::judge` meets its contract. The loop's invariant: the state's low six bits are the place of the
-- automaton's state after the octets so far.
-- Assumes nothing.
use mathlib.Core.Path.{◌≡◌}
use Prim.Native.Nat.{◌%◌}
use lib.ListN.{take}
use Rattle.utf8.specs.Judging.{Whole, judged, place}
use Rattle.utf8.proofs.judging.judge.Given as goal

abbrev pub invariant-loop-octet : goal.invariant-loop-octet
invariant-loop-octet l = l.state % 64 ≡ place (judged Whole (take l.octet-index l.text))
