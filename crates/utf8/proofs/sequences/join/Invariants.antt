-- `utf8::sequences::join` meets its contract. The loop's invariant: the octets so far have become `code` (`Joining`).
-- Assumes nothing.
use Rattle.utf8.proofs.Joining.{Joining}
use Rattle.utf8.proofs.sequences.join.Given as goal

abbrev pub invariant-loop-octet : goal.invariant-loop-octet
invariant-loop-octet l = Joining l.count l.bits l.rest l.octet-index l.code
