-- `pairs::reader::find_octet`: what was passed holds none of the octet.
use Rattle.std.proofs.Common.{◌≢◌, ℕ, ◌≤◌, ◌<◌, slice_index}
use Rattle.pairs.proofs.reader.find_octet.Given as goal

abbrev pub invariant-loop-i : goal.invariant-loop-i
invariant-loop-i l = (k : ℕ) → l.from ≤ k → k < l.i → slice_index l.octets k ≢ l.octet
