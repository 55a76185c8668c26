-- `occurrence::rows::Rows::note` meets its contract. The loop's invariant: the table has the rows of the periods below j, and i
-- octets are known to match at candidate j. The measure is how many candidates are left. Assumes nothing.
use Prim.Native.Nat.{suc, ◌-◌}
use lib.ListN.{length}
use Rattle.occurrence.specs.Promises.{periods, reaches}
use Rattle.occurrence.proofs.Candidates.{Table, Candidate}
use Rattle.occurrence.proofs.rows.Rows.note.Given as goal

abbrev pub invariant-loop-j : goal.invariant-loop-j
invariant-loop-j l = Table l.needle (periods l.self) (reaches l.self) l.self.count l.reach l.j × Candidate l.needle l.j l.i

abbrev pub decreases-loop-j : goal.decreases-loop-j
decreases-loop-j l = suc (length l.needle) - l.j
