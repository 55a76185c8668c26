-- `occurrence::places::search` meets its contract. The loop's invariant: the needle stands at no place below j, and i octets
-- are known to match at j. The measure is how many places are left. Assumes nothing.
use native.Mathlib.Omega.{arith}
use mathlib.Core.Path.{sym}
use Rattle.occurrence.proofs.Searching.{matched-shifted, unmatched-none, unmatched-on, occurrence-matched}
use Rattle.occurrence.proofs.Searching.{occurrence-unmatched, Reached, reached-skipped, reached-kept}
use Rattle.occurrence.proofs.places.search.Goals as goal
use Rattle.occurrence.proofs.places.search.Goals.{then-i-eq0, else-i-eq0}

-- the hay is too short
pub returns-then-hay-m : goal.returns-then-hay-m
returns-then-hay-m c = sym (occurrence-unmatched unmatched-none (omega arith))

-- the empty needle
pub returns-then-m-eq0 : goal.returns-then-m-eq0
returns-then-m-eq0 c = sym (occurrence-matched unmatched-none (record { same = λ k h. absurd (omega arith) }) (omega arith))

-- all octets match
pub returns-then-i-m : goal.returns-then-i-m
returns-then-i-m c =
    let joined : Reached c.args.needle.now c.args.hay.now c.loop-j.j c.if-i-eq0.j c.loop-j.i =
    let at = c.loop-j.invariant in
    elim c.if-i-eq0.branch [
      | then-i-eq0 w ↦ reached-skipped w.if-i-eq0.true at.2 w.skip.ensures w.j-is
      | else-i-eq0 w ↦ reached-kept at.2 at.3 (omega arith) at.1 w.j-is
    ] in
    let at = joined in
    sym (occurrence-matched at.unmatched (rw c.if-i-m.true at c.extend-i.ensures.matched) at.room)

-- one differs
pub loop-j-preserved : goal.loop-j-preserved
loop-j-preserved c =
    let joined : Reached c.args.needle.now c.args.hay.now c.loop-j.j c.if-i-eq0.j c.loop-j.i =
    let at = c.loop-j.invariant in
    elim c.if-i-eq0.branch [
      | then-i-eq0 w ↦ reached-skipped w.if-i-eq0.true at.2 w.skip.ensures w.j-is
      | else-i-eq0 w ↦ reached-kept at.2 at.3 (omega arith) at.1 w.j-is
    ] in
    let at_join = c in
    let at = joined in
    let e = c.extend-i.ensures in
    let shift = c.least_shift-s.ensures in
    let rows = at_join.requires.rows in (
      omega (arith, shift.within, e.within, at.room),
      omega (arith, shift.rest, e.within),
      unmatched-on at.unmatched rows e (omega arith) shift,
      matched-shifted rows e.matched shift,
    )

-- no place is left
pub returns : goal.returns
returns c = sym (occurrence-unmatched c.loop-j.invariant.2 (omega arith))
