-- `utf8::judging::judge` meets its contract. The loop's invariant: the state's low six bits are the place of the
-- automaton's state after the octets so far.
-- Assumes nothing.
use mathlib.Core.Path.{sym, ap}
use native.Mathlib.Numerals.{add-one}
use native.Mathlib.Omega.{arith}
use lib.ListN.{take, get_or}
use lib.Seq.{take_all}
use Rattle.utf8.specs.Judging.{Whole, judged, place}
use Rattle.utf8.proofs.Automaton.{judged-characters}
use Rattle.utf8.proofs.Rows.{row_next, judged-nil, judged-more}
use Rattle.utf8.proofs.judging.judge.Goals as goal

-- nothing was read yet
pub loop-octet-init : goal.loop-octet-init
loop-octet-init c = sym (ap place (judged-nil Whole))

-- one octet more
pub loop-octet-preserved : goal.loop-octet-preserved
loop-octet-preserved c =
    let t = c.args.text.now in
    let i = c.loop-octet.octet-index in
    rw (c.row_of.ensures, c.loop-octet.invariant, add-one i, judged-more Whole t i c.loop-octet-test.true)
    (row_next (judged Whole (take i t)) (get_or t i 0) (omega (arith, c.type_inv.text i)))

-- the end of the text
pub returns : goal.returns
returns c =
    let t = c.args.text.now in
    rw (c.loop-octet.invariant, take_all c.loop-octet.octet-index t c.loop-octet-test.false) (sym (judged-characters t))
