-- `search::covering::cover` meets its contract: the second walk goes on from the character that the first one found.
-- Assumes nothing.
use native.Mathlib.Omega.{arith}
use Rattle.utf8.proofs.Characters.{utf8-decodes}
use Rattle.search.proofs.Runs.{first-offset, last-has-octet, run-covers}
use Rattle.search.proofs.covering.cover.Goals as goal

-- the offset is no more than the start
pub overflow_add-k : goal.overflow_add-k
overflow_add-k c =
    omega (
      arith,
      first-offset utf8-decodes c.args.text.now c.requires.within c.find_holder-first.ensures,
      c.requires.within.some,
      c.well_formed.1.1.1.1.1.1.0,
    )

-- the last octet is within the key from there on
pub find_holder-last-requires-clause-has_octet : goal.find_holder-last-requires-clause-has_octet
find_holder-last-requires-clause-has_octet c =
    last-has-octet utf8-decodes c.args.text.now c.requires.within c.find_holder-first.ensures

pub returns : goal.returns
returns c =
    run-covers utf8-decodes c.args.text.now c.requires.within c.find_holder-first.ensures c.find_holder-last.ensures
