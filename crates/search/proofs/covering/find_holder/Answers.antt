-- `search::covering::find_holder` meets its contract. The loop's invariant: octet k from the first place on is octet `left` from
-- `at` on, where the text is valid and its key is longer (`Walking`). The measure is what is left of the text.
-- Assumes nothing.
use mathlib.Core.Path.{sym}
use native.Mathlib.Omega.{arith}
use lib.ListN.{drop}
use Rattle.utf8.specs.Promises.{character_of}
use Rattle.utf8.proofs.Characters.{utf8-decodes}
use Rattle.utf8.proofs.Decoders.{decode-drop-fits, there-next}
use Rattle.search.proofs.Holders.{walking-more, walking-found, walking-done}
use Rattle.search.proofs.covering.find_holder.Goals as goal

-- a character follows
pub read_valid-character-requires : goal.read_valid-character-requires
read_valid-character-requires c =
    there-next utf8-decodes c.args.text.now c.loop-at.at.0 c.loop-at.invariant.has-octet.valid c.loop-at-test.true

-- a decoded character is scalar
pub size_expansion-sized-requires-clause-c_value : goal.size_expansion-sized-requires-clause-c_value
size_expansion-sized-requires-clause-c_value c =
    utf8-decodes.scalars (drop c.loop-at.at.0 c.args.text.now) (character_of c.read_valid-character.result)
    (sym c.read_valid-character.ensures)

-- it ends within the text
pub overflow_add-next : goal.overflow_add-next
overflow_add-next c =
    let ch = character_of c.read_valid-character.result in
    let fits = decode-drop-fits utf8-decodes c.args.text.now c.loop-at.at.0 ch (omega arith) (sym c.read_valid-character.ensures) in
    omega (arith, fits, c.well_formed.0.0)

pub loop-at-smaller : goal.loop-at-smaller
loop-at-smaller c =
    let ch = character_of c.read_valid-character.result in
    let fits = decode-drop-fits utf8-decodes c.args.text.now c.loop-at.at.0 ch (omega arith) (sym c.read_valid-character.ensures) in
    omega (arith, fits)

-- this character holds the octet
pub returns-then-left-sized : goal.returns-then-left-sized
returns-then-left-sized c =
    walking-found utf8-decodes c.loop-at.invariant (character_of c.read_valid-character.result) (sym c.read_valid-character.ensures)
    (omega (arith, c.size_expansion-sized.ensures.octets))

-- a later character holds it
pub loop-at-preserved : goal.loop-at-preserved
loop-at-preserved c =
    walking-more utf8-decodes c.loop-at.invariant (character_of c.read_valid-character.result) (sym c.read_valid-character.ensures)
    c.size_expansion-sized.result.octets c.size_expansion-sized.ensures.octets c.if-left-sized.false

-- the end of the text comes after it
pub unreachable-requires : goal.unreachable-requires
unreachable-requires c = walking-done utf8-decodes c.loop-at.invariant c.loop-at-test.false
