-- `keys::unicode::size_unicode` meets its contract. The loop's invariant: the characters up to `at` came to `end` octets and
-- `lookups` lookups, and the text's numbers go by these and by what follows (`Sizing`), which is valid. The measure is what
-- is left of the text.
-- Assumes nothing.
use mathlib.Core.Path.{◌≡◌, sym, ◌∙◌}
use Rattle.std.specs.Prelude.{Some}
use Prim.Native.Nat.{◌+◌, ◌*◌, ◌≤◌}
use native.Mathlib.Omega.{arith}
use lib.ListN.{drop}
use Rattle.terms.specs.Refusals.{text_most}
use Rattle.table.specs.Table.{table, mapping_of}
use Rattle.utf8.specs.Utf8.{decode}
use Rattle.utf8.specs.Promises.{character_of}
use Rattle.utf8.proofs.Characters.{utf8-decodes}
use Rattle.utf8.proofs.Decoders.{decode-drop-fits, there-drop, there-next}
use Rattle.decompose.proofs.Demand3.{accepted-all}
use Rattle.keys.specs.Walks.{Sizing}
use Rattle.keys.proofs.Walks.{sizing-more, sizing-done}
use Rattle.keys.proofs.unicode.size_unicode.Goals as goal

-- a character follows
pub read_valid-character-requires : goal.read_valid-character-requires
read_valid-character-requires c =
    let l = c in
    there-next utf8-decodes ((c.args.text.now)) l.loop-at.at.0 l.loop-at.invariant.1 c.loop-at-test.true

-- the table is accepted, and a decoded character is scalar
pub size_expansion-sized-requires : goal.size_expansion-sized-requires
size_expansion-sized-requires c =
    let decoded : decode (drop c.loop-at.at.0 ((c.args.text.now))) ≡ Some ((character_of c.read_valid-character.result)) =
    sym c.read_valid-character.ensures in
    let l = c in
    record { usable = l.requires.usable; c_value = utf8-decodes.scalars (drop l.loop-at.at.0 ((c.args.text.now))) ((character_of c.read_valid-character.result)) (decoded) }

-- few octets of text, of key, and few lookups
pub overflow_add-at : goal.overflow_add-at
overflow_add-at c =
    let decoded : decode (drop c.loop-at.at.0 ((c.args.text.now))) ≡ Some ((character_of c.read_valid-character.result)) =
    sym c.read_valid-character.ensures in
    let more : let r = c in let l = r in Sizing decode ((mapping_of (table c.args.entries.now c.args.pool.now))) ((c.args.text.now)) (l.loop-at.at.0 + ((character_of c.read_valid-character.result)).width) (l.loop-at.end.0 + c.size_expansion-sized.result.octets) (l.loop-at.lookups + c.size_expansion-sized.result.asks) =
    let r = c in
    let l = r in
    let accepted = accepted-all (table l.args.entries.now l.args.pool.now) l.requires.usable.accepted in
    sizing-more utf8-decodes l.loop-at.invariant.0 accepted ((character_of c.read_valid-character.result)) c.size_expansion-sized.result (decoded)
    c.size_expansion-sized.ensures in
    let few : let r = c in let l = r in (l.loop-at.at.0 + ((character_of c.read_valid-character.result)).width ≤ text_most) × (l.loop-at.end.0 + c.size_expansion-sized.result.octets ≤ 128 * text_most) × (l.loop-at.lookups + c.size_expansion-sized.result.asks ≤ 258 * text_most) =
    let m = more in
    omega (arith, m.passed, m.octets, m.asked, c.requires.text_len_bound) in
    omega (arith, few)

pub overflow_add-end : goal.overflow_add-end
overflow_add-end c =
    let decoded : decode (drop c.loop-at.at.0 ((c.args.text.now))) ≡ Some ((character_of c.read_valid-character.result)) =
    sym c.read_valid-character.ensures in
    let more : let r = c in let l = r in Sizing decode ((mapping_of (table c.args.entries.now c.args.pool.now))) ((c.args.text.now)) (l.loop-at.at.0 + ((character_of c.read_valid-character.result)).width) (l.loop-at.end.0 + c.size_expansion-sized.result.octets) (l.loop-at.lookups + c.size_expansion-sized.result.asks) =
    let r = c in
    let l = r in
    let accepted = accepted-all (table l.args.entries.now l.args.pool.now) l.requires.usable.accepted in
    sizing-more utf8-decodes l.loop-at.invariant.0 accepted ((character_of c.read_valid-character.result)) c.size_expansion-sized.result (decoded)
    c.size_expansion-sized.ensures in
    let few : let r = c in let l = r in (l.loop-at.at.0 + ((character_of c.read_valid-character.result)).width ≤ text_most) × (l.loop-at.end.0 + c.size_expansion-sized.result.octets ≤ 128 * text_most) × (l.loop-at.lookups + c.size_expansion-sized.result.asks ≤ 258 * text_most) =
    let m = more in
    omega (arith, m.passed, m.octets, m.asked, c.requires.text_len_bound) in
    omega (arith, few)

pub overflow_add-lookups : goal.overflow_add-lookups
overflow_add-lookups c =
    let decoded : decode (drop c.loop-at.at.0 ((c.args.text.now))) ≡ Some ((character_of c.read_valid-character.result)) =
    sym c.read_valid-character.ensures in
    let more : let r = c in let l = r in Sizing decode ((mapping_of (table c.args.entries.now c.args.pool.now))) ((c.args.text.now)) (l.loop-at.at.0 + ((character_of c.read_valid-character.result)).width) (l.loop-at.end.0 + c.size_expansion-sized.result.octets) (l.loop-at.lookups + c.size_expansion-sized.result.asks) =
    let r = c in
    let l = r in
    let accepted = accepted-all (table l.args.entries.now l.args.pool.now) l.requires.usable.accepted in
    sizing-more utf8-decodes l.loop-at.invariant.0 accepted ((character_of c.read_valid-character.result)) c.size_expansion-sized.result (decoded)
    c.size_expansion-sized.ensures in
    let few : let r = c in let l = r in (l.loop-at.at.0 + ((character_of c.read_valid-character.result)).width ≤ text_most) × (l.loop-at.end.0 + c.size_expansion-sized.result.octets ≤ 128 * text_most) × (l.loop-at.lookups + c.size_expansion-sized.result.asks ≤ 258 * text_most) =
    let m = more in
    omega (arith, m.passed, m.octets, m.asked, c.requires.text_len_bound) in
    omega (arith, few)

-- an octet or more fewer
pub loop-at-smaller : goal.loop-at-smaller
loop-at-smaller c =
    let decoded : decode (drop c.loop-at.at.0 ((c.args.text.now))) ≡ Some ((character_of c.read_valid-character.result)) =
    sym c.read_valid-character.ensures in
    let r = c in
    let l = r in
    omega (arith, decode-drop-fits utf8-decodes ((c.args.text.now)) l.loop-at.at.0 ((character_of c.read_valid-character.result)) l.loop-at.invariant.0.passed (decoded))

-- one character more
pub loop-at-preserved : goal.loop-at-preserved
loop-at-preserved c =
    let decoded : decode (drop c.loop-at.at.0 ((c.args.text.now))) ≡ Some ((character_of c.read_valid-character.result)) =
    sym c.read_valid-character.ensures in
    let more : let r = c in let l = r in Sizing decode ((mapping_of (table c.args.entries.now c.args.pool.now))) ((c.args.text.now)) (l.loop-at.at.0 + ((character_of c.read_valid-character.result)).width) (l.loop-at.end.0 + c.size_expansion-sized.result.octets) (l.loop-at.lookups + c.size_expansion-sized.result.asks) =
    let r = c in
    let l = r in
    let accepted = accepted-all (table l.args.entries.now l.args.pool.now) l.requires.usable.accepted in
    sizing-more utf8-decodes l.loop-at.invariant.0 accepted ((character_of c.read_valid-character.result)) c.size_expansion-sized.result (decoded)
    c.size_expansion-sized.ensures in
    let sized = c in
    let r = sized in
    let l = r in
    (more, sym (there-drop utf8-decodes ((c.args.text.now)) l.loop-at.at.0 ((character_of c.read_valid-character.result)) (decoded)) ∙ l.loop-at.invariant.1)

-- the end of the text
pub returns : goal.returns
returns c = sym (sizing-done utf8-decodes c.loop-at.invariant.0 c.loop-at-test.false)
