-- `keys::writing::walk` meets its contract. The loop's invariant: the characters up to `at` came to `end` octets and `lookups`
-- lookups, and were written into the first `end` octets of the buffer (`Walking`). The measure is what is left of the text.
-- Assumes nothing.
use mathlib.Core.Path.{◌≡◌, sym}
use mathlib.Core.Bool.{true}
use mathlib.Core.List.{◌++◌}
use Rattle.std.specs.Prelude.{Some}
use Prim.Native.Nat.{ℕ, ◌+◌, ◌≤◌}
use native.Mathlib.Omega.{arith}
use lib.ListN.{length, take, drop, length-drop}
use Rattle.terms.proofs.Parts.{take-drop, put_back}
use Rattle.table.specs.Table.{table, mapping_of}
use Rattle.utf8.specs.Utf8.{decode}
use Rattle.utf8.specs.Promises.{character_of}
use Rattle.utf8.proofs.Characters.{utf8-decodes}
use Rattle.utf8.proofs.Decoders.{decode-drop-fits, there-next}
use Rattle.decompose.specs.TableCheck.{unfolds}
use Rattle.decompose.specs.Steps.{expanded}
use Rattle.decompose.proofs.Demand3.{accepted-all}
use Rattle.keys.specs.Walks.{Walking}
use Rattle.keys.proofs.Walks.{writing-length}
use Rattle.keys.proofs.Walking.{walking-room, walking-more}
use Rattle.keys.proofs.writing.walk.Goals as goal

-- a character follows
pub read_valid-character-requires : goal.read_valid-character-requires
read_valid-character-requires c =
    let l = c in
    there-next utf8-decodes ((c.args.text.now)) l.loop-at.at.0 l.loop-at.invariant.written.valid
    (omega (arith, c.loop-at-test.true, l.requires.stop_in_bounds))

-- the table is accepted, a decoded character is scalar, and there is room in the part that is lent
pub write_expansion-written-requires : goal.write_expansion-written-requires
write_expansion-written-requires c =
    let decoded : decode (drop c.loop-at.at.0 ((c.args.text.now))) ≡ Some ((character_of c.read_valid-character.result)) =
    sym c.read_valid-character.ensures in
    let accepted : (x : ℕ) → unfolds ((mapping_of (table c.args.entries.now c.args.pool.now))) x ≡ true =
    accepted-all (table c.args.entries.now c.args.pool.now) c.requires.usable.accepted in
    let room : let l = c in l.loop-at.end.0 + length (expanded ((mapping_of (table c.args.entries.now c.args.pool.now))) ((character_of c.read_valid-character.result)).code) ≤ length l.args.key.now =
    let l = c in
    let s = l in
    walking-room l.loop-at.invariant (accepted) s.requires.text_value s.requires.room_to c.loop-at-test.true ((character_of c.read_valid-character.result)) (decoded) in
    let r = c in
    let l = r in
    let s = l in
    let end = l.loop-at.end.0 in
    record {
      usable = s.requires.usable;
      c_value = utf8-decodes.scalars (drop l.loop-at.at.0 ((c.args.text.now))) ((character_of c.read_valid-character.result)) (decoded);
      c_in_bounds = rw (take-drop end l.loop-at.key)
          (omega (arith, room, length-drop end l.loop-at.key, writing-length utf8-decodes l.loop-at.invariant.written));
    }

-- past the character
pub overflow_add-at : goal.overflow_add-at
overflow_add-at c =
    let decoded : decode (drop c.loop-at.at.0 ((c.args.text.now))) ≡ Some ((character_of c.read_valid-character.result)) =
    sym c.read_valid-character.ensures in
    let fits : (1 ≤ ((character_of c.read_valid-character.result)).width) × (c.loop-at.at.0 + ((character_of c.read_valid-character.result)).width ≤ length ((c.args.text.now))) =
    let l = c in
    decode-drop-fits utf8-decodes ((c.args.text.now)) l.loop-at.at.0 ((character_of c.read_valid-character.result)) l.loop-at.invariant.written.passed (decoded) in
    let r = c in
    omega (arith, fits, r.well_formed.0)

-- few lookups
pub overflow_add-lookups : goal.overflow_add-lookups
overflow_add-lookups c =
    let accepted : (x : ℕ) → unfolds ((mapping_of (table c.args.entries.now c.args.pool.now))) x ≡ true =
    accepted-all (table c.args.entries.now c.args.pool.now) c.requires.usable.accepted in
    let decoded : decode (drop c.loop-at.at.0 ((c.args.text.now))) ≡ Some ((character_of c.read_valid-character.result)) =
    sym c.read_valid-character.ensures in
    let room : let l = c in l.loop-at.end.0 + length (expanded ((mapping_of (table c.args.entries.now c.args.pool.now))) ((character_of c.read_valid-character.result)).code) ≤ length l.args.key.now =
    let l = c in
    let s = l in
    walking-room l.loop-at.invariant (accepted) s.requires.text_value s.requires.room_to c.loop-at-test.true ((character_of c.read_valid-character.result)) (decoded) in
    let more : let l = c in Walking ((mapping_of (table c.args.entries.now c.args.pool.now))) ((c.args.text.now)) l.args.key.now (l.loop-at.at.0 + ((character_of c.read_valid-character.result)).width) (l.loop-at.end.0 + c.write_expansion-written.result.octets) (l.loop-at.lookups + c.write_expansion-written.result.asks) (take l.loop-at.end.0 l.loop-at.key ++ (c.write_expansion-written.new.out)) =
    let r = c in
    let l = r in
    let filled = rw (take-drop l.loop-at.end.0 l.loop-at.key) at c.write_expansion-written.ensures in
    walking-more l.loop-at.invariant (accepted) ((character_of c.read_valid-character.result)) c.write_expansion-written.result ((c.write_expansion-written.new.out)) (decoded) filled
    (omega (arith, filled.counted.octets, room)) in
    let w = c in
    omega (arith, (more).sized.asked, (more).sized.passed, w.requires.text_len_bound)

-- an octet or more fewer
pub loop-at-smaller : goal.loop-at-smaller
loop-at-smaller c =
    let decoded : decode (drop c.loop-at.at.0 ((c.args.text.now))) ≡ Some ((character_of c.read_valid-character.result)) =
    sym c.read_valid-character.ensures in
    let fits : (1 ≤ ((character_of c.read_valid-character.result)).width) × (c.loop-at.at.0 + ((character_of c.read_valid-character.result)).width ≤ length ((c.args.text.now))) =
    let l = c in
    decode-drop-fits utf8-decodes ((c.args.text.now)) l.loop-at.at.0 ((character_of c.read_valid-character.result)) l.loop-at.invariant.written.passed (decoded) in
    omega (arith, fits)

-- one character more
pub loop-at-preserved : goal.loop-at-preserved
loop-at-preserved c =
    let accepted : (x : ℕ) → unfolds ((mapping_of (table c.args.entries.now c.args.pool.now))) x ≡ true =
    accepted-all (table c.args.entries.now c.args.pool.now) c.requires.usable.accepted in
    let decoded : decode (drop c.loop-at.at.0 ((c.args.text.now))) ≡ Some ((character_of c.read_valid-character.result)) =
    sym c.read_valid-character.ensures in
    let room : let l = c in l.loop-at.end.0 + length (expanded ((mapping_of (table c.args.entries.now c.args.pool.now))) ((character_of c.read_valid-character.result)).code) ≤ length l.args.key.now =
    let l = c in
    let s = l in
    walking-room l.loop-at.invariant (accepted) s.requires.text_value s.requires.room_to c.loop-at-test.true ((character_of c.read_valid-character.result)) (decoded) in
    let more : let l = c in Walking ((mapping_of (table c.args.entries.now c.args.pool.now))) ((c.args.text.now)) l.args.key.now (l.loop-at.at.0 + ((character_of c.read_valid-character.result)).width) (l.loop-at.end.0 + c.write_expansion-written.result.octets) (l.loop-at.lookups + c.write_expansion-written.result.asks) (take l.loop-at.end.0 l.loop-at.key ++ (c.write_expansion-written.new.out)) =
    let r = c in
    let l = r in
    let filled = rw (take-drop l.loop-at.end.0 l.loop-at.key) at c.write_expansion-written.ensures in
    walking-more l.loop-at.invariant (accepted) ((character_of c.read_valid-character.result)) c.write_expansion-written.result ((c.write_expansion-written.new.out)) (decoded) filled
    (omega (arith, filled.counted.octets, room)) in
    let w = c in
    let l = w in
    rw (put_back l.loop-at.end.0 l.loop-at.key ((c.write_expansion-written.new.out))) (more)
