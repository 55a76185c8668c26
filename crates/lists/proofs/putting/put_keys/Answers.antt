-- `lists::putting::put_keys` meets its contract. The invariant: with the keys from the position on put too, all are
-- (`PuttingNames`); what falls is what is left of the list.
-- Assumes nothing.
use mathlib.Core.Path.{ap}
use Prim.Native.Nat.{◌+◌, ◌≤◌, ◌<◌}
use native.Mathlib.Omega.{arith}
use lib.ListN.{length, drop, length-drop}
use Rattle.terms.proofs.Parts.{take-drop, put_back}
use Rattle.table.specs.Table.{table, mapping_of}
use Rattle.octets.specs.Put.{Puts}
use Rattle.keys.specs.Keys.{key_of}
use Rattle.storing.proofs.Keyed.{key-put}
use Rattle.lists.proofs.Walks.{name, walking-onward, name-short, names-room, names-place}
use Rattle.lists.proofs.Walks.{names_more, names-done}
use Rattle.lists.proofs.putting.put_keys.Goals as goal

pub put_key-summary-requires : goal.put_key-summary-requires
put_key-summary-requires c =
    let room : c.loop-at.end + length ((key_of c.args.collation (mapping_of (table c.args.entries.now c.args.pool.now))) ((let l = c in name ((key_of c.args.collation (mapping_of (table c.args.entries.now c.args.pool.now)))) l.args.list.now l.loop-at.invariant.walking c.name_at-place.result c.name_at-place.ensures))) ≤ length c.loop-at.store =
    let l = c in
    let s = l in
    names-room ((key_of c.args.collation (mapping_of (table c.args.entries.now c.args.pool.now)))) s.args.list.now l.loop-at.invariant s.requires.list_in_bounds s.requires.list_in_bounds_2 c.name_at-place.result
    c.name_at-place.ensures in
    let n = c in
    let l = n in
    let s = l in
    record {
      text_len_bound = name-short ((key_of c.args.collation (mapping_of (table c.args.entries.now c.args.pool.now)))) s.args.list.now l.loop-at.invariant.walking n.name_at-place.result n.name_at-place.ensures;
      usable_under = s.requires.usable_under;
      text_in_bounds = omega (
        arith,
        room,
        ap length (take-drop l.loop-at.end l.loop-at.store),
        length-drop l.loop-at.end l.loop-at.store,
      );
    }

pub bounds-ends-i : goal.bounds-ends-i
bounds-ends-i c =
    let place : c.loop-at.i < length c.loop-at.ends =
    let l = c in
    let s = l in
    names-place ((key_of c.args.collation (mapping_of (table c.args.entries.now c.args.pool.now)))) s.args.list.now l.loop-at.invariant s.requires.list_in_bounds s.requires.list_in_bounds_2 c.name_at-place.result
    c.name_at-place.ensures in
    place

pub loop-at-smaller : goal.loop-at-smaller
loop-at-smaller c =
    let n = c in
    let l = n in
    let s = l in
    omega (
      arith,
      n.name_at-place.ensures.within,
      walking-onward ((key_of c.args.collation (mapping_of (table c.args.entries.now c.args.pool.now)))) s.args.list.now l.loop-at.invariant.walking n.name_at-place.result n.name_at-place.ensures,
    )

pub loop-at-preserved : goal.loop-at-preserved
loop-at-preserved c =
    let put : let n = c in Puts ((key_of c.args.collation (mapping_of (table c.args.entries.now c.args.pool.now))) ((let l = c in name ((key_of c.args.collation (mapping_of (table c.args.entries.now c.args.pool.now)))) l.args.list.now l.loop-at.invariant.walking c.name_at-place.result c.name_at-place.ensures))) (drop n.loop-at.end n.loop-at.store) c.put_key-summary.result.key_length c.put_key-summary.new.out =
    let l = c in
    let s = l in
    key-put s.args.collation (mapping_of (table s.args.entries.now s.args.pool.now)) ((let l = c in name ((key_of c.args.collation (mapping_of (table c.args.entries.now c.args.pool.now)))) l.args.list.now l.loop-at.invariant.walking c.name_at-place.result c.name_at-place.ensures))
    (rw (take-drop l.loop-at.end l.loop-at.store) at c.put_key-summary.ensures) in
    let p = c in
    let n = p in
    let l = n in
    let s = l in
    rw (put_back l.loop-at.end l.loop-at.store p.put_key-summary.new.out)
    (names_more ((key_of c.args.collation (mapping_of (table c.args.entries.now c.args.pool.now)))) s.args.list.now l.loop-at.invariant s.requires.list_in_bounds s.requires.list_in_bounds_2 n.name_at-place.result
    n.name_at-place.ensures
    p.put_key-summary.result.key_length
    p.put_key-summary.new.out
    (put))

pub returns : goal.returns
returns c =
    let l = c in
    let s = l in
    names-done ((key_of c.args.collation (mapping_of (table c.args.entries.now c.args.pool.now)))) s.args.list.now l.loop-at.invariant s.requires.list_in_bounds s.requires.list_in_bounds_2
    (omega (arith, l.loop-at.invariant.walking.inside, c.loop-at-test.false))
