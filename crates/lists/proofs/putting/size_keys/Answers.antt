-- `lists::putting::size_keys` meets its contract. The invariant: the size so far, with that of the keys from the position
-- on, is that of all; what falls is what is left of the list.
-- Assumes nothing.
use mathlib.Core.Path.{◌≡◌}
use native.Mathlib.Omega.{arith}
use lib.ListN.{length}
use Rattle.table.specs.Table.{table, mapping_of}
use Rattle.pages.specs.Pages.{pages}
use Rattle.keys.proofs.Collations.{usable-accepted}
use Rattle.keys.specs.Keys.{prepared, key_of}
use Rattle.keys.proofs.Bounds.{key-within}
use Rattle.lists.specs.Names.{names_in}
use Rattle.storing.proofs.Keyed.{sized-length}
use Rattle.storing.proofs.Ended.{joined-most}
use Rattle.lists.proofs.Walks.{name, walking-more, walking-onward}
use Rattle.lists.proofs.Walks.{long-name, sized-more, sized-done}
use Rattle.lists.proofs.putting.size_keys.Goals as goal

pub overflow_add-size : goal.overflow_add-size
overflow_add-size c =
    let n = c in
    let l = n in
    let s = l in
    let sized : c.size_key-summary.result.key_length
    ≡ length ((key_of c.args.collation (mapping_of (table c.args.entries.now c.args.pool.now))) (name ((key_of c.args.collation (mapping_of (table c.args.entries.now c.args.pool.now)))) s.args.list.now l.loop-at.invariant.0 n.name_at-place.result n.name_at-place.ensures))
    = sized-length c.size_key-summary.result (prepared s.args.collation (mapping_of (table s.args.entries.now
    s.args.pool.now)) (name ((key_of c.args.collation (mapping_of (table c.args.entries.now c.args.pool.now)))) s.args.list.now l.loop-at.invariant.0 n.name_at-place.result
    n.name_at-place.ensures)) c.size_key-summary.ensures
    in
    omega (
      arith,
      sized,
      l.loop-at.invariant.1,
      long-name ((key_of c.args.collation (mapping_of (table c.args.entries.now c.args.pool.now)))) s.args.list.now l.loop-at.invariant.0 n.name_at-place.result n.name_at-place.ensures,
      joined-most ((key_of c.args.collation (mapping_of (table c.args.entries.now c.args.pool.now)))) (λ t. key-within s.args.collation (table s.args.entries.now s.args.pool.now) t
          (usable-accepted s.args.collation (table s.args.entries.now s.args.pool.now)
          (pages s.args.presence.now s.args.ranks.now) s.requires.usable_under))
          (names_in s.args.list.now),
      s.requires.list_bound,
    )

pub loop-at-smaller : goal.loop-at-smaller
loop-at-smaller c =
    let n = c in
    let l = n in
    let s = l in
    omega (
      arith,
      n.name_at-place.ensures.within,
      walking-onward ((key_of c.args.collation (mapping_of (table c.args.entries.now c.args.pool.now)))) s.args.list.now l.loop-at.invariant.0 n.name_at-place.result n.name_at-place.ensures,
    )

pub loop-at-preserved : goal.loop-at-preserved
loop-at-preserved c =
    let n = c in
    let l = n in
    let s = l in
    let sized : c.size_key-summary.result.key_length
    ≡ length ((key_of c.args.collation (mapping_of (table c.args.entries.now c.args.pool.now))) (name ((key_of c.args.collation (mapping_of (table c.args.entries.now c.args.pool.now)))) s.args.list.now l.loop-at.invariant.0 n.name_at-place.result n.name_at-place.ensures))
    = sized-length c.size_key-summary.result (prepared s.args.collation (mapping_of (table
    s.args.entries.now s.args.pool.now)) (name ((key_of c.args.collation (mapping_of (table c.args.entries.now c.args.pool.now)))) s.args.list.now l.loop-at.invariant.0
    n.name_at-place.result n.name_at-place.ensures)) c.size_key-summary.ensures
    in (
      walking-more ((key_of c.args.collation (mapping_of (table c.args.entries.now c.args.pool.now)))) s.args.list.now l.loop-at.invariant.0 n.name_at-place.result n.name_at-place.ensures,
      rw sized
          (sized-more ((key_of c.args.collation (mapping_of (table c.args.entries.now c.args.pool.now)))) s.args.list.now l.loop-at.invariant.0 n.name_at-place.result n.name_at-place.ensures l.loop-at.size
          l.loop-at.invariant.1),
    )

pub returns : goal.returns
returns c =
    let l = c in
    let s = l in
    sized-done ((key_of c.args.collation (mapping_of (table c.args.entries.now c.args.pool.now)))) s.args.list.now l.loop-at.at.0 l.loop-at.size
    (omega (arith, l.loop-at.invariant.0.inside, c.loop-at-test.false))
    l.loop-at.invariant.1
