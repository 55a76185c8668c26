-- `lists::checks::check_store` meets its contract: keys of so many octets fit where the store is 128 times as long, and
-- else they are sized.
-- Assumes nothing.
use mathlib.Core.Path.{◌≡◌}
use Prim.Native.Nat.{ℕ, ◌+◌, ◌*◌, ◌≤◌}
use native.Mathlib.Omega.{arith}
use mathlib.Core.List.{List, ◌++◌, map}
use lib.ListN.{length}
use Rattle.terms.specs.Refusals.{expansion_most}
use Rattle.table.specs.Table.{table, mapping_of}
use Rattle.pages.specs.Pages.{pages}
use Rattle.keys.proofs.Collations.{usable-accepted}
use Rattle.keys.specs.Keys.{key_of}
use Rattle.keys.proofs.Bounds.{key-within}
use Rattle.lists.specs.Names.{names_in}
use Rattle.storing.specs.Stored.{joined}
use Rattle.lists.specs.Promises.{name_octets}
use Rattle.storing.proofs.Ended.{joined-most}
use Rattle.lists.proofs.Ended.{long-both}
use Rattle.storing.proofs.Room.{store-enough, store-short}
use Rattle.lists.proofs.checks.check_store.Goals as goal

pub returns-then-octets-room : goal.returns-then-octets-room
returns-then-octets-room c =
    let most : (list : List ℕ) → length (joined (map ((key_of c.args.collation (mapping_of (table c.args.entries.now c.args.pool.now)))) (names_in list))) ≤ expansion_most * name_octets list =
    λ list. joined-most ((key_of c.args.collation (mapping_of (table c.args.entries.now c.args.pool.now)))) (λ t. key-within c.args.collation (table c.args.entries.now c.args.pool.now) t
    (usable-accepted c.args.collation (table c.args.entries.now c.args.pool.now)
    (pages c.args.presence.now c.args.ranks.now) c.requires.usable_under))
    (names_in list) in
    let sum : let one = map ((key_of c.args.collation (mapping_of (table c.args.entries.now c.args.pool.now)))) (names_in c.args.first.now) in let two = map ((key_of c.args.collation (mapping_of (table c.args.entries.now c.args.pool.now)))) (names_in c.args.second.now) in length (joined (one ++ two)) ≡ length (joined one) + length (joined two) =
    long-both (map ((key_of c.args.collation (mapping_of (table c.args.entries.now c.args.pool.now)))) (names_in c.args.first.now)) (map ((key_of c.args.collation (mapping_of (table c.args.entries.now c.args.pool.now)))) (names_in c.args.second.now)) in
    let s = c in
    store-enough {room = s.args.room} {needed = (length (joined (map ((key_of c.args.collation (mapping_of (table c.args.entries.now c.args.pool.now)))) (names_in c.args.first.now) ++ map ((key_of c.args.collation (mapping_of (table c.args.entries.now c.args.pool.now)))) (names_in c.args.second.now))))}
    (omega (
      arith,
      sum,
      most s.args.first.now,
      most s.args.second.now,
      s.requires.octets_value,
      c.if-octets-room.true,
    ))

pub overflow_add-needed : goal.overflow_add-needed
overflow_add-needed c =
    let most : (list : List ℕ) → length (joined (map ((key_of c.args.collation (mapping_of (table c.args.entries.now c.args.pool.now)))) (names_in list))) ≤ expansion_most * name_octets list =
    λ list. joined-most ((key_of c.args.collation (mapping_of (table c.args.entries.now c.args.pool.now)))) (λ t. key-within c.args.collation (table c.args.entries.now c.args.pool.now) t
    (usable-accepted c.args.collation (table c.args.entries.now c.args.pool.now)
    (pages c.args.presence.now c.args.ranks.now) c.requires.usable_under))
    (names_in list) in
    let s = c in
    omega (
      arith,
      c.size_keys.ensures,
      c.size_keys-2.ensures,
      most s.args.first.now,
      most s.args.second.now,
      s.requires.first_bound,
      s.requires.second_bound,
    )

pub returns-then-room-needed : goal.returns-then-room-needed
returns-then-room-needed c =
    let sum : let one = map ((key_of c.args.collation (mapping_of (table c.args.entries.now c.args.pool.now)))) (names_in c.args.first.now) in let two = map ((key_of c.args.collation (mapping_of (table c.args.entries.now c.args.pool.now)))) (names_in c.args.second.now) in length (joined (one ++ two)) ≡ length (joined one) + length (joined two) =
    long-both (map ((key_of c.args.collation (mapping_of (table c.args.entries.now c.args.pool.now)))) (names_in c.args.first.now)) (map ((key_of c.args.collation (mapping_of (table c.args.entries.now c.args.pool.now)))) (names_in c.args.second.now)) in
    let s = c in
    let one = c.size_keys in
    let two = c.size_keys-2 in
    let all : (length (joined (map ((key_of c.args.collation (mapping_of (table c.args.entries.now c.args.pool.now)))) (names_in c.args.first.now) ++ map ((key_of c.args.collation (mapping_of (table c.args.entries.now c.args.pool.now)))) (names_in c.args.second.now)))) ≡ one.result + two.result = omega (arith, sum, one.ensures, two.ensures) in
    rw all (store-short c.if-room-needed.true c.refused.ensures)

pub returns : goal.returns
returns c =
    let sum : let one = map ((key_of c.args.collation (mapping_of (table c.args.entries.now c.args.pool.now)))) (names_in c.args.first.now) in let two = map ((key_of c.args.collation (mapping_of (table c.args.entries.now c.args.pool.now)))) (names_in c.args.second.now) in length (joined (one ++ two)) ≡ length (joined one) + length (joined two) =
    long-both (map ((key_of c.args.collation (mapping_of (table c.args.entries.now c.args.pool.now)))) (names_in c.args.first.now)) (map ((key_of c.args.collation (mapping_of (table c.args.entries.now c.args.pool.now)))) (names_in c.args.second.now)) in
    let s = c in
    store-enough {room = s.args.room} {needed = (length (joined (map ((key_of c.args.collation (mapping_of (table c.args.entries.now c.args.pool.now)))) (names_in c.args.first.now) ++ map ((key_of c.args.collation (mapping_of (table c.args.entries.now c.args.pool.now)))) (names_in c.args.second.now))))}
    (omega (arith, sum, c.size_keys.ensures, c.size_keys-2.ensures, c.if-room-needed.false))
