-- `many::filling::check_store` meets its contract: a store of 128 times the octets has room for any keys of them.
-- Assumes nothing.
use Prim.Native.Nat.{◌*◌, ◌≤◌}
use native.Mathlib.Omega.{arith}
use mathlib.Core.List.{map}
use lib.ListN.{length}
use Rattle.terms.specs.Refusals.{expansion_most}
use Rattle.table.specs.Table.{table, mapping_of}
use Rattle.pages.specs.Pages.{pages}
use Rattle.keys.proofs.Collations.{usable-accepted}
use Rattle.keys.specs.Keys.{key_of}
use Rattle.keys.proofs.Bounds.{key-within}
use Rattle.storing.specs.Stored.{joined, strings_in}
use Rattle.storing.proofs.Room.{store-enough}
use Rattle.many.proofs.Walking.{keys-within}
use Rattle.many.proofs.filling.check_store.Goals as goal

pub returns-then-octets-room : goal.returns-then-octets-room
returns-then-octets-room c =
    let most : (length (joined (map ((key_of c.args.collation (mapping_of (table c.args.entries.now c.args.pool.now)))) (strings_in c.args.octets.now c.args.ends.now)))) ≤ expansion_most * length c.args.octets.now =
    keys-within c.args.octets.now c.args.ends.now c.requires.texts ((key_of c.args.collation (mapping_of (table c.args.entries.now c.args.pool.now))))
    (λ t. key-within c.args.collation (table c.args.entries.now c.args.pool.now) t
    (usable-accepted c.args.collation (table c.args.entries.now c.args.pool.now)
    (pages c.args.presence.now c.args.ranks.now) c.requires.usable_under)) in
    let s = c in
    store-enough {room = s.args.room} {needed = (length (joined (map ((key_of c.args.collation (mapping_of (table c.args.entries.now c.args.pool.now)))) (strings_in c.args.octets.now c.args.ends.now))))} (omega (arith, most, c.if-octets-room.true))
