-- `utf8::sequences::join` meets its contract. The loop's invariant: the octets so far have become `code` (`Joining`). All
-- trail, since the number that they come to is there.
-- Assumes nothing.
use mathlib.Core.Path.{sym}
use Prim.Native.Nat.{◌<◌}
use native.Mathlib.Omega.{arith}
use lib.ListN.{get_or, length-take}
use Rattle.std.proofs.lemmas.List.{get_or-take}
use Rattle.utf8.proofs.Trailed.{trailed-long, trails-yes}
use Rattle.utf8.proofs.Joining.{joining-start, joining-room, joining-next, joining-more, joining-done}
use Rattle.utf8.proofs.sequences.join.Goals as goal

-- they are there
pub slice_bounds-octet-items-end : goal.slice_bounds-octet-items-end
slice_bounds-octet-items-end c =
    omega (arith, trailed-long _ _ c.args.rest.now c.requires.rest_value, length-take c.args.count c.args.rest.now)

pub loop-octet-init : goal.loop-octet-init
loop-octet-init c = joining-start c.args.count c.args.bits c.args.rest.now c.requires.bits_bound

pub append_bits-code-requires : goal.append_bits-code-requires
append_bits-code-requires c =
    let within : c.loop-octet.octet-index < c.args.count = omega (arith, length-take c.args.count c.args.rest.now) in
    let stands = joining-next c.loop-octet.invariant within c.requires.rest_value in
    rw get_or-take
    (record {
      code_bound = joining-room c.loop-octet.invariant c.requires.count_bound within;
      le_octet = stands.1.0;
      octet_bound = stands.1.1;
    })

-- one octet more
pub loop-octet-preserved : goal.loop-octet-preserved
loop-octet-preserved c =
    let within : c.loop-octet.octet-index < c.args.count = omega (arith, length-take c.args.count c.args.rest.now) in
    let stands = joining-next c.loop-octet.invariant within c.requires.rest_value in
    rw (c.append_bits-code.ensures, get_or-take)
    (joining-more c.loop-octet.invariant within stands.0 (trails-yes (get_or c.args.rest.now c.loop-octet.octet-index 0) stands.1))

-- all of them
pub returns : goal.returns
returns c =
    let long = trailed-long _ _ c.args.rest.now c.requires.rest_value in
    sym (joining-done c.loop-octet.invariant (omega (arith, long, length-take c.args.count c.args.rest.now)))
