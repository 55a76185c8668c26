-- `records::fields::read_fields` meets its contract: one octet is its own number.
-- Assumes nothing.
use Rattle.records.specs.Reading.{fields_in}
use native.Mathlib.Omega.{arith}
use mathlib.Core.Path.{◌≡◌}
use Prim.Native.Nat.{◌+◌, ◌*◌}
use lib.ListN.{get_or}
use Rattle.records.proofs.LittleEndian.{number_in-one, number_in-two}
use Rattle.records.proofs.fields.read_fields.Goals as goal

pub returns : goal.returns
unfolding fields_in
returns c =
    let body = c.args.body.now in
    let two : c.from_le_bytes.result ≡ get_or body 2 0 + 256 * get_or body 3 0 = omega (arith, c.from_le_bytes.ensures) in
    rw (number_in-one 0 body, number_in-one 1 body, number_in-two 2 body, two)
