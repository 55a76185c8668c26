-- `records::writing::put_following` meets its contract: the kind, and the body in the part after it.
-- Assumes nothing.
use mathlib.Core.Path.{◌≡◌, ap, ◌∙◌}
use Rattle.std.specs.Int.{w16, to_le_bytes}
use Rattle.octets.proofs.Puts.{puts-part}
use Rattle.records.specs.Numbers.{little_endian}
use Rattle.records.specs.Kinds.{kind_number}
use Rattle.records.proofs.LittleEndian.{le_bytes-two}
use Rattle.records.proofs.writing.put_following.Goals as goal

pub returns : goal.returns
returns c =
    let kind = kind_number c.args.kind in
    let bytes : c.to_le_bytes.result ≡ little_endian 2 kind =
    c.to_le_bytes.ensures ∙ ap (to_le_bytes w16) c.number.ensures ∙ le_bytes-two kind
    in
    puts-part (little_endian 2 kind) c.args.out.now _ _ (rw bytes at c.put_each-n.ensures) _ _ _ c.put_body.ensures
