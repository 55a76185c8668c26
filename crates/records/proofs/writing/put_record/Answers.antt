-- `records::writing::put_record` meets its contract: the length, and what follows it in the part after it.
-- Assumes nothing.
use mathlib.Core.Path.{◌≡◌, ◌∙◌}
use Prim.Native.Nat.{◌+◌}
use native.Mathlib.Omega.{arith}
use mathlib.Core.List.{◌++◌}
use lib.ListN.{length, length-append}
use Rattle.octets.proofs.Puts.{puts-part}
use Rattle.records.specs.Numbers.{little_endian}
use Rattle.records.specs.Items.{framed}
use Rattle.records.specs.Kinds.{kind_number}
use Rattle.records.proofs.LittleEndian.{le_bytes-four}
use Rattle.records.proofs.Lengths.{length-kind-body}
use Rattle.records.proofs.writing.put_record.Goals as goal

-- both
pub returns : goal.returns
unfolding framed
returns c =
    let a = c.args in
    let said = 2 + (length a.fields.now + length a.octets.now) in
    let following = little_endian 2 (kind_number a.kind) ++ (a.fields.now ++ a.octets.now) in
    let long : length following ≡ said =
    omega (
      arith,
      length-kind-body (kind_number a.kind) (a.fields.now ++ a.octets.now),
      length-append a.fields.now a.octets.now,
    )
    in
    let bytes : c.to_le_bytes.result ≡ little_endian 4 said = c.to_le_bytes.ensures ∙ le_bytes-four said in
    rw long
    (puts-part (little_endian 4 said) a.out.now _ _ (rw bytes at c.put_each-n.ensures) following _ _
    c.put_following.ensures)
