-- How long records and their parts are.
-- Assumes nothing.
use mathlib.Core.Path.{◌≡◌, refl}
use Prim.Native.Nat.{ℕ, ◌+◌}
use native.Mathlib.Omega.{arith}
use mathlib.Core.List.{List, ◌++◌}
use lib.ListN.{length, length-append}
use Rattle.records.specs.Numbers.{little_endian}
use Rattle.records.specs.Items.{field_octets, framed}
use Rattle.records.specs.declared.KeyFields.{KeyFields}
use Rattle.records.proofs.LittleEndian.{length-little_endian}

-- the fields of a key
pub length-field_octets : (f : KeyFields) → length (field_octets f) ≡ 4
unfolding field_octets little_endian
length-field_octets f = refl

-- a kind and a body
pub length-kind-body : (kind : ℕ) (body : List ℕ) → length (little_endian 2 kind ++ body) ≡ 2 + length body
length-kind-body kind body =
    omega (arith, length-append (little_endian 2 kind) body, length-little_endian 2 kind)

-- the whole record
pub length-framed : (kind : ℕ) (body : List ℕ) → length (framed kind body) ≡ 6 + length body
unfolding framed
length-framed kind body =
    let rest = little_endian 2 kind ++ body in
    omega (
      arith,
      length-append (little_endian 4 (length rest)) rest,
      length-little_endian 4 (length rest),
      length-kind-body kind body,
    )
