-- `records::fields::field_octets` meets its contract: the octets of three numbers, one after another.
-- Assumes nothing.
use mathlib.Core.Path.{refl}
use Rattle.records.specs.Numbers.{little_endian}
use Rattle.records.specs.Items.{field_octets}
use Rattle.records.proofs.fields.field_octets.Goals as goal

pub returns : goal.returns
unfolding field_octets little_endian
returns c = refl
