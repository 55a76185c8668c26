-- `lists::filling::fill_lists` meets its contract: 8 for the store, 8 for the arrays, or the report.
-- Assumes nothing.
use native.Mathlib.Omega.{arith}
use Rattle.lists.proofs.Sharing.{octets-most}
use Rattle.lists.proofs.filling.fill_lists.Goals as goal

pub overflow_add-octets : goal.overflow_add-octets
overflow_add-octets c =
    let s = c in
    omega (
      arith,
      s.requires.listed.octets,
      s.requires.listed_2.octets,
      octets-most s.requires.listed.named,
      octets-most s.requires.listed_2.named,
    )

pub check_store-requires : goal.check_store-requires
check_store-requires c =
    let s = c in
    record { usable_under = s.requires.usable_under; first_value = s.requires.listed.named.whole; second_value = s.requires.listed_2.named.whole; first_bound = octets-most s.requires.listed.named; second_bound = octets-most s.requires.listed_2.named; octets_value = omega (arith, s.requires.listed.octets, s.requires.listed_2.octets) }
