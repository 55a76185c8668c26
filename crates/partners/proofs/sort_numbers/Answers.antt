-- `partners::sort_numbers` meets its contract: the row is filled with the numbers of all keys, and sorted.
-- Assumes nothing.
use mathlib.Core.Path.{◌≡◌, ap, ◌∙◌}
use Prim.Native.Nat.{ℕ, ◌+◌}
use native.Mathlib.Omega.{arith}
use mathlib.Core.Bool.{true}
use lib.Dec.{ltb}
use lib.ListN.{length}
use Rattle.terms.specs.Lists.{all}
use Rattle.sorting.specs.Sorted.{numbers}
use Rattle.partners.proofs.Those.{numbers-most, length-numbers}
use Rattle.partners.proofs.sort_numbers.Goals as goal

below : (n : ℕ) → all (λ x. ltb x n) (numbers 0 n) ≡ true
below n = let from : 0 + n ≡ n = omega arith in rw from at (numbers-most 0 n)

pub sort-requires : goal.sort-requires
sort-requires c =
    let numbered : c.number.new.row ≡ numbers 0 (length c.args.ends.now) =
    c.number.ensures ∙ ap (numbers 0) c.requires.row_len in
    let called = c in
    let s = called in
    let n = length s.args.ends.now in
    record { ends = s.requires.ends; row_value = ap (all (λ x. ltb x n)) (numbered) ∙ below n; row_in_bounds = omega (arith, ap length (numbered), length-numbers 0 n, s.requires.row_len, s.requires.row_in_bounds) }
