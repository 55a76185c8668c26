-- `matching::rows::count_from_one` meets its contract. The invariant: the numbers before `i` are one more.
-- Assumes nothing.
use mathlib.Core.Path.{◌≡◌, sym, ap, ◌∙◌}
use Prim.Native.Nat.{ℕ, suc, ◌+◌, ◌<◌}
use native.Mathlib.Omega.{arith}
use mathlib.Core.List.{map}
use lib.Dec.{ltb}
use lib.ListN.{length, get_or, length-map}
use borrow.Author.Tests.{ltb-true}
use Rattle.terms.specs.Refusals.{ends_most}
use Rattle.terms.proofs.Lists.{all-at}
use Rattle.terms.proofs.Copying.{copying-more}
use Rattle.matching.proofs.Repeats.{copying-kept, suc-at}
use Rattle.matching.proofs.rows.count_from_one.Goals as goal

pub overflow_add-row : goal.overflow_add-row
overflow_add-row c =
    let kept : let s = c in get_or c.loop-i.row c.loop-i.i 0 ≡ get_or s.args.row.now c.loop-i.i 0 =
    let row₀ = c.args.row.now in
    copying-kept c.loop-i.invariant (omega (arith, length-map row₀ suc, c.loop-i.invariant.most)) in
    let l = c in
    let row₀ = l.args.row.now in
    let here = c.loop-i-test.true in
    let small = ltb-true (get_or row₀ l.loop-i.i 0) ends_most
    (all-at (λ x. ltb x ends_most) row₀ l.loop-i.i 0 l.requires (omega (arith, here, l.loop-i.invariant.long))) in
    omega (arith, small, kept)

pub loop-i-preserved : goal.loop-i-preserved
loop-i-preserved c =
    let kept : let s = c in get_or c.loop-i.row c.loop-i.i 0 ≡ get_or s.args.row.now c.loop-i.i 0 =
    let row₀ = c.args.row.now in
    copying-kept c.loop-i.invariant (omega (arith, length-map row₀ suc, c.loop-i.invariant.most)) in
    let l = c in
    let row₀ = l.args.row.now in
    let i = l.loop-i.i in
    let here : i < length row₀ = omega (arith, c.loop-i-test.true, l.loop-i.invariant.long) in
    let raised : get_or (map suc row₀) i 0 ≡ get_or l.loop-i.row i 0 + 1 =
    suc-at row₀ i here ∙ ap (λ (x : ℕ). x + 1) (sym (kept))
    in
    rw raised at (copying-more l.loop-i.invariant here (omega (arith, length-map row₀ suc)) (omega arith))
