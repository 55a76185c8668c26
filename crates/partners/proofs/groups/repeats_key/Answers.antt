-- `partners::groups::repeats_key` meets its contract: two keys that tie are the same.
-- Assumes nothing.
use mathlib.Core.Path.{◌≡◌, refl, sym, ap, ap₂, ◌∙◌}
use Prim.Native.Nat.{◌+◌}
use Rattle.std.specs.declared.cmp.Ordering as std
use Rattle.std.specs.declared.cmp.Ordering.TheVariants.{Less, Equal, Greater}
use Rattle.std.specs.Ordering.{is_eq}
use native.Mathlib.Omega.{arith}
use lib.Dec.{compare_is_eq}
use lib.ListN.{get_or}
use Rattle.octets.specs.Order.{order_of, compared_order}
use Rattle.octets.proofs.Order.{order_same}
use Rattle.sorting.specs.KeyOrder.{key_in}
use Rattle.partners.proofs.Leading.{repeats-end, repeats-next}
use Rattle.partners.proofs.groups.repeats_key.Goals as goal

-- what std calls equal is equal in the order of numbers
tied : (o : std.Ordering) → is_eq o ≡ compare_is_eq (compared_order o)
tied Less = refl
tied Equal = refl
tied Greater = refl

pub returns-then-row-i-lt2 : goal.returns-then-row-i-lt2
returns-then-row-i-lt2 c =
    let s = c in
    sym
    (repeats-end (key_in s.args.store.now s.args.ends.now) s.args.row.now s.args.i s.requires.i_in_bounds
    c.if-row-i-lt2.true)

pub returns : goal.returns
returns c =
    let key = key_in c.args.store.now c.args.ends.now in
    let x = get_or c.args.row.now c.args.i 0 in
    let y = get_or c.args.row.now (c.args.i + 1) 0 in
    let ordered : compared_order c.compare_octets.result ≡ order_of (key x) (key y) =
    c.compare_octets.ensures ∙ ap₂ order_of c.key_at-a.ensures c.key_at-b.ensures
    in
    c.is_eq.ensures ∙ tied c.compare_octets.result ∙ ap compare_is_eq ordered ∙ order_same (key x) (key y)
    ∙ sym (repeats-next key c.args.row.now c.args.i (omega (arith, c.if-row-i-lt2.false)))
