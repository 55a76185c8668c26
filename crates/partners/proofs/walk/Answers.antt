-- `partners::walk` meets its contract. The invariant: the walk stands at a place, with what is known there (`Reached`).
-- Assumes nothing.
use mathlib.Core.Path.{◌≡◌, refl, ap, ◌∙◌}
use Prim.Native.Nat.{ℕ, ◌+◌, ◌-◌, ◌≤◌, ◌<◌}
use native.Mathlib.Omega.{arith}
use mathlib.Core.Bool.{Bool, true, false, cond, not}
use Rattle.std.specs.Prelude.{nat_eq}
use Rattle.std.specs.Int.{from_bool}
use mathlib.Core.List.{List}
use lib.Dec.{eqb}
use lib.ListN.{length}
use Rattle.sorting.specs.Sorted.{ascending, sorted, numbers}
use Rattle.sorting.specs.KeyOrder.{key_in, key_order, all_numbered}
use Rattle.partners.specs.Partners.{those}
use Rattle.partners.proofs.Finding.{is_first}
use Rattle.partners.proofs.Walked.{first_count}
use Rattle.partners.proofs.Places.{row-ascending, row-numbered, row-length, reached-start, tells-next}
use Rattle.partners.proofs.Places.{reached-second, reached-first, reached-done, free-left, pairs-here, names-here}
use Rattle.partners.proofs.walk.Goals as goal

few : (n : ℕ) → cond {A = ℕ} (eqb n 0) 0 1 ≤ 1
few n = go (eqb n 0)
  where
    go : (b : Bool) → cond {A = ℕ} b 0 1 ≤ 1
    go true = omega arith
    go false = omega arith

-- 1 for a group that has a number
counted : (n : ℕ) → from_bool (not (nat_eq n 0)) ≡ cond {A = ℕ} (eqb n 0) 0 1
counted n = go (eqb n 0)
  where
    go : (b : Bool) → from_bool (not b) ≡ cond {A = ℕ} b 0 1
    go true = refl
    go false = refl

pub loop-i-init : goal.loop-i-init
loop-i-init c =
    let s = c in
    reached-start ((key_in c.args.store.now c.args.ends.now)) s.args.middle s.args.row.now s.args.partners.now s.args.positions.now

pub group_at-group-requires : goal.group_at-group-requires
group_at-group-requires c =
    let long : length c.args.row.now ≡ (length c.args.ends.now) =
    ap length c.requires.row_value ∙ row-length ((key_in c.args.store.now c.args.ends.now)) ((length c.args.ends.now)) in
    let numbered : all_numbered c.args.ends.now c.args.row.now ≡ true =
    rw c.requires.row_value (row-numbered ((key_in c.args.store.now c.args.ends.now)) ((length c.args.ends.now))) in
    let order : ascending (key_order ((key_in c.args.store.now c.args.ends.now))) c.args.row.now ≡ true =
    rw c.requires.row_value (row-ascending ((key_in c.args.store.now c.args.ends.now)) ((length c.args.ends.now))) in
    let l = c in
    let s = l in
    record {
      ends = s.requires.ends;
      ends_len_bound = s.requires.ends_len_bound;
      row_value = numbered;
      row_len_bound = omega (arith, long, s.requires.ends_len_bound);
      row_value_2 = order;
      i_in_bounds = omega (arith, l.loop-i.invariant.inside, c.loop-i-test.true);
      tells = tells-next ((key_in c.args.store.now c.args.ends.now)) s.args.middle s.args.row.now s.args.partners.now s.args.positions.now
          l.loop-i.invariant
          c.loop-i-test.true;
    }

pub overflow_sub-free : goal.overflow_sub-free
overflow_sub-free c =
    let firsts : length (those (is_first c.args.middle) c.args.row.now) ≡ c.args.middle =
    let parts : (length c.args.ends.now) ≡ c.args.middle + ((length c.args.ends.now) - c.args.middle) = omega (arith, c.requires.middle_in_bounds) in
    ap (λ (t : List ℕ). length (those (is_first c.args.middle) t))
    (c.requires.row_value ∙ ap (λ (n : ℕ). sorted (key_order ((key_in c.args.store.now c.args.ends.now))) (numbers 0 n)) parts)
    ∙ first_count ((key_in c.args.store.now c.args.ends.now)) c.args.middle ((length c.args.ends.now) - c.args.middle) in
    let order : ascending (key_order ((key_in c.args.store.now c.args.ends.now))) c.args.row.now ≡ true =
    rw c.requires.row_value (row-ascending ((key_in c.args.store.now c.args.ends.now)) ((length c.args.ends.now))) in
    let room : 0 < c.loop-i.free =
    let l = c in
    let s = l in
    free-left ((key_in c.args.store.now c.args.ends.now)) s.args.middle s.args.row.now s.args.partners.now s.args.positions.now l.loop-i.invariant
    c.loop-i-test.true
    c.group_at-group.result
    c.group_at-group.ensures
    (order)
    c.if-x-middle.true
    (firsts) in
    omega (arith, room)

pub overflow_add-equal_pairs : goal.overflow_add-equal_pairs
overflow_add-equal_pairs c =
    let firsts : length (those (is_first c.args.middle) c.args.row.now) ≡ c.args.middle =
    let parts : (length c.args.ends.now) ≡ c.args.middle + ((length c.args.ends.now) - c.args.middle) = omega (arith, c.requires.middle_in_bounds) in
    ap (λ (t : List ℕ). length (those (is_first c.args.middle) t))
    (c.requires.row_value ∙ ap (λ (n : ℕ). sorted (key_order ((key_in c.args.store.now c.args.ends.now))) (numbers 0 n)) parts)
    ∙ first_count ((key_in c.args.store.now c.args.ends.now)) c.args.middle ((length c.args.ends.now) - c.args.middle) in
    let long : length c.args.row.now ≡ (length c.args.ends.now) =
    ap length c.requires.row_value ∙ row-length ((key_in c.args.store.now c.args.ends.now)) ((length c.args.ends.now)) in
    let order : ascending (key_order ((key_in c.args.store.now c.args.ends.now))) c.args.row.now ≡ true =
    rw c.requires.row_value (row-ascending ((key_in c.args.store.now c.args.ends.now)) ((length c.args.ends.now))) in
    let fits : c.loop-i.equal_pairs + c.group_at-group.result.count < 0x10000000000000000 =
    let l = c in
    let s = l in
    pairs-here ((key_in c.args.store.now c.args.ends.now)) s.args.middle s.args.row.now s.args.partners.now s.args.positions.now l.loop-i.invariant
    c.loop-i-test.true
    c.group_at-group.result
    c.group_at-group.ensures
    (order)
    c.if-x-middle.true
    (firsts)
    (omega (arith, long, s.requires.ends_len_bound)) in
    let t = c in
    let l = t in
    let s = l in
    omega (arith, fits)

pub overflow_add-partnered : goal.overflow_add-partnered
overflow_add-partnered c =
    let firsts : length (those (is_first c.args.middle) c.args.row.now) ≡ c.args.middle =
    let parts : (length c.args.ends.now) ≡ c.args.middle + ((length c.args.ends.now) - c.args.middle) = omega (arith, c.requires.middle_in_bounds) in
    ap (λ (t : List ℕ). length (those (is_first c.args.middle) t))
    (c.requires.row_value ∙ ap (λ (n : ℕ). sorted (key_order ((key_in c.args.store.now c.args.ends.now))) (numbers 0 n)) parts)
    ∙ first_count ((key_in c.args.store.now c.args.ends.now)) c.args.middle ((length c.args.ends.now) - c.args.middle) in
    let long : length c.args.row.now ≡ (length c.args.ends.now) =
    ap length c.requires.row_value ∙ row-length ((key_in c.args.store.now c.args.ends.now)) ((length c.args.ends.now)) in
    let order : ascending (key_order ((key_in c.args.store.now c.args.ends.now))) c.args.row.now ≡ true =
    rw c.requires.row_value (row-ascending ((key_in c.args.store.now c.args.ends.now)) ((length c.args.ends.now))) in
    let t = c in
    let l = t in
    let s = l in
    let names = names-here ((key_in c.args.store.now c.args.ends.now)) s.args.middle s.args.row.now s.args.partners.now s.args.positions.now
    l.loop-i.invariant
    t.loop-i-test.true
    t.group_at-group.result
    t.group_at-group.ensures
    (order)
    t.if-x-middle.true
    (firsts)
    in
    omega (arith, names, long, s.requires.ends_len_bound, few t.group_at-group.result.count, c.from-partnered.ensures, counted t.group_at-group.result.count)

pub loop-i-preserved-then-x-middle : goal.loop-i-preserved-then-x-middle
loop-i-preserved-then-x-middle c =
    let firsts : length (those (is_first c.args.middle) c.args.row.now) ≡ c.args.middle =
    let parts : (length c.args.ends.now) ≡ c.args.middle + ((length c.args.ends.now) - c.args.middle) = omega (arith, c.requires.middle_in_bounds) in
    ap (λ (t : List ℕ). length (those (is_first c.args.middle) t))
    (c.requires.row_value ∙ ap (λ (n : ℕ). sorted (key_order ((key_in c.args.store.now c.args.ends.now))) (numbers 0 n)) parts)
    ∙ first_count ((key_in c.args.store.now c.args.ends.now)) c.args.middle ((length c.args.ends.now) - c.args.middle) in
    let order : ascending (key_order ((key_in c.args.store.now c.args.ends.now))) c.args.row.now ≡ true =
    rw c.requires.row_value (row-ascending ((key_in c.args.store.now c.args.ends.now)) ((length c.args.ends.now))) in
    let t = c in
    let l = t in
    let s = l in
    rw (c.from-partnered.ensures, counted t.group_at-group.result.count)
    (reached-first ((key_in c.args.store.now c.args.ends.now)) s.args.middle s.args.row.now s.args.partners.now s.args.positions.now
    l.loop-i.invariant
    t.loop-i-test.true
    t.group_at-group.result
    t.group_at-group.ensures
    (order)
    t.if-x-middle.true
    (firsts)
    s.requires.middle_in_bounds_3)

pub loop-i-preserved : goal.loop-i-preserved
loop-i-preserved c =
    let l = c in
    let s = l in
    reached-second ((key_in c.args.store.now c.args.ends.now)) s.args.middle s.args.row.now s.args.partners.now s.args.positions.now
    l.loop-i.invariant
    l.loop-i-test.true
    c.group_at-group.result
    c.group_at-group.ensures
    c.if-x-middle.false

pub returns : goal.returns
returns c =
    let l = c in
    let s = l in
    reached-done ((key_in c.args.store.now c.args.ends.now)) s.args.middle ((length c.args.ends.now))
    (record { equal_pairs = l.loop-i.equal_pairs; partnered = l.loop-i.partnered })
    l.loop-i.invariant
    (omega (arith, c.loop-i-test.false))
    s.requires.row_value
    s.requires.middle_in_bounds
    s.requires.middle_in_bounds_2
    refl
    refl
