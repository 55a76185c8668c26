-- `decompose::size_unfolded` meets its contract. It calls itself with the jamo of a syllable, and for each part that
-- decomposes, one level down; the measure of the recursion is twice the levels left, and one more where there are no parts. The
-- loop's invariant: the parts so far come to `octets` octets and, with the ask for the parts, to `asked` asks (`Sizing`). The
-- loop's measure is the number of parts that are left. Assumes nothing.
use Prim.Native.Nat.{◌+◌, ◌-◌, ◌≤◌}
use native.Mathlib.Omega.{arith}
use mathlib.Core.Path.{◌≡◌, sym, ◌∙◌}
use mathlib.Core.Bool.{true}
use lib.ListN.{get_or}
use Rattle.terms.specs.CodePoints.{scalar}
use Rattle.terms.proofs.Lists.{all-at}
use Rattle.hangul.specs.Hangul.{syllable}
use Rattle.table.specs.Table.{table, mapping_of}
use Rattle.table.proofs.Form.{formed-parts-scalar}
use Rattle.decompose.specs.Promises.{Split, FullCounted}
use Rattle.decompose.specs.declared.Unfolded.{Unfolded}
use Rattle.decompose.proofs.Walk.{counted-whole, syllable-split, listed-none, listed-some, listed-jamo, listed-split}
use Rattle.decompose.proofs.Walk.{bounded-levels, bounded-part}
use Rattle.decompose.proofs.Unfolding.{Sizing, sizing-start, sizing-more, sizing-done, sizing-few}
use Rattle.decompose.proofs.+size_unfolded.Goals as goal
use Rattle.decompose.proofs.+size_unfolded.Goals.{then-not-decomposes, else-not-decomposes}

-- a syllable, with its jamo for parts
pub size_unfolded-requires : goal.size_unfolded-requires
size_unfolded-requires t c =
    let ruled : syllable c.args.c.0 ≡ true =
    c.requires.listed.by-rule c.if-parts-eq0.true in
    let s = c in
    let listed = listed-jamo ((table c.args.entries.now c.args.pool.now)) s.args.c.0 _ (ruled) c.parts_among-by_rule.ensures in
    let more = (syllable-split ((table c.args.entries.now c.args.pool.now)) s.args.c.0 (ruled) c.parts_among-by_rule.ensures).some in
    (omega (arith, s.decreases, s.if-parts-eq0.true, more), (s.requires.findable, (listed, s.requires.bounded)))

-- before the first part
pub loop-number-init : goal.loop-number-init
loop-number-init t c = sizing-start

pub entry_parts-inner-requires : goal.entry_parts-inner-requires
entry_parts-inner-requires t c =
    let split : Split ((mapping_of ((table c.args.entries.now c.args.pool.now)))) c.args.c.0 c.args.parts.now =
    listed-split c.requires.listed c.if-parts-eq0.false in
    let l = c in
    let s = l in
    let scalars = formed-parts-scalar ((table c.args.entries.now c.args.pool.now)) s.requires.findable.form s.args.c.0 in
    let one = all-at scalar s.args.parts.now l.loop-number.number-index 0 (rw (split).parts scalars) c.loop-number-test.true in
    record { findable = s.requires.findable; c_value = one }

-- few octets, and few asks
pub overflow_add-octets : goal.overflow_add-octets
overflow_add-octets t c =
    let Part : Unfolded → Type 0 =
    λ r. let s = c in FullCounted ((mapping_of ((table c.args.entries.now c.args.pool.now)))) (s.args.levels_left - 1) ((get_or c.args.parts.now c.loop-number.number-index 0)) r in
    let more : (r : Unfolded) → Part r → let l = c in let s = c in Sizing ((mapping_of ((table c.args.entries.now c.args.pool.now)))) (s.args.levels_left - 1) s.args.parts.now (l.loop-number.octets + r.octets) (l.loop-number.asked + r.asks) (l.loop-number.number-index + 1) =
    λ r counted. sizing-more c.loop-number.invariant ((c.loop-number-test.true)) counted in
    let split : Split ((mapping_of ((table c.args.entries.now c.args.pool.now)))) c.args.c.0 c.args.parts.now =
    listed-split c.requires.listed c.if-parts-eq0.false in
    let few : (r : Unfolded) → Part r → (c.loop-number.octets + r.octets ≤ 128) × (c.loop-number.asked + r.asks ≤ 257) =
    λ r counted. sizing-few c.requires.bounded (split) (more r counted) in
    let whole : Part ((record { octets = c.octet_count-octets.result; asks = 1 })) =
    let looked = c in
    let s = looked in
    let stays = sym looked.decomposes.ensures ∙ c.if-not-decomposes.true in
    counted-whole ((mapping_of ((table c.args.entries.now c.args.pool.now)))) (s.args.levels_left - 1) ((get_or c.args.parts.now c.loop-number.number-index 0))
    (listed-none ((table c.args.entries.now c.args.pool.now)) ((get_or c.args.parts.now c.loop-number.number-index 0)) _ looked.entry_parts-inner.ensures stays)
    c.octet_count-octets.result
    c.octet_count-octets.ensures in
    omega (arith, few ((record { octets = c.octet_count-octets.result; asks = 1 })) (whole))

pub overflow_add-asked : goal.overflow_add-asked
overflow_add-asked t c =
    let Part : Unfolded → Type 0 =
    λ r. let s = c in FullCounted ((mapping_of ((table c.args.entries.now c.args.pool.now)))) (s.args.levels_left - 1) ((get_or c.args.parts.now c.loop-number.number-index 0)) r in
    let more : (r : Unfolded) → Part r → let l = c in let s = c in Sizing ((mapping_of ((table c.args.entries.now c.args.pool.now)))) (s.args.levels_left - 1) s.args.parts.now (l.loop-number.octets + r.octets) (l.loop-number.asked + r.asks) (l.loop-number.number-index + 1) =
    λ r counted. sizing-more c.loop-number.invariant ((c.loop-number-test.true)) counted in
    let split : Split ((mapping_of ((table c.args.entries.now c.args.pool.now)))) c.args.c.0 c.args.parts.now =
    listed-split c.requires.listed c.if-parts-eq0.false in
    let few : (r : Unfolded) → Part r → (c.loop-number.octets + r.octets ≤ 128) × (c.loop-number.asked + r.asks ≤ 257) =
    λ r counted. sizing-few c.requires.bounded (split) (more r counted) in
    let whole : Part ((record { octets = c.octet_count-octets.result; asks = 1 })) =
    let looked = c in
    let s = looked in
    let stays = sym looked.decomposes.ensures ∙ c.if-not-decomposes.true in
    counted-whole ((mapping_of ((table c.args.entries.now c.args.pool.now)))) (s.args.levels_left - 1) ((get_or c.args.parts.now c.loop-number.number-index 0))
    (listed-none ((table c.args.entries.now c.args.pool.now)) ((get_or c.args.parts.now c.loop-number.number-index 0)) _ looked.entry_parts-inner.ensures stays)
    c.octet_count-octets.result
    c.octet_count-octets.ensures in
    omega (arith, few ((record { octets = c.octet_count-octets.result; asks = 1 })) (whole))

-- a level is left
pub overflow_sub-levels_left : goal.overflow_sub-levels_left
overflow_sub-levels_left t c =
    let split : Split ((mapping_of ((table c.args.entries.now c.args.pool.now)))) c.args.c.0 c.args.parts.now =
    listed-split c.requires.listed c.if-parts-eq0.false in
    let level : 1 ≤ c.args.levels_left =
    bounded-levels c.requires.bounded (split) in
    level

-- one level down, with what the entries say of the part
pub size_unfolded-sized-requires : goal.size_unfolded-sized-requires
size_unfolded-sized-requires t c =
    let split : Split ((mapping_of ((table c.args.entries.now c.args.pool.now)))) c.args.c.0 c.args.parts.now =
    listed-split c.requires.listed c.if-parts-eq0.false in
    let level : 1 ≤ c.args.levels_left =
    bounded-levels c.requires.bounded (split) in
    let looked = c in
    let l = looked in
    let s = looked in
    let splits = sym looked.decomposes.ensures ∙ c.if-not-decomposes.false in
    let listed = listed-some ((table c.args.entries.now c.args.pool.now)) ((get_or c.args.parts.now c.loop-number.number-index 0)) _ s.requires.findable.form looked.entry_parts-inner.ensures splits in (
      omega (arith, level, s.decreases, (split).some),
      (s.requires.findable, (listed, bounded-part s.requires.bounded (split) looked.loop-number.number-index ((c.loop-number-test.true)))),
    )

pub overflow_add-octets-else-not-decomposes : goal.overflow_add-octets-else-not-decomposes
overflow_add-octets-else-not-decomposes t c =
    let Part : Unfolded → Type 0 =
    λ r. let s = c in FullCounted ((mapping_of ((table c.args.entries.now c.args.pool.now)))) (s.args.levels_left - 1) ((get_or c.args.parts.now c.loop-number.number-index 0)) r in
    let more : (r : Unfolded) → Part r → let l = c in let s = c in Sizing ((mapping_of ((table c.args.entries.now c.args.pool.now)))) (s.args.levels_left - 1) s.args.parts.now (l.loop-number.octets + r.octets) (l.loop-number.asked + r.asks) (l.loop-number.number-index + 1) =
    λ r counted. sizing-more c.loop-number.invariant ((c.loop-number-test.true)) counted in
    let split : Split ((mapping_of ((table c.args.entries.now c.args.pool.now)))) c.args.c.0 c.args.parts.now =
    listed-split c.requires.listed c.if-parts-eq0.false in
    let few : (r : Unfolded) → Part r → (c.loop-number.octets + r.octets ≤ 128) × (c.loop-number.asked + r.asks ≤ 257) =
    λ r counted. sizing-few c.requires.bounded (split) (more r counted) in
    let called = c in
    omega (arith, few called.size_unfolded-sized.result called.size_unfolded-sized.ensures)

pub overflow_add-asked-else-not-decomposes : goal.overflow_add-asked-else-not-decomposes
overflow_add-asked-else-not-decomposes t c =
    let Part : Unfolded → Type 0 =
    λ r. let s = c in FullCounted ((mapping_of ((table c.args.entries.now c.args.pool.now)))) (s.args.levels_left - 1) ((get_or c.args.parts.now c.loop-number.number-index 0)) r in
    let more : (r : Unfolded) → Part r → let l = c in let s = c in Sizing ((mapping_of ((table c.args.entries.now c.args.pool.now)))) (s.args.levels_left - 1) s.args.parts.now (l.loop-number.octets + r.octets) (l.loop-number.asked + r.asks) (l.loop-number.number-index + 1) =
    λ r counted. sizing-more c.loop-number.invariant ((c.loop-number-test.true)) counted in
    let split : Split ((mapping_of ((table c.args.entries.now c.args.pool.now)))) c.args.c.0 c.args.parts.now =
    listed-split c.requires.listed c.if-parts-eq0.false in
    let few : (r : Unfolded) → Part r → (c.loop-number.octets + r.octets ≤ 128) × (c.loop-number.asked + r.asks ≤ 257) =
    λ r counted. sizing-few c.requires.bounded (split) (more r counted) in
    let called = c in
    omega (arith, few called.size_unfolded-sized.result called.size_unfolded-sized.ensures)

-- one part more, either way
pub loop-number-preserved : goal.loop-number-preserved
loop-number-preserved t c =
    let Part : Unfolded → Type 0 =
    λ r. let s = c in FullCounted ((mapping_of ((table c.args.entries.now c.args.pool.now)))) (s.args.levels_left - 1) ((get_or c.args.parts.now c.loop-number.number-index 0)) r in
    let more : (r : Unfolded) → Part r → let l = c in let s = c in Sizing ((mapping_of ((table c.args.entries.now c.args.pool.now)))) (s.args.levels_left - 1) s.args.parts.now (l.loop-number.octets + r.octets) (l.loop-number.asked + r.asks) (l.loop-number.number-index + 1) =
    λ r counted. sizing-more c.loop-number.invariant ((c.loop-number-test.true)) counted in
    elim c.if-not-decomposes.branch [
      | then-not-decomposes w ↦
          rw (w.octets-is, w.asked-is)
          (more (record { octets = w.octet_count-octets.result; asks = 1 })
          (counted-whole (mapping_of (table c.args.entries.now c.args.pool.now)) (c.args.levels_left - 1)
          (get_or c.args.parts.now c.loop-number.number-index 0)
          (listed-none (table c.args.entries.now c.args.pool.now) (get_or c.args.parts.now c.loop-number.number-index 0) _
          c.entry_parts-inner.ensures (sym c.decomposes.ensures ∙ w.if-not-decomposes.true))
          w.octet_count-octets.result
          w.octet_count-octets.ensures))
      | else-not-decomposes w ↦
          rw (w.octets-is, w.asked-is) (more w.size_unfolded-sized.result w.size_unfolded-sized.ensures)
    ]

-- every part was sized
pub returns : goal.returns
returns t c =
    let split : Split ((mapping_of ((table c.args.entries.now c.args.pool.now)))) c.args.c.0 c.args.parts.now =
    listed-split c.requires.listed c.if-parts-eq0.false in
    let l = c in
    sizing-done l.requires.bounded (split) l.loop-number.invariant c.loop-number-test.false
