-- `decompose::write_unfolded` meets its contract. It calls itself with the jamo of a syllable. A part that doesn't decompose is
-- written where it stands; for any other the function calls itself, one level down; both are lent the slice from `at` on. The
-- measure of the recursion is twice the levels left, and one more where there are no parts. The loop's invariant: the parts so
-- far come to `at` octets and, with the ask for the parts, to `asks` asks, and the slice begins with those octets (`Writing`).
-- The loop's measure is the number of parts that are left. Assumes nothing.
use Prim.Native.Nat.{ℕ, ◌+◌, ◌-◌, ◌≤◌}
use native.Mathlib.Omega.{arith}
use mathlib.Core.Path.{◌≡◌, sym, ◌∙◌}
use mathlib.Core.Bool.{true}
use mathlib.Core.List.{List, [], ◌++◌}
use lib.ListN.{length, get_or, take, drop}
use Rattle.terms.specs.CodePoints.{scalar}
use Rattle.terms.proofs.Lists.{all-at}
use Rattle.hangul.specs.Hangul.{syllable}
use Rattle.table.specs.Table.{table, mapping_of}
use Rattle.table.proofs.Form.{formed-parts-scalar}
use Rattle.utf8.specs.Utf8.{encodes}
use Rattle.terms.proofs.Scalars.{scalar-most}
use Rattle.decompose.specs.Levels.{full}
use Rattle.decompose.specs.Promises.{Split, Bounded, FullFilled}
use Rattle.decompose.specs.declared.Unfolded.{Unfolded}
use Rattle.decompose.proofs.Walk.{encodes-whole, filled-whole, syllable-split, listed-none, listed-some, listed-jamo}
use Rattle.decompose.proofs.Walk.{listed-split, bounded-levels, bounded-part}
use Rattle.decompose.proofs.Unfolding.{sizing-few, Writing, writing_start, writing_more, writing-done}
use Rattle.decompose.proofs.Unfolding.{writing-room}
use Rattle.decompose.proofs.+write_unfolded.Goals as goal
use Rattle.decompose.proofs.+write_unfolded.Goals.{then-not-decomposes, else-not-decomposes}

-- a syllable, with its jamo for parts
pub write_unfolded-requires : goal.write_unfolded-requires
write_unfolded-requires t c =
    let ruled : syllable c.args.c.0 ≡ true =
    c.requires.listed.by-rule c.if-parts-eq0.true in
    let found = c in
    let s = found in
    let x = s.args.c.0 in
    let listed = listed-jamo ((table c.args.entries.now c.args.pool.now)) x _ (ruled) found.parts_among-by_rule.ensures in
    let more = (syllable-split ((table c.args.entries.now c.args.pool.now)) x (ruled) found.parts_among-by_rule.ensures).some in
    (omega (arith, s.decreases, s.if-parts-eq0.true, more), (s.requires.findable, (listed, (s.requires.c_value, (s.requires.bounded, s.requires.c_in_bounds)))))

-- before the first part
pub loop-number-init : goal.loop-number-init
loop-number-init t c = writing_start

pub entry_parts-inner-requires : goal.entry_parts-inner-requires
entry_parts-inner-requires t c =
    let split : let s = c in Split ((mapping_of ((table c.args.entries.now c.args.pool.now)))) s.args.c.0 s.args.parts.now =
    listed-split c.requires.listed c.if-parts-eq0.false in
    let l = c in
    let s = l in
    let scalars = formed-parts-scalar ((table c.args.entries.now c.args.pool.now)) s.requires.findable.form s.args.c.0 in
    let one = all-at scalar s.args.parts.now l.loop-number.number-index 0 (rw (split).parts scalars) c.loop-number-test.true in
    record { findable = s.requires.findable; c_value = one }

-- a scalar code point, and room for its octets
pub write_character-octets-requires : goal.write_character-octets-requires
write_character-octets-requires t c =
    let split : let s = c in Split ((mapping_of ((table c.args.entries.now c.args.pool.now)))) s.args.c.0 s.args.parts.now =
    listed-split c.requires.listed c.if-parts-eq0.false in
    let part_scalar : scalar ((get_or c.args.parts.now c.loop-number.number-index 0)) ≡ true =
    let s = c in
    let scalars = formed-parts-scalar ((table c.args.entries.now c.args.pool.now)) s.requires.findable.form s.args.c.0 in
    all-at scalar s.args.parts.now c.loop-number.number-index 0 (rw (split).parts scalars) ((c.loop-number-test.true)) in
    let bounded : Bounded ((mapping_of ((table c.args.entries.now c.args.pool.now)))) c.args.levels_left c.args.c.0 =
    c.requires.bounded in
    let part_room : let l = c in let s = l in length (encodes (full ((mapping_of ((table c.args.entries.now c.args.pool.now)))) (s.args.levels_left - 1) ((get_or c.args.parts.now c.loop-number.number-index 0)))) ≤ length ((take (length c.loop-number.out - c.loop-number.at) (drop c.loop-number.at c.loop-number.out))) =
    let l = c in
    let s = l in
    writing-room (bounded) (split) l.loop-number.invariant s.requires.c_in_bounds ((c.loop-number-test.true)) in
    let whole : ((mapping_of ((table c.args.entries.now c.args.pool.now)))).parts ((get_or c.args.parts.now c.loop-number.number-index 0)) ≡ [] =
    let looked = c in
    let stays = sym looked.decomposes.ensures ∙ c.if-not-decomposes.true in
    listed-none ((table c.args.entries.now c.args.pool.now)) ((get_or c.args.parts.now c.loop-number.number-index 0)) _ looked.entry_parts-inner.ensures stays in
    let p = c in
    let s = p in
    let octets = encodes-whole ((mapping_of ((table c.args.entries.now c.args.pool.now)))) (s.args.levels_left - 1) ((get_or c.args.parts.now c.loop-number.number-index 0)) (whole) in
    record { c_bound = scalar-most ((get_or c.args.parts.now c.loop-number.number-index 0)) (part_scalar); c_in_bounds = rw octets at (part_room) }

-- few asks
pub overflow_add-asks : goal.overflow_add-asks
overflow_add-asks t c =
    let PartFilled : Unfolded → List ℕ → Type 0 =
    λ r after. let s = c in
    FullFilled ((mapping_of ((table c.args.entries.now c.args.pool.now)))) (s.args.levels_left - 1) ((get_or c.args.parts.now c.loop-number.number-index 0)) ((take (length c.loop-number.out - c.loop-number.at) (drop c.loop-number.at c.loop-number.out))) r after in
    let bounded : Bounded ((mapping_of ((table c.args.entries.now c.args.pool.now)))) c.args.levels_left c.args.c.0 =
    c.requires.bounded in
    let whole : ((mapping_of ((table c.args.entries.now c.args.pool.now)))).parts ((get_or c.args.parts.now c.loop-number.number-index 0)) ≡ [] =
    let looked = c in
    let stays = sym looked.decomposes.ensures ∙ c.if-not-decomposes.true in
    listed-none ((table c.args.entries.now c.args.pool.now)) ((get_or c.args.parts.now c.loop-number.number-index 0)) _ looked.entry_parts-inner.ensures stays in
    let filled : PartFilled (record { octets = c.write_character-octets.result; asks = 1 }) c.write_character-octets.new.out =
    let p = c in
    let s = p in
    filled-whole ((mapping_of ((table c.args.entries.now c.args.pool.now)))) (s.args.levels_left - 1) ((get_or c.args.parts.now c.loop-number.number-index 0)) (whole) ((take (length c.loop-number.out - c.loop-number.at) (drop c.loop-number.at c.loop-number.out))) _ _
    c.write_character-octets.ensures in
    let more : (r : Unfolded) (after : List ℕ) → PartFilled r after → let l = c in let s = l in Writing ((mapping_of ((table c.args.entries.now c.args.pool.now)))) (s.args.levels_left - 1) s.args.parts.now s.args.out.now (l.loop-number.at + r.octets) (l.loop-number.asks + r.asks) (l.loop-number.number-index + 1) (take l.loop-number.at l.loop-number.out ++ (after ++ drop (length l.loop-number.out - l.loop-number.at) (drop l.loop-number.at l.loop-number.out))) =
    λ r after filled. writing_more c.loop-number.invariant ((c.loop-number-test.true)) filled in
    let split : let s = c in Split ((mapping_of ((table c.args.entries.now c.args.pool.now)))) s.args.c.0 s.args.parts.now =
    listed-split c.requires.listed c.if-parts-eq0.false in
    let few : (r : Unfolded) (after : List ℕ) → PartFilled r after → (c.loop-number.at + r.octets ≤ 128) × (c.loop-number.asks + r.asks ≤ 257) =
    λ r after filled. let s = c in
    sizing-few (bounded) (split) (more r after filled).sized in
    let w = c in omega (arith, few _ _ (filled))

-- a level is left
pub overflow_sub-levels_left : goal.overflow_sub-levels_left
overflow_sub-levels_left t c =
    let bounded : Bounded ((mapping_of ((table c.args.entries.now c.args.pool.now)))) c.args.levels_left c.args.c.0 =
    c.requires.bounded in
    let split : let s = c in Split ((mapping_of ((table c.args.entries.now c.args.pool.now)))) s.args.c.0 s.args.parts.now =
    listed-split c.requires.listed c.if-parts-eq0.false in
    let level : 1 ≤ c.args.levels_left =
    bounded-levels (bounded) (split) in
    level

-- one level down, with what the entries say of the part, and room in the part that is lent
pub write_unfolded-written-requires : goal.write_unfolded-written-requires
write_unfolded-written-requires t c =
    let bounded : Bounded ((mapping_of ((table c.args.entries.now c.args.pool.now)))) c.args.levels_left c.args.c.0 =
    c.requires.bounded in
    let split : let s = c in Split ((mapping_of ((table c.args.entries.now c.args.pool.now)))) s.args.c.0 s.args.parts.now =
    listed-split c.requires.listed c.if-parts-eq0.false in
    let level : 1 ≤ c.args.levels_left =
    bounded-levels (bounded) (split) in
    let part_scalar : scalar ((get_or c.args.parts.now c.loop-number.number-index 0)) ≡ true =
    let s = c in
    let scalars = formed-parts-scalar ((table c.args.entries.now c.args.pool.now)) s.requires.findable.form s.args.c.0 in
    all-at scalar s.args.parts.now c.loop-number.number-index 0 (rw (split).parts scalars) ((c.loop-number-test.true)) in
    let part_room : let l = c in let s = l in length (encodes (full ((mapping_of ((table c.args.entries.now c.args.pool.now)))) (s.args.levels_left - 1) ((get_or c.args.parts.now c.loop-number.number-index 0)))) ≤ length ((take (length c.loop-number.out - c.loop-number.at) (drop c.loop-number.at c.loop-number.out))) =
    let l = c in
    let s = l in
    writing-room (bounded) (split) l.loop-number.invariant s.requires.c_in_bounds ((c.loop-number-test.true)) in
    let p = c in
    let l = p in
    let s = l in
    let splits = sym p.decomposes.ensures ∙ c.if-not-decomposes.false in
    let listed = listed-some ((table c.args.entries.now c.args.pool.now)) ((get_or c.args.parts.now c.loop-number.number-index 0)) _ s.requires.findable.form p.entry_parts-inner.ensures splits in
    let bounds = bounded-part (bounded) (split) l.loop-number.number-index ((c.loop-number-test.true)) in (
      omega (arith, level, s.decreases, (split).some),
      (s.requires.findable, (listed, (part_scalar, (bounds, part_room)))),
    )

-- few asks
pub overflow_add-asks-else-not-decomposes : goal.overflow_add-asks-else-not-decomposes
overflow_add-asks-else-not-decomposes t c =
    let PartFilled : Unfolded → List ℕ → Type 0 =
    λ r after. let s = c in
    FullFilled ((mapping_of ((table c.args.entries.now c.args.pool.now)))) (s.args.levels_left - 1) ((get_or c.args.parts.now c.loop-number.number-index 0)) ((take (length c.loop-number.out - c.loop-number.at) (drop c.loop-number.at c.loop-number.out))) r after in
    let bounded : Bounded ((mapping_of ((table c.args.entries.now c.args.pool.now)))) c.args.levels_left c.args.c.0 =
    c.requires.bounded in
    let more : (r : Unfolded) (after : List ℕ) → PartFilled r after → let l = c in let s = l in Writing ((mapping_of ((table c.args.entries.now c.args.pool.now)))) (s.args.levels_left - 1) s.args.parts.now s.args.out.now (l.loop-number.at + r.octets) (l.loop-number.asks + r.asks) (l.loop-number.number-index + 1) (take l.loop-number.at l.loop-number.out ++ (after ++ drop (length l.loop-number.out - l.loop-number.at) (drop l.loop-number.at l.loop-number.out))) =
    λ r after filled. writing_more c.loop-number.invariant ((c.loop-number-test.true)) filled in
    let split : let s = c in Split ((mapping_of ((table c.args.entries.now c.args.pool.now)))) s.args.c.0 s.args.parts.now =
    listed-split c.requires.listed c.if-parts-eq0.false in
    let few : (r : Unfolded) (after : List ℕ) → PartFilled r after → (c.loop-number.at + r.octets ≤ 128) × (c.loop-number.asks + r.asks ≤ 257) =
    λ r after filled. let s = c in
    sizing-few (bounded) (split) (more r after filled).sized in
    let w = c in
    omega (arith, few _ _ w.write_unfolded-written.ensures)

-- one part more, written by itself or by a call
pub loop-number-preserved : goal.loop-number-preserved
loop-number-preserved t c =
    let PartFilled : Unfolded → List ℕ → Type 0 =
    λ r after. let s = c in
    FullFilled ((mapping_of ((table c.args.entries.now c.args.pool.now)))) (s.args.levels_left - 1) ((get_or c.args.parts.now c.loop-number.number-index 0)) ((take (length c.loop-number.out - c.loop-number.at) (drop c.loop-number.at c.loop-number.out))) r after in
    let more : (r : Unfolded) (after : List ℕ) → PartFilled r after → let l = c in let s = l in Writing ((mapping_of ((table c.args.entries.now c.args.pool.now)))) (s.args.levels_left - 1) s.args.parts.now s.args.out.now (l.loop-number.at + r.octets) (l.loop-number.asks + r.asks) (l.loop-number.number-index + 1) (take l.loop-number.at l.loop-number.out ++ (after ++ drop (length l.loop-number.out - l.loop-number.at) (drop l.loop-number.at l.loop-number.out))) =
    λ r after filled. writing_more c.loop-number.invariant ((c.loop-number-test.true)) filled in
    elim c.if-not-decomposes.branch [
      | then-not-decomposes w ↦
          rw (w.out-is, w.at-is, w.asks-is)
          (more _ _
          (filled-whole (mapping_of (table c.args.entries.now c.args.pool.now)) (c.args.levels_left - 1)
          (get_or c.args.parts.now c.loop-number.number-index 0)
          (listed-none (table c.args.entries.now c.args.pool.now) (get_or c.args.parts.now c.loop-number.number-index 0) _
          c.entry_parts-inner.ensures (sym c.decomposes.ensures ∙ w.if-not-decomposes.true))
          (take (length c.loop-number.out - c.loop-number.at) (drop c.loop-number.at c.loop-number.out)) _ _
          w.write_character-octets.ensures))
      | else-not-decomposes w ↦ rw (w.out-is, w.at-is, w.asks-is) (more _ _ w.write_unfolded-written.ensures)
    ]

-- every part was written
pub returns : goal.returns
returns t c =
    let bounded : Bounded ((mapping_of ((table c.args.entries.now c.args.pool.now)))) c.args.levels_left c.args.c.0 =
    c.requires.bounded in
    let split : let s = c in Split ((mapping_of ((table c.args.entries.now c.args.pool.now)))) s.args.c.0 s.args.parts.now =
    listed-split c.requires.listed c.if-parts-eq0.false in
    let l = c in
    writing-done (bounded) (split) l.loop-number.invariant c.loop-number-test.false
