-- `decompose::depth::measure` meets its contract. It calls itself with the jamo of a syllable, and for each part that
-- decomposes, one level down; the measure of the recursion is twice the levels left, and one more where there are no parts. The
-- loop's invariant: the parts so far are within the levels left to them and come to `total` code points, for which there is
-- room (`Measuring`). The loop's measure is the number of parts that are left. Assumes nothing.
use Prim.Native.Nat.{ℕ, ◌+◌, ◌-◌, ◌≤◌}
use native.Mathlib.Omega.{arith}
use mathlib.Core.Path.{◌≡◌, sym, ap, ◌∙◌}
use mathlib.Core.Bool.{true}
use Rattle.std.specs.Prelude.{None, Some}
use lib.Dec.{leb}
use lib.ListN.{get_or}
use borrow.Author.Tests.{le-leb, lt-leb}
use Rattle.terms.specs.Lists.{when}
use Rattle.hangul.specs.Hangul.{syllable}
use Rattle.table.specs.Table.{table, mapping_of}
use Rattle.decompose.specs.Promises.{measured, Split}
use Rattle.decompose.proofs.Walk.{measured-whole, syllable-split, listed-none, listed-some, listed-jamo, listed-split}
use Rattle.decompose.proofs.Measuring.{measured_parts, measured-parts, measured-none, Measuring, measuring-start}
use Rattle.decompose.proofs.Measuring.{measuring-more, measuring-done, measuring-stop}
use Rattle.decompose.proofs.depth.+measure.Goals as goal
use Rattle.decompose.proofs.depth.+measure.Goals.{then-not-decomposes+else-total-room, else-not-decomposes+in_ok-total}

-- a syllable, with its jamo for parts
pub measure-requires : goal.measure-requires
measure-requires t c =
    let ruled : syllable c.args.c.0 ≡ true =
    c.requires.listed.by-rule c.if-parts-eq0.true in
    let s = c in
    let x = s.args.c.0 in
    let more = (syllable-split ((table c.args.entries.now c.args.pool.now)) x (ruled) c.parts_among-by_rule.ensures).some in
    let listed = listed-jamo ((table c.args.entries.now c.args.pool.now)) x _ (ruled) c.parts_among-by_rule.ensures in
    (omega (arith, s.decreases, s.if-parts-eq0.true, more), (s.requires.pool_value, listed))

-- no level left
pub returns-then-levels_left-eq0 : goal.returns-then-levels_left-eq0
returns-then-levels_left-eq0 t c =
    let split : let s = c in Split ((mapping_of ((table c.args.entries.now c.args.pool.now)))) s.args.c.0 s.args.parts.now =
    listed-split c.requires.listed c.if-parts-eq0.false in
    let s = c in
    let a = s.args in
    let none_left : a.levels_left ≡ 0 = c.if-levels_left-eq0.true in
    sym
    (ap (λ n. measured ((mapping_of ((table c.args.entries.now c.args.pool.now)))) n a.room a.c.0) none_left
    ∙ measured-none (split) a.room)

-- before the first part
pub loop-number-init : goal.loop-number-init
loop-number-init t c = measuring-start

-- a whole part, and no room
pub returns-then-total-room : goal.returns-then-total-room
returns-then-total-room t c =
    let level : 1 ≤ c.args.levels_left =
    omega (arith, c.if-levels_left-eq0.false) in
    let split : let s = c in Split ((mapping_of ((table c.args.entries.now c.args.pool.now)))) s.args.c.0 s.args.parts.now =
    listed-split c.requires.listed c.if-parts-eq0.false in
    let parts_decide : let s = c in measured ((mapping_of ((table c.args.entries.now c.args.pool.now)))) s.args.levels_left s.args.room s.args.c.0 ≡ measured_parts ((mapping_of ((table c.args.entries.now c.args.pool.now)))) (s.args.levels_left - 1) s.args.room s.args.parts.now =
    let s = c in
    measured-parts (split) s.args.levels_left s.args.room (level) in
    let stop : (let s = c in measured ((mapping_of ((table c.args.entries.now c.args.pool.now)))) (s.args.levels_left - 1) ((c.args.room - c.loop-number.total)) ((get_or c.args.parts.now c.loop-number.number-index 0))) ≡ None → let s = c in None ≡ measured ((mapping_of ((table c.args.entries.now c.args.pool.now)))) s.args.levels_left s.args.room s.args.c.0 =
    λ too_much. measuring-stop c.loop-number.invariant ((c.loop-number-test.true)) too_much ∙ sym (parts_decide) in
    let whole : (let s = c in measured ((mapping_of ((table c.args.entries.now c.args.pool.now)))) (s.args.levels_left - 1) ((c.args.room - c.loop-number.total)) ((get_or c.args.parts.now c.loop-number.number-index 0))) ≡ when (leb 1 ((c.args.room - c.loop-number.total))) 1 =
    let looked = c in
    let s = looked in
    let stays = sym looked.decomposes.ensures ∙ c.if-not-decomposes.true in
    measured-whole ((mapping_of ((table c.args.entries.now c.args.pool.now)))) (s.args.levels_left - 1) ((c.args.room - c.loop-number.total)) ((get_or c.args.parts.now c.loop-number.number-index 0))
    (listed-none ((table c.args.entries.now c.args.pool.now)) ((get_or c.args.parts.now c.loop-number.number-index 0)) _ looked.entry_parts-inner.ensures stays) in
    let looked = c in
    stop (whole ∙ ap (λ b. when b 1) (lt-leb 1 ((c.args.room - c.loop-number.total)) (omega (arith, c.if-total-room.true))))

-- one level down, with what the entries say of the part
pub measure-requires-else-not-decomposes : goal.measure-requires-else-not-decomposes
measure-requires-else-not-decomposes t c =
    let level : 1 ≤ c.args.levels_left =
    omega (arith, c.if-levels_left-eq0.false) in
    let split : let s = c in Split ((mapping_of ((table c.args.entries.now c.args.pool.now)))) s.args.c.0 s.args.parts.now =
    listed-split c.requires.listed c.if-parts-eq0.false in
    let looked = c in
    let before = looked in
    let s = looked in
    let splits = sym looked.decomposes.ensures ∙ c.if-not-decomposes.false in
    let listed = listed-some ((table c.args.entries.now c.args.pool.now)) ((get_or c.args.parts.now c.loop-number.number-index 0)) _ s.requires.pool_value looked.entry_parts-inner.ensures splits in
    (omega (arith, level, s.decreases, (split).some), (s.requires.pool_value, listed))

-- a part that is too much
pub returns-in_err-total : goal.returns-in_err-total
returns-in_err-total t c =
    let level : 1 ≤ c.args.levels_left =
    omega (arith, c.if-levels_left-eq0.false) in
    let split : let s = c in Split ((mapping_of ((table c.args.entries.now c.args.pool.now)))) s.args.c.0 s.args.parts.now =
    listed-split c.requires.listed c.if-parts-eq0.false in
    let parts_decide : let s = c in measured ((mapping_of ((table c.args.entries.now c.args.pool.now)))) s.args.levels_left s.args.room s.args.c.0 ≡ measured_parts ((mapping_of ((table c.args.entries.now c.args.pool.now)))) (s.args.levels_left - 1) s.args.room s.args.parts.now =
    let s = c in
    measured-parts (split) s.args.levels_left s.args.room (level) in
    let stop : (let s = c in measured ((mapping_of ((table c.args.entries.now c.args.pool.now)))) (s.args.levels_left - 1) ((c.args.room - c.loop-number.total)) ((get_or c.args.parts.now c.loop-number.number-index 0))) ≡ None → let s = c in None ≡ measured ((mapping_of ((table c.args.entries.now c.args.pool.now)))) s.args.levels_left s.args.room s.args.c.0 =
    λ too_much. measuring-stop c.loop-number.invariant ((c.loop-number-test.true)) too_much ∙ sym (parts_decide) in
    let called = c in
    rw c.from_residual.ensures (stop (sym called.measure-else-not-decomposes.ensures ∙ c.in_err-total.was))

-- one part more, either way
pub loop-number-preserved : goal.loop-number-preserved
loop-number-preserved t c =
    let more : (k : ℕ) → (let s = c in measured ((mapping_of ((table c.args.entries.now c.args.pool.now)))) (s.args.levels_left - 1) ((c.args.room - c.loop-number.total)) ((get_or c.args.parts.now c.loop-number.number-index 0))) ≡ Some k → let l = c in let s = c in Measuring ((mapping_of ((table c.args.entries.now c.args.pool.now)))) (s.args.levels_left - 1) s.args.parts.now s.args.room (l.loop-number.total + k) (l.loop-number.number-index + 1) =
    λ k fits. measuring-more c.loop-number.invariant ((c.loop-number-test.true)) fits in
    elim c.if-not-decomposes.branch [
      | then-not-decomposes+else-total-room w ↦
          rw w.total-is
          (more 1
          (measured-whole (mapping_of (table c.args.entries.now c.args.pool.now)) (c.args.levels_left - 1)
          (c.args.room - c.loop-number.total)
          (get_or c.args.parts.now c.loop-number.number-index 0)
          (listed-none (table c.args.entries.now c.args.pool.now) (get_or c.args.parts.now c.loop-number.number-index 0) _
          c.entry_parts-inner.ensures (sym c.decomposes.ensures ∙ w.if-not-decomposes.true))
          ∙ ap (λ b. when b 1)
          (le-leb 1 (c.args.room - c.loop-number.total) (omega (arith, w.if-total-room.false, c.loop-number.invariant.fits)))))
      | else-not-decomposes+in_ok-total w ↦
          rw w.total-is (more _ (sym w.measure-else-not-decomposes.ensures ∙ w.in_ok-total.was))
    ]

-- every part was measured
pub returns : goal.returns
returns t c =
    let level : 1 ≤ c.args.levels_left =
    omega (arith, c.if-levels_left-eq0.false) in
    let split : let s = c in Split ((mapping_of ((table c.args.entries.now c.args.pool.now)))) s.args.c.0 s.args.parts.now =
    listed-split c.requires.listed c.if-parts-eq0.false in
    let parts_decide : let s = c in measured ((mapping_of ((table c.args.entries.now c.args.pool.now)))) s.args.levels_left s.args.room s.args.c.0 ≡ measured_parts ((mapping_of ((table c.args.entries.now c.args.pool.now)))) (s.args.levels_left - 1) s.args.room s.args.parts.now =
    let s = c in
    measured-parts (split) s.args.levels_left s.args.room (level) in
    let l = c in
    measuring-done l.loop-number.invariant c.loop-number-test.false ∙ sym (parts_decide)
