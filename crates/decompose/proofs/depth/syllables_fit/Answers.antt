-- `decompose::depth::syllables_fit` meets its contract: each return is one of the laws of the largest jamo.
-- Assumes nothing.
use Prim.Native.Nat.{ℕ, ◌+◌, ◌-◌}
use mathlib.Core.Path.{◌≡◌, sym, ap, ◌∙◌}
use mathlib.Core.Bool.{true, not}
use Rattle.std.specs.Prelude.{Option, None, Some, is_some}
use Rattle.terms.specs.Refusals.{full_most}
use Rattle.hangul.specs.Hangul.{l_base, v_base, t_base, l_count, v_count, t_count, syllable, syllable_parts}
use Rattle.table.specs.Table.{table, mapping_of}
use Rattle.table.proofs.Form.{parts_of-syllable}
use Rattle.decompose.specs.TableCheck.{faulty_syllable}
use Rattle.decompose.specs.Promises.{largest}
use Rattle.decompose.proofs.Largest.{largest-room}
use Rattle.decompose.proofs.Syllables.{leading-faulty, vowel-faulty, trailing-faulty, jamo-sound}
use Rattle.decompose.proofs.depth.syllables_fit.Goals as goal

-- a leading consonant is too much
pub returns-in_default : goal.returns-in_default
returns-in_default c =
    let by_rule : (x : ℕ) → syllable x ≡ true → ((let a = c.args in mapping_of (table a.entries.now a.pool.now))).parts x ≡ syllable_parts x =
    λ x is. let a = c.args in parts_of-syllable (table a.entries.now a.pool.now) x is in
    let called = c in
    let nothing = sym called.measure_largest-leading.ensures ∙ c.in_default.is in
    sym (ap not (leading-faulty ((let a = c.args in mapping_of (table a.entries.now a.pool.now))) (by_rule) nothing))

-- what is left beside it
pub overflow_sub-room : goal.overflow_sub-room
overflow_sub-room c =
    let leading : largest ((let a = c.args in mapping_of (table a.entries.now a.pool.now))) full_most l_base l_count ≡ Some c.in-Some.first =
    sym c.measure_largest-leading.ensures ∙ c.in-Some.is in
    largest-room ((let a = c.args in mapping_of (table a.entries.now a.pool.now))) full_most l_base l_count _ (leading)

-- a vowel is
pub returns-in_default-vowel : goal.returns-in_default-vowel
returns-in_default-vowel c =
    let by_rule : (x : ℕ) → syllable x ≡ true → ((let a = c.args in mapping_of (table a.entries.now a.pool.now))).parts x ≡ syllable_parts x =
    λ x is. let a = c.args in parts_of-syllable (table a.entries.now a.pool.now) x is in
    let leading : largest ((let a = c.args in mapping_of (table a.entries.now a.pool.now))) full_most l_base l_count ≡ Some c.in-Some.first =
    sym c.measure_largest-leading.ensures ∙ c.in-Some.is in
    let called = c in
    let l = called in
    let first = l in
    let nothing = sym called.measure_largest-vowel.ensures ∙ c.in_default-vowel.is in
    sym (ap not (vowel-faulty ((let a = c.args in mapping_of (table a.entries.now a.pool.now))) (by_rule) _ (leading) nothing))

pub overflow_sub-room-2 : goal.overflow_sub-room-2
overflow_sub-room-2 c =
    let vowel : let l = c in largest ((let a = c.args in mapping_of (table a.entries.now a.pool.now))) (full_most - l.in-Some.first) v_base v_count ≡ Some c.in-Some-vowel.second =
    sym c.measure_largest-vowel.ensures ∙ c.in-Some-vowel.is in
    let v = c in
    let l = v in
    largest-room ((let a = c.args in mapping_of (table a.entries.now a.pool.now))) (full_most - l.in-Some.first) v_base v_count _ (vowel)

-- a trailing consonant decides
pub returns : goal.returns
returns c =
    let m = mapping_of (table c.args.entries.now c.args.pool.now) in
    let by_rule : (x : ℕ) → syllable x ≡ true → m.parts x ≡ syllable_parts x =
    λ x is. parts_of-syllable (table c.args.entries.now c.args.pool.now) x is
    in
    let leading : largest m full_most l_base l_count ≡ Some c.in-Some.first = sym c.measure_largest-leading.ensures ∙ c.in-Some.is in
    let vowel : largest m (full_most - c.in-Some.first) v_base v_count ≡ Some c.in-Some-vowel.second =
    sym c.measure_largest-vowel.ensures ∙ c.in-Some-vowel.is
    in
    let trailing : (o : Option ℕ) → o ≡ largest m (full_most - c.in-Some.first - c.in-Some-vowel.second) (t_base + 1) (t_count - 1)
    → is_some o ≡ not (faulty_syllable m) =
    λ o e. elim o as (λ x. x ≡ largest m (full_most - c.in-Some.first - c.in-Some-vowel.second) (t_base + 1) (t_count - 1)
    → is_some x ≡ not (faulty_syllable m)) [
      | None ↦ λ q. sym (ap not (trailing-faulty m by_rule _ leading _ vowel (sym q)))
      | Some d ↦ λ q. sym (ap not (jamo-sound m by_rule _ leading _ vowel d (sym q)))
    ] e
    in
    c.is_some.ensures ∙ trailing _ c.measure_largest-trailing.ensures
