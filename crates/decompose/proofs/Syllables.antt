-- The syllables under check 7. Each is one level above its jamo, and every combination of jamo is a syllable: so the largest
-- leading consonant, the largest vowel and the largest trailing consonant decide for all 11,172.
-- Assumes nothing.
use mathlib.Core.Path.{◌≡◌, refl, sym, ap, ◌∙◌}
use Prim.Native.Nat.{ℕ, zero, suc, ◌+◌, ◌-◌, ◌≤◌, ◌<◌}
use native.Mathlib.Omega.{arith}
use mathlib.Core.Bool.{Bool, true, false, cond, ◌&&◌, not, true≢false}
use Rattle.std.specs.Prelude.{Option, None, Some}
use mathlib.Core.List.{List, [], ◌∷◌}
use lib.Dec.{leb, eqb}
use borrow.Author.Tests.{leb-true, le-leb, not-true, not-false, ne_eqb}
use Rattle.terms.specs.Lists.{all, total, there, lowest}
use Rattle.terms.specs.Refusals.{levels_most, full_most}
use Rattle.terms.proofs.Lists.{all_first, all_rest, length-each}
use Rattle.terms.proofs.Lowest.{lowest-some, lowest-none, lowest-nowhere}
use Rattle.terms.proofs.Tests.{both, join}
use Rattle.hangul.specs.Hangul.{s_base, l_base, v_base, t_base, l_count, v_count, t_count, s_count, syllable, syllable_parts, composed}
use Rattle.hangul.proofs.Syllables.{syllable-bounds, syllable-within, composed-syllable, parts-composed, syllable-composed}
use Rattle.table.specs.Mapping.{Mapping}
use Rattle.table.specs.Table.{Table, mapping_of}
use Rattle.table.proofs.Form.{parts_of-syllable}
use Rattle.decompose.specs.Levels.{within, full}
use Rattle.decompose.specs.TableCheck.{unfolds, faulty_syllable}
use Rattle.decompose.specs.Promises.{jamo_levels, largest, Split}
use Rattle.decompose.proofs.Walk.{within-parts, full-parts}
use Rattle.decompose.proofs.Largest.{size, largest-each, largest-room, largest-one, largest-none, too_much}

-- ---- faulty_syllable

-- nothing is there, and something is
there-none : (o : Option ℕ) → there o ≡ false → o ≡ None
there-none None e = refl
there-none (Some i) e = cc

there-some : (o : Option ℕ) → there o ≡ true → (i : ℕ) × (o ≡ Some i)
there-some None e = absurd (true≢false (sym e))
there-some (Some i) e = (i, refl)

-- a test that isn't false
true-unless : (b : Bool) → (b ≡ false → ⊥) → b ≡ true
true-unless true h = refl
true-unless false h = absurd (h refl)

-- no syllable is at fault: each unfolds
pub syllables-unfold : (m : Mapping) → faulty_syllable m ≡ false → (c : ℕ) → syllable c ≡ true → unfolds m c ≡ true
unfolding faulty_syllable
syllables-unfold m e c is =
    let test : ℕ → Bool = λ s. not (unfolds m (s_base + s)) in
    let bounds = syllable-bounds c is in
    let passed = lowest-none test s_count (there-none (lowest test s_count) e) (c - s_base) (omega (arith, bounds)) in
    let same : s_base + (c - s_base) ≡ c = omega (arith, bounds) in
    rw same at (not-false (unfolds m (s_base + (c - s_base))) passed)

-- each unfolds: none is at fault
pub syllables-sound : (m : Mapping) → ((c : ℕ) → syllable c ≡ true → unfolds m c ≡ true) → faulty_syllable m ≡ false
unfolding faulty_syllable
syllables-sound m h =
    let test : ℕ → Bool = λ s. not (unfolds m (s_base + s)) in
    ap there (lowest-nowhere test s_count (λ s l. ap not (h (s_base + s) (is s l))))
  where
    is : (s : ℕ) → s < s_count → syllable (s_base + s) ≡ true
    is s l = syllable-within (s_base + s) (omega arith) (omega arith)

-- a syllable is at fault: there is one that doesn't unfold
pub syllable-fails : (m : Mapping) → faulty_syllable m ≡ true → (c : ℕ) × (syllable c ≡ true) × (unfolds m c ≡ false)
unfolding faulty_syllable
syllable-fails m e =
    let test : ℕ → Bool = λ s. not (unfolds m (s_base + s)) in
    let found = there-some (lowest test s_count) e in
    let at = lowest-some test s_count found.0 found.1 in
    (s_base + found.0, syllable-within (s_base + found.0) (omega arith) (omega (arith, at.below)), not-true _ at.holds)

-- one that doesn't is enough
pub syllable-faulty : (m : Mapping) (c : ℕ) → syllable c ≡ true → (unfolds m c ≡ true → ⊥) → faulty_syllable m ≡ true
syllable-faulty m c is fails = true-unless (faulty_syllable m) (λ sound. fails (syllables-unfold m sound c is))

-- ---- a code point by its parts

module _ {m : Mapping} {c : ℕ} {ps : List ℕ} (s : Split m c ps) where
  -- 7 passes it exactly when each part is within one level less, and all together are at most 32 code points
  unfolds-parts : unfolds m c ≡ (all (λ p. within m jamo_levels p) ps && leb (total (size m) ps) full_most)
  unfolds-parts =
      rw (
        within-parts s levels_most (omega arith),
        full-parts s levels_most (omega arith),
        length-each (λ p. full m jamo_levels p) ps,
      )

  unfolds→parts : unfolds m c ≡ true → (all (λ p. within m jamo_levels p) ps ≡ true) × (total (size m) ps ≤ full_most)
  unfolds→parts e =
      let h = both (all (λ p. within m jamo_levels p) ps) (leb (total (size m) ps) full_most) (sym unfolds-parts ∙ e) in
      (h.0, leb-true (total (size m) ps) full_most h.1)

  parts→unfolds : all (λ p. within m jamo_levels p) ps ≡ true → total (size m) ps ≤ full_most → unfolds m c ≡ true
  parts→unfolds level small =
      unfolds-parts
      ∙ join (all (λ p. within m jamo_levels p) ps) (leb (total (size m) ps) full_most) level
      (le-leb (total (size m) ps) full_most small)

-- ---- every syllable by its jamo, over a mapping that has the syllables by rule

module _ (m : Mapping) (rule : (c : ℕ) → syllable c ≡ true → m.parts c ≡ syllable_parts c) where
  -- the parts of a combination of jamo
  abbrev jamo : ℕ → ℕ → ℕ → List ℕ
  jamo l v t = (l_base + l) ∷ (v_base + v) ∷ cond (eqb t 0) [] ((t_base + t) ∷ [])

  composed-split : (l v t : ℕ) → l < l_count → v < v_count → t < t_count → Split m (composed l v t) (jamo l v t)
  composed-split l v t x y z = record {
    parts = sym (rule (composed l v t) (composed-syllable l v t x y z) ∙ parts-composed l v t y z);
    some = omega arith;
  }

  composed-three : (l v t : ℕ) → l < l_count → v < v_count → suc t < t_count
      → Split m (composed l v (suc t)) ((l_base + l) ∷ (v_base + v) ∷ (t_base + suc t) ∷ [])
  composed-three l v t x y z =
      let trailing : eqb (suc t) 0 ≡ false = ne_eqb (suc t) 0 (λ e. omega arith) in
      rw trailing at (composed-split l v (suc t) x y z)

  -- a syllable with no trailing consonant unfolds
  two-fit : (l v : ℕ) → l < l_count → v < v_count → faulty_syllable m ≡ false
      → (within m jamo_levels (l_base + l) ≡ true)
      × (within m jamo_levels (v_base + v) ≡ true)
      × (size m (l_base + l) + size m (v_base + v) ≤ full_most)
  unfolding total
  two-fit l v x y sound =
      let z : 0 < t_count = omega arith in
      let well = syllables-unfold m sound (composed l v 0) (composed-syllable l v 0 x y z) in
      let h = unfolds→parts (composed-split l v 0 x y z) well in
      let first = all_first (λ p. within m jamo_levels p) (l_base + l) ((v_base + v) ∷ []) h.0 in
      let rest = all_rest (λ p. within m jamo_levels p) (l_base + l) ((v_base + v) ∷ []) h.0 in
      (first, all_first (λ p. within m jamo_levels p) (v_base + v) [] rest, omega (arith, h.1))

  -- and one with a trailing consonant
  three-fit : (l v t : ℕ) → l < l_count → v < v_count → suc t < t_count → faulty_syllable m ≡ false
      → (within m jamo_levels (t_base + suc t) ≡ true)
      × (size m (l_base + l) + size m (v_base + v) + size m (t_base + suc t) ≤ full_most)
  unfolding total
  three-fit l v t x y z sound =
      let well = syllables-unfold m sound (composed l v (suc t)) (composed-syllable l v (suc t) x y z) in
      let h = unfolds→parts (composed-three l v t x y z) well in
      let two = (v_base + v) ∷ (t_base + suc t) ∷ [] in
      let rest = all_rest (λ p. within m jamo_levels p) (l_base + l) two h.0 in
      let last = all_rest (λ p. within m jamo_levels p) (v_base + v) ((t_base + suc t) ∷ []) rest in
      (all_first (λ p. within m jamo_levels p) (t_base + suc t) [] last, omega (arith, h.1))

  -- a leading consonant that doesn't fit
  pub leading-faulty : largest m full_most l_base l_count ≡ None → faulty_syllable m ≡ true
  leading-faulty e =
      let l = largest-none m full_most l_base l_count e in
      true-unless (faulty_syllable m) λ sound.
      (let fit = two-fit l.0 0 l.1 (omega arith) sound in
      too_much m full_most (l_base + l.0) l.2 fit.0 (omega (arith, fit.2)))

  module _ (a : ℕ) (leading : largest m full_most l_base l_count ≡ Some a) where
    -- a vowel that doesn't fit beside the largest leading consonant
    pub vowel-faulty : largest m (full_most - a) v_base v_count ≡ None → faulty_syllable m ≡ true
    vowel-faulty e =
        let l = largest-one m full_most l_base l_count a (omega arith) leading in
        let v = largest-none m (full_most - a) v_base v_count e in
        true-unless (faulty_syllable m) λ sound.
        (let fit = two-fit l.0 v.0 l.1 v.1 sound in
        too_much m (full_most - a) (v_base + v.0) v.2 fit.1 (omega (arith, fit.2, l.2)))

    module _ (b : ℕ) (vowel : largest m (full_most - a) v_base v_count ≡ Some b) where
      -- a trailing consonant that doesn't fit beside the largest of both
      pub trailing-faulty : largest m (full_most - a - b) (t_base + 1) (t_count - 1) ≡ None → faulty_syllable m ≡ true
      trailing-faulty e =
          let l = largest-one m full_most l_base l_count a (omega arith) leading in
          let v = largest-one m (full_most - a) v_base v_count b (omega arith) vowel in
          let t = largest-none m (full_most - a - b) (t_base + 1) (t_count - 1) e in
          let same : t_base + 1 + t.0 ≡ t_base + suc t.0 = omega arith in
          true-unless (faulty_syllable m) λ sound.
          (let fit = three-fit l.0 v.0 t.0 l.1 v.1 (omega (arith, t.1)) sound in
          too_much m (full_most - a - b) (t_base + suc t.0) (rw same at t.2) fit.0 (omega (arith, fit.1, l.2, v.2)))

      -- all fit: no syllable is at fault
      pub jamo-sound : (d : ℕ) → largest m (full_most - a - b) (t_base + 1) (t_count - 1) ≡ Some d → faulty_syllable m ≡ false
      unfolding total
      jamo-sound d trailing = syllables-sound m sound
        where
          passes : (l v t : ℕ) → l < l_count → v < v_count → t < t_count → unfolds m (composed l v t) ≡ true
          passes l v zero x y z =
              let one = largest-each m full_most l_base l_count a leading l x in
              let two = largest-each m (full_most - a) v_base v_count b vowel v y in
              parts→unfolds (composed-split l v 0 x y z)
              (rw (one.0, two.0))
              (omega (
                arith,
                one.1,
                two.1,
                largest-room m full_most l_base l_count a leading,
                largest-room m (full_most - a) v_base v_count b vowel,
              ))
          passes l v (suc t) x y z =
              let one = largest-each m full_most l_base l_count a leading l x in
              let two = largest-each m (full_most - a) v_base v_count b vowel v y in
              let three = largest-each m (full_most - a - b) (t_base + 1) (t_count - 1) d trailing t (omega arith) in
              let same : t_base + 1 + t ≡ t_base + suc t = omega arith in
              let last = rw same at three in
              parts→unfolds (composed-three l v t x y z)
              (rw (one.0, two.0, last.0))
              (omega (
                arith,
                one.1,
                two.1,
                last.1,
                largest-room m full_most l_base l_count a leading,
                largest-room m (full_most - a) v_base v_count b vowel,
                largest-room m (full_most - a - b) (t_base + 1) (t_count - 1) d trailing,
              ))

          sound : (c : ℕ) → syllable c ≡ true → unfolds m c ≡ true
          sound c is =
              let k = syllable-composed c is in
              rw k.is (passes k.leading k.vowel k.trailing k.leading-below k.vowel-below k.trailing_below)

-- so of a table: the measurements of 67 jamo say that no syllable is at fault
pub table-syllables : (t : Table) (a b d : ℕ)
    → largest (mapping_of t) full_most l_base l_count ≡ Some a
    → largest (mapping_of t) (full_most - a) v_base v_count ≡ Some b
    → largest (mapping_of t) (full_most - a - b) (t_base + 1) (t_count - 1) ≡ Some d
    → faulty_syllable (mapping_of t) ≡ false
table-syllables t a b d leading vowel trailing =
    jamo-sound (mapping_of t) (parts_of-syllable t) a leading b vowel d trailing
