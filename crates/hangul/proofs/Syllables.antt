-- Laws of syllables: which code points are syllables, their parts by cases, that composing undoes decomposing, and that every
-- combination of jamo is a syllable.
-- Assumes nothing.
use mathlib.Core.Path.{◌≡◌, refl}
use Prim.Native.Nat.{ℕ, ◌+◌, ◌-◌, ◌/◌, ◌%◌, ◌≤◌, ◌<◌}
use native.Mathlib.Decide.{dec_lt, ℕ_discrete}
use native.Mathlib.Omega.{arith}
use mathlib.Core.Bool.{true, false, cond, ◌&&◌}
use mathlib.Core.List.{[], ◌∷◌}
use lib.Dec.{leb, ltb, eqb}
use borrow.Author.Tests.{leb-true, ltb-true, le-leb, lt-leb, lt-ltb, le-ltb, eq-eqb, ne_eqb}
use lib.ListN.{length}
use Rattle.terms.specs.CodePoints.{scalar}
use Rattle.terms.specs.Lists.{all}
use Rattle.terms.proofs.Lists.{all-mono}
use Rattle.terms.proofs.Tests.{both}
use Rattle.hangul.specs.Hangul.{s_base, l_base, v_base, t_base, l_count, v_count, t_count, n_count, s_count, syllable}
use Rattle.hangul.specs.Hangul.{syllable_parts, composed}
use Rattle.hangul.specs.Promises.{jamo_of}

-- ---- syllable

-- one below the first is none
pub syllable-below : (c : ℕ) → c < s_base → syllable c ≡ false
unfolding syllable
syllable-below c l = rw (lt-leb s_base c l)

-- from the first on, the distance decides
pub syllable-from : (c : ℕ) → s_base ≤ c → syllable c ≡ ltb (c - s_base) s_count
unfolding syllable
syllable-from c l = rw (le-leb s_base c l) (go (dec_lt c (s_base + s_count)))
  where
    go : Dec (c < s_base + s_count) → ltb c (s_base + s_count) ≡ ltb (c - s_base) s_count
    go (yes m) = rw (lt-ltb c (s_base + s_count) m, lt-ltb (c - s_base) s_count (omega arith))
    go (no m) = rw (le-ltb c (s_base + s_count) (omega arith), le-ltb (c - s_base) s_count (omega arith))

-- where a syllable stands
pub syllable-bounds : (c : ℕ) → syllable c ≡ true → (s_base ≤ c) × (c < s_base + s_count)
unfolding syllable
syllable-bounds c e =
    let h = both (leb s_base c) (ltb c (s_base + s_count)) e in
    (leb-true s_base c h.0, ltb-true c (s_base + s_count) h.1)

-- and every code point there is one
pub syllable-within : (c : ℕ) → s_base ≤ c → c < s_base + s_count → syllable c ≡ true
unfolding syllable
syllable-within c l m = rw (le-leb s_base c l, lt-ltb c (s_base + s_count) m)

-- ---- parts

-- with no trailing consonant
pub parts-two : (c : ℕ) → (c - s_base) % t_count ≡ 0
    → syllable_parts c ≡ (l_base + (c - s_base) / n_count) ∷ (v_base + (c - s_base) % n_count / t_count) ∷ []
unfolding syllable_parts
parts-two c e = rw (eq-eqb ((c - s_base) % t_count) 0 e)

-- with one
pub parts-three : (c : ℕ) → ((c - s_base) % t_count ≡ 0 → ⊥)
    → syllable_parts c
    ≡ (l_base + (c - s_base) / n_count) ∷ (v_base + (c - s_base) % n_count / t_count) ∷ (t_base + (c - s_base) % t_count) ∷ []
unfolding syllable_parts
parts-three c ne = rw (ne_eqb ((c - s_base) % t_count) 0 ne)

-- its jamo are told by three numbers
pub length-jamo_of : (c : ℕ) → 3 ≡ length (jamo_of c)
unfolding jamo_of
length-jamo_of c = refl

-- the jamo of a syllable are in U+1100 to U+11C2
pub parts-jamo : (c : ℕ) → syllable c ≡ true → all (λ j. leb 0x1100 j && leb j 0x11C2) (syllable_parts c) ≡ true
parts-jamo c is = go (ℕ_discrete ((c - s_base) % t_count) 0)
  where
    bounds : (s_base ≤ c) × (c < s_base + s_count)
    bounds = syllable-bounds c is

    among : (x : ℕ) → 0x1100 ≤ x → x ≤ 0x11C2 → leb 0x1100 x && leb x 0x11C2 ≡ true
    among x l h = rw (le-leb 0x1100 x l, le-leb x 0x11C2 h)

    leading : leb 0x1100 (l_base + (c - s_base) / n_count) && leb (l_base + (c - s_base) / n_count) 0x11C2 ≡ true
    leading = among (l_base + (c - s_base) / n_count) (omega arith) (omega (arith, bounds))

    vowel : leb 0x1100 (v_base + (c - s_base) % n_count / t_count) && leb (v_base + (c - s_base) % n_count / t_count) 0x11C2 ≡ true
    vowel = among (v_base + (c - s_base) % n_count / t_count) (omega arith) (omega arith)

    trailing : leb 0x1100 (t_base + (c - s_base) % t_count) && leb (t_base + (c - s_base) % t_count) 0x11C2 ≡ true
    trailing = among (t_base + (c - s_base) % t_count) (omega arith) (omega arith)

    go : Dec ((c - s_base) % t_count ≡ 0) → all (λ j. leb 0x1100 j && leb j 0x11C2) (syllable_parts c) ≡ true
    go (yes e) = rw (parts-two c e, leading, vowel)
    go (no ne) = rw (parts-three c ne, leading, vowel, trailing)

-- so they are scalar
pub parts-scalar : (c : ℕ) → syllable c ≡ true → all scalar (syllable_parts c) ≡ true
parts-scalar c is = all-mono (λ j. leb 0x1100 j && leb j 0x11C2) scalar low (syllable_parts c) (parts-jamo c is)
  where
    low : (j : ℕ) → leb 0x1100 j && leb j 0x11C2 ≡ true → scalar j ≡ true
    low j e =
        let most = leb-true j 0x11C2 (both (leb 0x1100 j) (leb j 0x11C2) e).1 in
        rw (le-leb j 0x10FFFF (omega arith), lt-leb 0xD800 j (omega arith))

-- ---- composition

-- every combination of jamo is a syllable
pub composed-syllable : (l v t : ℕ) → l < l_count → v < v_count → t < t_count → syllable (composed l v t) ≡ true
composed-syllable l v t x y z =
    syllable-within (composed l v t) (omega arith) (omega arith)

-- whose parts they are
pub parts-composed : (l v t : ℕ) → v < v_count → t < t_count
    → syllable_parts (composed l v t) ≡ (l_base + l) ∷ (v_base + v) ∷ cond (eqb t 0) [] ((t_base + t) ∷ [])
unfolding syllable_parts
parts-composed l v t y z =
    let s = composed l v t - s_base in
    let leading : s / n_count ≡ l = omega arith in
    let vowel : s % n_count / t_count ≡ v = omega arith in
    let trailing : s % t_count ≡ t = omega arith in
    rw (leading, vowel, trailing)

-- the jamo of a syllable, each counted from its base
pub record Composed (c : ℕ) : Type 0 where
  pub leading : ℕ
  pub vowel : ℕ
  pub trailing : ℕ
  pub leading-below : leading < l_count
  pub vowel-below : vowel < v_count
  pub trailing_below : trailing < t_count
  pub is : c ≡ composed leading vowel trailing

-- every syllable is composed of some
pub syllable-composed : (c : ℕ) → syllable c ≡ true → Composed c
syllable-composed c e =
    let bounds = syllable-bounds c e in
    record {
      leading = (c - s_base) / n_count;
      vowel = (c - s_base) % n_count / t_count;
      trailing = (c - s_base) % t_count;
      leading-below = omega (arith, bounds);
      vowel-below = omega arith;
      trailing_below = omega arith;
      is = omega (arith, bounds);
    }
