-- What the walks over a code point's parts share: a code point that does not decompose, one that does, and that a bounded code
-- point has bounded parts.
-- Assumes nothing.
use mathlib.Core.Path.{◌≡◌, refl, sym, ap, ◌∙◌}
use Prim.Native.Nat.{ℕ, zero, suc, ◌+◌, ◌-◌, ◌≤◌, ◌<◌}
use native.Mathlib.Nat.{mul-le-mul}
use native.Mathlib.Numerals.{sub-one}
use native.Mathlib.Omega.{arith}
use mathlib.Core.Bool.{true, false, not}
use Rattle.std.specs.Prelude.{None}
use mathlib.Core.List.{List, [], ◌∷◌, append-nil}
use lib.Dec.{leb}
use lib.ListN.{length, get_or, take, length-append}
use borrow.Author.Tests.{not-false}
use Rattle.terms.specs.Lists.{all, empty, each, total, when, over}
use Rattle.terms.specs.Refusals.{levels_most, full_most}
use Rattle.terms.proofs.Lists.{all-at, each-take-more, length-each-take}
use Rattle.terms.proofs.Checks.{or_left, or_right}
use Rattle.terms.proofs.Tests.{both}
use Rattle.hangul.specs.Hangul.{syllable, syllable_parts}
use Rattle.table.specs.Mapping.{Mapping}
use Rattle.table.specs.Table.{Table, form_refusal, entry_parts, mapping_of}
use Rattle.table.proofs.Form.{parts_of-syllable, parts_of-other, parts_of-entry}
use Rattle.utf8.specs.Utf8.{encode, encodes}
use Rattle.utf8.specs.Promises.{Written}
use Rattle.decompose.specs.Levels.{within, full, asks}
use Rattle.decompose.specs.TableCheck.{unfolds}
use Rattle.decompose.specs.Promises.{measured, decomposing, Split, Listed, Bounded, Counted, Filled}
use Rattle.decompose.proofs.Levels.{empty-true, within-whole, full-whole, asks-whole}
use Rattle.decompose.proofs.Bounds.{asks-most, length-encodes, full-most}

-- ---- a code point that does not decompose

-- no parts were found
pub parts_none : (m : Mapping) (c : ℕ) (ps : List ℕ) → ps ≡ m.parts c → length ps ≡ 0 → m.parts c ≡ []
parts_none m c [] e h = sym e
parts_none m c (p ∷ ps) e h = absurd (omega arith)

-- it is measured as one code point
pub measured-whole : (m : Mapping) (n room c : ℕ) → m.parts c ≡ [] → measured m n room c ≡ when (leb 1 room) 1
measured-whole m n room c e = rw (within-whole m c e n, full-whole m n c e)

-- it passes 7
pub unfolds-whole : (m : Mapping) (c : ℕ) → m.parts c ≡ [] → unfolds m c ≡ true
unfolds-whole m c e = rw (within-whole m c e levels_most, full-whole m levels_most c e)

-- its octets
pub encodes-whole : (m : Mapping) (n c : ℕ) → m.parts c ≡ [] → encodes (full m n c) ≡ encode c
unfolding each
encodes-whole m n c e = rw (full-whole m n c e) (append-nil (encode c))

-- it is sized by them, and by one ask
pub counted-whole : (m : Mapping) (n c : ℕ) → m.parts c ≡ [] → (k : ℕ) → k ≡ length (encode c)
    → Counted (full m n c) (asks m n c) (record { octets = k; asks = 1 })
counted-whole m n c e k h = record {
  octets = h ∙ sym (ap length (encodes-whole m n c e));
  asked = sym (asks-whole m n c e);
}

-- and what is written of it are its octets
pub filled-whole : (m : Mapping) (n c : ℕ) → m.parts c ≡ [] → (slice : List ℕ) (k : ℕ) (after : List ℕ)
    → Written c slice k after
    → Filled (full m n c) (asks m n c) slice (record { octets = k; asks = 1 }) after
filled-whole m n c e slice k after w = record {
  counted = counted-whole m n c e k w.count;
  written = w.octets ∙ sym (ap (λ (l : List ℕ). over l slice) (encodes-whole m n c e));
}

-- ---- a code point that decomposes

-- parts were found
pub parts-some : {m : Mapping} {c : ℕ} {ps : List ℕ} → ps ≡ m.parts c → (length ps ≡ 0 → ⊥) → Split m c ps
parts-some e h = record { parts = e; some = omega arith }

-- a syllable has its jamo, over a table
pub syllable-split : (t : Table) (c : ℕ) {ps : List ℕ} → syllable c ≡ true → ps ≡ syllable_parts c → Split (mapping_of t) c ps
unfolding syllable_parts
syllable-split t c is e = record { parts = e ∙ sym (parts_of-syllable t c is); some = rw e (omega arith) }

-- ---- a code point by what the entries of a table say

module _ (t : Table) (c : ℕ) (ps : List ℕ) where
  -- it doesn't decompose: it has no parts
  pub listed-none : ps ≡ entry_parts t c → decomposing c ps ≡ false → (mapping_of t).parts c ≡ []
  listed-none e d =
      parts_of-other t c (or_right (not (empty ps)) (syllable c) d)
      ∙ sym e
      ∙ empty-true ps (not-false (empty ps) (or_left (not (empty ps)) (syllable c) d))

  -- it does: these are its parts, or it is a syllable
  pub listed-some : form_refusal t ≡ None → ps ≡ entry_parts t c → decomposing c ps ≡ true → Listed (mapping_of t) c ps
  listed-some form e d = record {
    parts = λ some-parts. e ∙ sym (parts_of-entry t form c (λ no-parts. some-parts (ap length (e ∙ no-parts))));
    by-rule = go ps d;
  }
    where
      go : (ps : List ℕ) → decomposing c ps ≡ true → length ps ≡ 0 → syllable c ≡ true
      go [] d h = d
      go (p ∷ ps) d h = absurd (omega arith)

  -- the jamo of a syllable are its parts
  pub listed-jamo : syllable c ≡ true → ps ≡ syllable_parts c → Listed (mapping_of t) c ps
  listed-jamo is e =
      let s = syllable-split t c is e in
      record { parts = λ some-parts. s.parts; by-rule = λ no-parts. is }

-- its parts are so
pub split-listed : {m : Mapping} {c : ℕ} {ps : List ℕ} → Split m c ps → Listed m c ps
split-listed s = record { parts = λ some-parts. s.parts; by-rule = λ no-parts. absurd (omega (arith, s.some)) }

-- parts that are there are its parts
pub listed-split : {m : Mapping} {c : ℕ} {ps : List ℕ} → Listed m c ps → (length ps ≡ 0 → ⊥) → Split m c ps
listed-split l h = parts-some (l.parts h) h

-- the full decompositions of parts, one after another
abbrev pub fulls : Mapping → ℕ → List ℕ → List ℕ
fulls m n ps = each (λ p. full m n p) ps

-- its parts are not empty
empty-some : (ps : List ℕ) → 0 < length ps → empty ps ≡ false
empty-some [] h = absurd (omega arith)
empty-some (p ∷ ps) h = refl

module _ {m : Mapping} {c : ℕ} {ps : List ℕ} (s : Split m c ps) where
  -- within n levels are its parts within one less
  pub within-parts : (n : ℕ) → 1 ≤ n → within m n c ≡ all (λ p. within m (n - 1) p) ps
  unfolding within
  within-parts zero h = absurd (omega arith)
  within-parts (suc n) h = rw (sub-one (suc n), s.parts)

  -- its full decomposition is that of its parts
  pub full-parts : (n : ℕ) → 1 ≤ n → full m n c ≡ fulls m (n - 1) ps
  unfolding full
  full-parts zero h = absurd (omega arith)
  full-parts (suc n) h = rw (sub-one (suc n), ← s.parts, empty-some ps s.some)

  -- and its asks are one and those of its parts
  pub asks-parts : (n : ℕ) → 1 ≤ n → asks m n c ≡ suc (total (λ p. asks m (n - 1) p) ps)
  unfolding asks
  asks-parts zero h = absurd (omega arith)
  asks-parts (suc n) h = rw (sub-one (suc n), s.parts)

  -- it is within no levels
  pub within_none : within m 0 c ≡ false
  unfolding within
  within_none = rw (← s.parts) (empty-some ps s.some)

-- ---- bounds

-- a code point that 7 passes is bounded
pub bounded_unfolds : (m : Mapping) (c : ℕ) → unfolds m c ≡ true → Bounded m levels_most c
bounded_unfolds m c e = record {
  levels = omega arith;
  level = (both (within m levels_most c) (leb (length (full m levels_most c)) full_most) e).0;
  size = full-most m c e;
}

-- a part's full decomposition is no longer than all together
part-most : (f : ℕ → List ℕ) (ps : List ℕ) (i : ℕ) → i < length ps → length (f (get_or ps i 0)) ≤ length (each f ps)
part-most f ps i l =
    omega (
      arith,
      length-each-take f ps (i + 1),
      ap length (each-take-more f ps i 0 l),
      length-append (each f (take i ps)) (f (get_or ps i 0)),
    )

module _ {m : Mapping} {n c : ℕ} (b : Bounded m n c) where
  -- a bounded code point becomes at most 128 octets
  pub bounded-octets : length (encodes (full m n c)) ≤ 128
  bounded-octets = omega (arith, length-encodes (full m n c), b.size)

  -- and takes at most 257 asks
  pub bounded-asks : asks m n c ≤ 257
  bounded-asks = omega (arith, asks-most m n c, mul-le-mul b.levels b.size)

-- one that decomposes has a level left
some-levels : {m : Mapping} {c : ℕ} {ps : List ℕ} → Split m c ps → (n : ℕ) → within m n c ≡ true → 1 ≤ n
some-levels s zero holds =
    let fails = within_none s in
    let z : ◌≡◌ {A = ℕ} 0 1 = cc in
    omega arith
some-levels s (suc n) holds = omega arith

pub bounded-levels : {m : Mapping} {n c : ℕ} {ps : List ℕ} → Bounded m n c → Split m c ps → 1 ≤ n
bounded-levels {n = n} b s = some-levels s n b.level

-- and its parts are bounded, one level down
pub bounded-part : {m : Mapping} {n c : ℕ} {ps : List ℕ} → Bounded m n c → Split m c ps → (i : ℕ) → i < length ps
    → Bounded m (n - 1) (get_or ps i 0)
bounded-part {m} {n} {c} {ps} b s i l =
    let h = bounded-levels b s in
    record {
      levels = omega (arith, b.levels);
      level = all-at (λ p. within m (n - 1) p) ps i 0 (sym (within-parts s n h) ∙ b.level) l;
      size = omega (arith, part-most (λ p. full m (n - 1) p) ps i l, ap length (full-parts s n h), b.size);
    }
