-- How much the published steps can ask and write, over any mapping and over one whose code points all unfold within 8 levels
-- into at most 32 code points; and that a mapping to scalar code points expands scalar ones into scalar ones.
-- Assumes nothing.
use mathlib.Core.Path.{◌≡◌, refl}
use Prim.Native.Nat.{ℕ, zero, suc, ◌+◌, ◌*◌, ◌≤◌}
use native.Mathlib.Nat.{suc-mul}
use native.Mathlib.Omega.{arith}
use mathlib.Core.Bool.{true, cond, and-eq-true_iff}
use mathlib.Core.List.{List, [], ◌∷◌}
use lib.Dec.{leb}
use lib.ListN.{length, length-append}
use borrow.Author.Tests.{leb-true}
use Rattle.terms.specs.CodePoints.{scalar}
use Rattle.terms.specs.Lists.{all, empty, each, total}
use Rattle.terms.specs.Refusals.{levels_most, full_most}
use Rattle.terms.proofs.Lists.{all_cons, all-mono, all-each, length-each, total_mono, total-mul, total-most}
use Rattle.table.specs.Mapping.{Mapping}
use Rattle.utf8.specs.Utf8.{Character, encode, encodes}
use Rattle.utf8.proofs.Encode.{encode-width}
use Rattle.decompose.specs.Levels.{within, full, asks}
use Rattle.decompose.specs.Steps.{expansion, expanded, lookups, steps_key, steps_lookups}
use Rattle.decompose.specs.TableCheck.{unfolds}

-- ---- any mapping

-- pieces that each have an element join to a list with one, if there is a piece
each-some : (f : ℕ → List ℕ) → ((x : ℕ) → 1 ≤ length (f x)) → (x : ℕ) (xs : List ℕ) → 1 ≤ length (each f (x ∷ xs))
unfolding each
each-some f h x xs = omega (arith, h x, length-append (f x) (each f xs))

-- a full decomposition has a code point
pub full-some : (m : Mapping) (n c : ℕ) → 1 ≤ length (full m n c)
unfolding full
full-some m zero c = omega arith
full-some m (suc n) c = go (full-some m n) (m.parts c)
  where
    go : ((p : ℕ) → 1 ≤ length (full m n p)) → (ps : List ℕ)
        → 1 ≤ length (cond (empty ps) (c ∷ []) (each (λ p. full m n p) ps))
    go f [] = omega arith
    go f (p ∷ ps) = each-some (λ p. full m n p) f p ps

-- parts' unfoldings together ask as often as the code points that they give allow, if each one does
total-asks-most : (m : Mapping) (n : ℕ) → ((p : ℕ) → asks m n p ≤ 1 + n * length (full m n p)) → (ps : List ℕ)
    → total (λ p. asks m n p) ps ≤ suc n * length (each (λ p. full m n p) ps)
total-asks-most m n f ps =
    rw (length-each (λ p. full m n p) ps, ← total-mul (suc n) (λ p. length (full m n p)) ps)
    (total_mono (λ p. asks m n p) (λ p. suc n * length (full m n p)) one ps)
  where
    one : (p : ℕ) → asks m n p ≤ suc n * length (full m n p)
    one p = omega (arith, f p, full-some m n p, suc-mul n (length (full m n p)))

-- an unfolding asks once, and at most n times for each code point that it gives
pub asks-most : (m : Mapping) (n c : ℕ) → asks m n c ≤ 1 + n * length (full m n c)
unfolding full asks total
asks-most m zero c = omega arith
asks-most m (suc n) c = go (total-asks-most m n (asks-most m n)) (m.parts c)
  where
    go : ((ps : List ℕ) → total (λ p. asks m n p) ps ≤ suc n * length (each (λ p. full m n p) ps)) → (ps : List ℕ)
        → suc (total (λ p. asks m n p) ps) ≤ 1 + suc n * length (cond (empty ps) (c ∷ []) (each (λ p. full m n p) ps))
    go f [] = omega arith
    go f (p ∷ ps) = omega (arith, f (p ∷ ps))

-- ---- octets

-- code points have at most 4 octets each
pub length-encodes : (cs : List ℕ) → length (encodes cs) ≤ 4 * length cs
length-encodes cs = rw (length-each encode cs) (total-most 4 (λ c. length (encode c)) (λ c. (encode-width c).1) cs)

-- ---- a mapping whose code points all unfold

-- a full decomposition has at most 32 code points
pub full-most : (m : Mapping) (c : ℕ) → unfolds m c ≡ true → length (full m levels_most c) ≤ full_most
full-most m c ok =
    leb-true (length (full m levels_most c)) full_most
    ((and-eq-true_iff (within m levels_most c) (leb (length (full m levels_most c)) full_most)).0 ok).1

module _ (m : Mapping) (ok : (c : ℕ) → unfolds m c ≡ true) where
  -- a code point takes at most 258 lookups
  pub lookups-most : (c : ℕ) → lookups m c ≤ 258
  lookups-most c = omega (arith, asks-most m levels_most (m.title c), full-most m (m.title c) (ok (m.title c)))

  -- and becomes at most 128 octets
  pub expanded-most : (c : ℕ) → length (expanded m c) ≤ 128
  expanded-most c = omega (arith, length-encodes (expansion m c), full-most m (m.title c) (ok (m.title c)))

  -- characters take at most 258 lookups each
  pub steps_lookups-most : (chs : List Character) → steps_lookups m chs ≤ 258 * length chs
  unfolding steps_lookups
  steps_lookups-most chs =
      total-most 258 (λ (ch : Character). lookups m ch.code) (λ (ch : Character). lookups-most ch.code) chs

  -- and become at most 128 octets each
  pub steps_key-most : (chs : List Character) → length (steps_key m chs) ≤ 128 * length chs
  unfolding steps_key
  steps_key-most chs =
      rw (length-each (λ (ch : Character). expanded m ch.code) chs)
      (total-most 128 (λ (ch : Character). length (expanded m ch.code)) (λ (ch : Character). expanded-most ch.code) chs)

-- ---- a mapping to scalar code points

-- a scalar code point's full decomposition is scalar, if all parts are
pub full-scalar : (m : Mapping) → ((c : ℕ) → all scalar (m.parts c) ≡ true) → (n c : ℕ) → scalar c ≡ true
    → all scalar (full m n c) ≡ true
unfolding full
full-scalar m h zero c s = all_cons scalar c [] s refl
full-scalar m h (suc n) c s = go (full-scalar m h n) (m.parts c) (h c)
  where
    go : ((p : ℕ) → scalar p ≡ true → all scalar (full m n p) ≡ true) → (ps : List ℕ) → all scalar ps ≡ true
        → all scalar (cond (empty ps) (c ∷ []) (each (λ p. full m n p) ps)) ≡ true
    go f [] e = all_cons scalar c [] s refl
    go f (p ∷ ps) e =
        all-each scalar (λ p. full m n p) (p ∷ ps) (all-mono scalar (λ p. all scalar (full m n p)) f (p ∷ ps) e)

-- and so is what it becomes, if its titlecase code point is scalar too
pub expansion-scalar : (m : Mapping) → ((c : ℕ) → all scalar (m.parts c) ≡ true)
    → ((c : ℕ) → scalar c ≡ true → scalar (m.title c) ≡ true) → (c : ℕ) → scalar c ≡ true
    → all scalar (expansion m c) ≡ true
expansion-scalar m h t c s = full-scalar m h levels_most (m.title c) (t c s)
