-- Laws of unfolding as a relation: a code point unfolds in at most one way, and one with a level of at most n into what
-- `full` and `asks` say when they count down from n. So no default of these two is reached where a level is within the count.
-- Assumes nothing.
use mathlib.Core.Path.{◌≡◌, refl, ap, ap₂}
use Prim.Native.Nat.{ℕ, zero, suc, ◌+◌, ◌≤◌}
use native.Mathlib.Omega.{arith}
use mathlib.Core.Bool.{true, cond}
use mathlib.Core.List.{List, [], ◌∷◌, ◌++◌}
use Rattle.terms.specs.Lists.{all, empty, each, total}
use Rattle.terms.proofs.Lists.{all_first, all_rest}
use Rattle.table.specs.Mapping.{Mapping}
use Rattle.utf8.specs.Utf8.{Character, encodes}
use Rattle.decompose.specs.Levels.{Level, Unfolds, UnfoldEach, within, full, asks}
use Rattle.decompose.specs.Levels.Unfolds.{stays, decomposes}
use Rattle.decompose.specs.Levels.UnfoldEach.{none_left, part}
use Rattle.decompose.specs.Steps.{StepsGive}
use Rattle.decompose.specs.Steps.StepsGive.{no-character, character}
use Rattle.decompose.proofs.Levels.{level→within, empty-true}

-- ---- one way

-- the same code points, and the same asks
abbrev Same : List ℕ → ℕ → List ℕ → ℕ → Type 0
Same codes asked others again = (codes ≡ others) × (asked ≡ again)

-- of a code point that does not decompose
same-stays : (m : Mapping) {c : ℕ} {codes : List ℕ} {asked : ℕ} → m.parts c ≡ [] → Unfolds m c codes asked
    → Same (c ∷ []) 1 codes asked
same-stays m e (stays d) = (refl, refl)
same-stays m e (decomposes d u) = absurd (d e)

-- of one that does, given that its parts unfold in one way
same-decomposes : (m : Mapping) {c : ℕ} {codes others : List ℕ} {asked again : ℕ}
    → (m.parts c ≡ [] → ⊥)
    → ((xs : List ℕ) (k : ℕ) → UnfoldEach m (m.parts c) xs k → Same codes asked xs k)
    → Unfolds m c others again
    → Same codes (suc asked) others again
same-decomposes m d f (stays e) = absurd (d e)
same-decomposes m d f (decomposes {codes = codes} {asked = asked} e u) = ((f codes asked u).0, ap suc (f codes asked u).1)

-- of no parts
same_none : (m : Mapping) {codes : List ℕ} {asked : ℕ} → UnfoldEach m [] codes asked → Same [] 0 codes asked
same_none m none_left = (refl, refl)

-- of one more part
same-part : (m : Mapping) {p : ℕ} {ps codes rest others : List ℕ} {asked later again : ℕ}
    → ((xs : List ℕ) (k : ℕ) → Unfolds m p xs k → Same codes asked xs k)
    → ((xs : List ℕ) (k : ℕ) → UnfoldEach m ps xs k → Same rest later xs k)
    → UnfoldEach m (p ∷ ps) others again
    → Same (codes ++ rest) (asked + later) others again
same-part m f g (part {codes = codes} {rest = rest} {asked = asked} {later = later} u v) = (
  ap₂ ◌++◌ (f codes asked u).0 (g rest later v).0,
  ap₂ ◌+◌ (f codes asked u).1 (g rest later v).1,
)

-- a code point unfolds into one list of code points, with one number of asks
pub unfolds-unique : (m : Mapping) {c : ℕ} {codes others : List ℕ} {asked again : ℕ} → Unfolds m c codes asked
    → Unfolds m c others again
    → (codes ≡ others) × (asked ≡ again)
unfolds-unique m {others = others} {again = again} u v = go u others again v
  where
    go : {c : ℕ} {codes : List ℕ} {asked : ℕ} → Unfolds m c codes asked → (xs : List ℕ) (k : ℕ) → Unfolds m c xs k
        → Same codes asked xs k
    go u = elim u as
        (λ (c : ℕ) (codes : List ℕ) (asked : ℕ) (x : Unfolds m c codes asked). (xs : List ℕ)
        (k : ℕ) → Unfolds m c xs k → Same codes asked xs k)
        (λ (ps codes : List ℕ) (asked : ℕ) (x : UnfoldEach m ps codes asked). (xs : List ℕ)
        (k : ℕ) → UnfoldEach m ps xs k → Same codes asked xs k) [
          | stays e ↦ λ xs k v. same-stays m e v
          | decomposes d (u → f) ↦ λ xs k v. same-decomposes m d f v
          | none_left ↦ λ xs k v. same_none m v
          | part (u → f) (w → g) ↦ λ xs k v. same-part m f g v
        ]

-- the published steps give one key, with one number of lookups
pub steps-unique : (m : Mapping) {chs : List Character} {key other : List ℕ} {n k : ℕ} → StepsGive m chs key n
    → StepsGive m chs other k
    → (key ≡ other) × (n ≡ k)
steps-unique m no-character no-character = (refl, refl)
steps-unique m (character u s) (character v t) =
    let here = unfolds-unique m u v in
    let later = steps-unique m s t in
    (ap₂ (λ (xs ys : List ℕ). encodes xs ++ ys) here.0 later.0, ap₂ (λ (a b : ℕ). suc a + b) here.1 later.1)

-- ---- counting down

-- parts within n levels unfold, each into what counting down from n gives
parts-unfold : (m : Mapping) (n : ℕ) → ((p : ℕ) → within m n p ≡ true → Unfolds m p (full m n p) (asks m n p)) → (ps : List ℕ)
    → all (λ p. within m n p) ps ≡ true → UnfoldEach m ps (each (λ p. full m n p) ps) (total (λ p. asks m n p) ps)
unfolding each total
parts-unfold m n f [] e = none_left
parts-unfold m n f (p ∷ ps) e =
    part (f p (all_first (λ p. within m n p) p ps e)) (parts-unfold m n f ps (all_rest (λ p. within m n p) p ps e))

-- a code point within n levels unfolds into what counting down from n gives
pub within→unfolds : (m : Mapping) (n c : ℕ) → within m n c ≡ true → Unfolds m c (full m n c) (asks m n c)
unfolding within full asks each total
within→unfolds m zero c e = stays (empty-true (m.parts c) e)
within→unfolds m (suc n) c e = go (m.parts c) refl (parts-unfold m n (within→unfolds m n) (m.parts c) e)
  where
    go : (ps : List ℕ) → m.parts c ≡ ps
        → UnfoldEach m (m.parts c) (each (λ p. full m n p) (m.parts c)) (total (λ p. asks m n p) (m.parts c))
        → Unfolds m c (cond (empty (m.parts c)) (c ∷ []) (each (λ p. full m n p) (m.parts c)))
        (suc (total (λ p. asks m n p) (m.parts c)))
    go [] q u = rw q (stays q)
    go (p ∷ ps) q u =
        let Some : m.parts c ≡ [] → ⊥ = λ r. (let z : ◌≡◌ {A = ℕ} 0 1 = cc in omega arith) in
        rw (ap empty q) (decomposes Some u)

-- so does one with a level of at most n
pub level→unfolds : (m : Mapping) {c l : ℕ} → Level m c l → (n : ℕ) → l ≤ n → Unfolds m c (full m n c) (asks m n c)
level→unfolds m level n most = within→unfolds m n _ (level→within m level n most)
