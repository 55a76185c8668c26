-- Laws of levels over any mapping: a code point has at most one level, `within` says of what number a level is at most, and
-- `full` and `asks` do not depend on the number that they count down once it is at least the level.
-- Assumes nothing.
use mathlib.Core.Path.{◌≡◌, refl, ap, ap₂}
use Prim.Native.Nat.{ℕ, zero, suc, max, ◌≤◌}
use native.Mathlib.Omega.{arith}
use mathlib.Core.Bool.{true, cond}
use mathlib.Core.List.{List, [], ◌∷◌}
use Rattle.terms.specs.Lists.{all, empty, total}
use Rattle.terms.proofs.Lists.{all_first, all_rest, all_cons, each_same, total-same}
use Rattle.table.specs.Mapping.{Mapping}
use Rattle.decompose.specs.Levels.{Level, Highest, within, full, asks}
use Rattle.decompose.specs.Levels.Level.{whole, split}
use Rattle.decompose.specs.Levels.Highest.{done, more}

-- ---- Level

-- the level of a code point that does not decompose
unique-whole : (m : Mapping) {c b : ℕ} → m.parts c ≡ [] → Level m c b → 0 ≡ b
unique-whole m e (whole d) = refl
unique-whole m e (split d h) = absurd (d e)

-- the level of one that does, given that its parts' highest level is a alone
unique-split : (m : Mapping) {c a b : ℕ} → (m.parts c ≡ [] → ⊥) → ((k : ℕ) → Highest m (m.parts c) k → a ≡ k)
    → Level m c b → suc a ≡ b
unique-split m d f (whole e) = absurd (d e)
unique-split m d f (split {n = n} e h) = ap suc (f n h)

-- the highest level of no parts
unique-done : (m : Mapping) {b : ℕ} → Highest m [] b → 0 ≡ b
unique-done m done = refl

-- the highest level of one more part, given that its level is a alone and that of the others b alone
unique-more : (m : Mapping) {p : ℕ} {ps : List ℕ} {a b n : ℕ} → ((k : ℕ) → Level m p k → a ≡ k)
    → ((k : ℕ) → Highest m ps k → b ≡ k) → Highest m (p ∷ ps) n → max a b ≡ n
unique-more m f g (more {a = a} {b = b} l h) = ap₂ max (f a l) (g b h)

-- a code point has at most one level
pub level-unique : (m : Mapping) {c a b : ℕ} → Level m c a → Level m c b → a ≡ b
level-unique m {b = b} l k = go l b k
  where
    go : {c a : ℕ} → Level m c a → (b : ℕ) → Level m c b → a ≡ b
    go l = elim l as
        (λ (c a : ℕ) (x : Level m c a). (b : ℕ) → Level m c b → a ≡ b)
        (λ (ps : List ℕ) (a : ℕ) (x : Highest m ps a). (b : ℕ) → Highest m ps b → a ≡ b) [
          | whole e ↦ λ b k. unique-whole m e k
          | split d (h → f) ↦ λ b k. unique-split m d f k
          | done ↦ λ b k. unique-done m k
          | more (l → f) (h → g) ↦ λ b k. unique-more m f g k
        ]

-- and parts at most one highest level
pub highest-unique : (m : Mapping) {ps : List ℕ} {a b : ℕ} → Highest m ps a → Highest m ps b → a ≡ b
highest-unique m done k = unique-done m k
highest-unique m (more l h) k =
    unique-more m (λ n i. level-unique m l i) (λ n i. highest-unique m h i) k

-- ---- within

-- a code point has a level, of at most n
pub record Leveled (m : Mapping) (n c : ℕ) : Type 0 where
  pub level : ℕ
  pub has : Level m c level
  pub most : level ≤ n

-- parts have a highest level, of at most n
record Topped (m : Mapping) (n : ℕ) (ps : List ℕ) : Type 0 where
  highest : ℕ
  has : Highest m ps highest
  most : highest ≤ n

-- the highest level among parts that each have one of at most n
parts→topped : (m : Mapping) (n : ℕ) → ((p : ℕ) → within m n p ≡ true → Leveled m n p) → (ps : List ℕ)
    → all (λ p. within m n p) ps ≡ true → Topped m n ps
parts→topped m n f [] e = record { highest = 0; has = done; most = omega arith }
parts→topped m n f (p ∷ ps) e =
    let a = f p (all_first (λ p. within m n p) p ps e) in
    let b = parts→topped m n f ps (all_rest (λ p. within m n p) p ps e) in
    record { highest = max a.level b.highest; has = more a.has b.has; most = omega arith }

-- a list that is empty by the test
pub empty-true : (xs : List ℕ) → empty xs ≡ true → xs ≡ []
empty-true [] e = refl
empty-true (x ∷ xs) e = cc

-- a code point within n levels has a level, of at most n
pub within→level : (m : Mapping) (n c : ℕ) → within m n c ≡ true → Leveled m n c
unfolding within
within→level m zero c e = record { level = 0; has = whole (empty-true (m.parts c) e); most = omega arith }
within→level m (suc n) c e = go (m.parts c) refl (parts→topped m n (within→level m n) (m.parts c) e)
  where
    go : (ps : List ℕ) → m.parts c ≡ ps → Topped m n (m.parts c) → Leveled m (suc n) c
    go [] q t = record { level = 0; has = whole q; most = omega arith }
    go (p ∷ ps) q t = record {
      level = suc t.highest;
      has = split (λ (r : m.parts c ≡ []). let z : ◌≡◌ {A = ℕ} 0 1 = cc in omega arith) t.has;
      most = omega arith;
    }

-- a code point that does not decompose is within any levels
pub within-whole : (m : Mapping) (c : ℕ) → m.parts c ≡ [] → (n : ℕ) → within m n c ≡ true
unfolding within
within-whole m c e zero = rw e
within-whole m c e (suc n) = rw e

-- a code point whose parts are within any levels from a on is within any levels above a
within-split : (m : Mapping) (c a : ℕ) → ((n : ℕ) → a ≤ n → all (λ p. within m n p) (m.parts c) ≡ true)
    → (n : ℕ) → suc a ≤ n → within m n c ≡ true
unfolding within
within-split m c a f zero h = absurd (omega arith)
within-split m c a f (suc n) h = f n (omega arith)

-- a code point with a level is within that many levels, and within any more
pub level→within : (m : Mapping) {c l : ℕ} → Level m c l → (n : ℕ) → l ≤ n → within m n c ≡ true
level→within m k =
    elim k as (λ (c a : ℕ) (x : Level m c a). (n : ℕ) → a ≤ n → within m n c ≡ true)
    (λ (ps : List ℕ) (a : ℕ) (x : Highest m ps a). (n : ℕ) → a ≤ n → all (λ p. within m n p) ps ≡ true) [
      | whole {c = c} e ↦ λ n h. within-whole m c e n
      | split {c = c} {n = a} d (i → f) ↦ within-split m c a f
      | done ↦ λ n h. refl
      | more {p = p} {ps = ps} (l → f) (i → g) ↦ λ n h.
          all_cons (λ p. within m n p) p ps (f n (omega arith)) (g n (omega arith))
    ]

-- parts with a highest level are each within that many levels, and within any more
pub highest→within : (m : Mapping) {ps : List ℕ} {l : ℕ} → Highest m ps l → (n : ℕ) → l ≤ n
    → all (λ p. within m n p) ps ≡ true
highest→within m done n h = refl
highest→within m (more {p = p} {ps = ps} k i) n h =
    all_cons (λ p. within m n p) p ps (level→within m k n (omega arith)) (highest→within m i n (omega arith))

-- ---- full, asks

-- a code point that does not decompose is its own full decomposition
pub full-whole : (m : Mapping) (n c : ℕ) → m.parts c ≡ [] → full m n c ≡ c ∷ []
unfolding full
full-whole m zero c e = refl
full-whole m (suc n) c e = rw e

-- and its unfolding is one ask
pub asks-whole : (m : Mapping) (n c : ℕ) → m.parts c ≡ [] → asks m n c ≡ 1
unfolding asks total
asks-whole m zero c e = refl
asks-whole m (suc n) c e = rw e

-- any number that is at least the level counts down to the same full decomposition
pub full-same : (m : Mapping) (n k c : ℕ) → within m n c ≡ true → n ≤ k → full m k c ≡ full m n c
unfolding within full
full-same m zero k c w h = full-whole m k c (empty-true (m.parts c) w)
full-same m (suc n) zero c w h = absurd (omega arith)
full-same m (suc n) (suc k) c w h =
    ap (cond (empty (m.parts c)) (c ∷ []))
    (each_same (λ p. full m k p) (λ p. full m n p) (λ p. within m n p)
    (λ p v. full-same m n k p v (omega arith)) (m.parts c) w)

-- and to the same asks
pub asks-same : (m : Mapping) (n k c : ℕ) → within m n c ≡ true → n ≤ k → asks m k c ≡ asks m n c
unfolding within asks
asks-same m zero k c w h = asks-whole m k c (empty-true (m.parts c) w)
asks-same m (suc n) zero c w h = absurd (omega arith)
asks-same m (suc n) (suc k) c w h =
    ap suc
    (total-same (λ p. asks m k p) (λ p. asks m n p) (λ p. within m n p)
    (λ p v. asks-same m n k p v (omega arith)) (m.parts c) w)
