-- "A code point in a cycle, or leading into one, has no level."
-- Assumes nothing.
use mathlib.Core.Path.{◌≡◌, sym, ◌∙◌}
use Prim.Native.Nat.{ℕ, suc, ◌<◌}
use native.Mathlib.Omega.{arith}
use mathlib.Core.List.{List, [], ◌∷◌, ◌++◌}
use Rattle.terms.specs.Lists.{In}
use Rattle.table.specs.Mapping.{Mapping}
use Rattle.decompose.specs.Levels.{Level, Highest, Leads, straight, through}
use Rattle.decompose.specs.Levels.Level.{whole, split}
use Rattle.decompose.specs.Levels.Highest.{more}
use Rattle.decompose.proofs.Levels.{level-unique}

-- what has an element is not empty
some-parts : {p : ℕ} {ps : List ℕ} → In p ps → ps ≡ [] → ⊥
some-parts {p} part e = go part.before (sym part.split ∙ e)
  where
    go : (before : List ℕ) → before ++ p ∷ part.after ≡ [] → ⊥
    go [] q = let z : ◌≡◌ {A = ℕ} 0 1 = cc in omega arith
    go (b ∷ before) q = let z : ◌≡◌ {A = ℕ} 0 1 = cc in omega arith

-- a code point has a level below l
record Below (m : Mapping) (c l : ℕ) : Type 0 where
  level : ℕ
  has : Level m c level
  less : level < l

-- each of some parts has a level of at most the highest
part-below : (m : Mapping) (before : List ℕ) (p : ℕ) (after : List ℕ) {n : ℕ} → Highest m (before ++ p ∷ after) n
    → Below m p (suc n)
part-below m [] p after (more {a = a} l h) = record { level = a; has = l; less = omega arith }
part-below m (b ∷ before) p after (more l h) =
    let found = part-below m before p after h in
    record { level = found.level; has = found.has; less = omega (arith, found.less) }

-- what leads to another has a higher level than that
leads-below : (m : Mapping) {c d l : ℕ} → Leads m c d → Level m c l → Below m d l
leads-below m (straight p) (whole e) = absurd (some-parts p e)
leads-below m (straight p) (split d h) = part-below m p.before _ p.after (rw p.split at h)
leads-below m (through p q) (whole e) = absurd (some-parts p e)
leads-below m (through p q) (split d h) =
    let next = part-below m p.before _ p.after (rw p.split at h) in
    let far = leads-below m q next.has in
    record { level = far.level; has = far.has; less = omega (arith, far.less, next.less) }

-- a code point in a cycle has no level
pub cycle-no-level : (m : Mapping) {c l : ℕ} → Leads m c c → Level m c l → ⊥
cycle-no-level m cycle level =
    let lower = leads-below m cycle level in
    omega (arith, lower.less, level-unique m level lower.has)

-- nor has one that leads into a cycle
pub into-cycle-no-level : (m : Mapping) {c d l : ℕ} → Leads m c d → Leads m d d → Level m c l → ⊥
into-cycle-no-level m into cycle level = cycle-no-level m cycle (leads-below m into level).has
