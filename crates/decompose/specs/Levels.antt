-- Levels, full decompositions and asks over a mapping (document 01, "The mapping table").
-- `Level` and `Unfolds` are the paper's: beside them stand definitions that count down the levels left, which contracts cite.
-- proofs/Levels.antt ties `within` to `Level`, both ways, and proofs/Unfolds.antt `full` and `asks` to `Unfolds`.
-- Assumes nothing.
use Rattle.std.specs.Prelude.{◌≡◌, Bool, cond}
use Prim.Native.Nat.{ℕ, zero, suc, max, ◌+◌}
use mathlib.Core.List.{List, [], ◌∷◌, ◌++◌}
use Rattle.terms.specs.Lists.{all, empty, each, total, In}
use Rattle.table.specs.Mapping.{Mapping}

mutual
  -- the paper's "level": "A code point's level is 0 if it doesn't decompose, else one more than the highest level among its
  -- parts." A code point in a cycle, or leading into one, has none: proofs/Cycles.antt.
  pub data Level (m : Mapping) : ℕ → ℕ → Type 0 where
    whole : {c : ℕ} → m.parts c ≡ [] → Level m c 0
    split : {c n : ℕ} → (m.parts c ≡ [] → ⊥) → Highest m (m.parts c) n → Level m c (suc n)

  -- "the highest level among its parts"
  pub data Highest (m : Mapping) : List ℕ → ℕ → Type 0 where
    done : Highest m [] 0
    more : {p : ℕ} {ps : List ℕ} {a b : ℕ} → Level m p a → Highest m ps b → Highest m (p ∷ ps) (max a b)

mutual
  -- the paper's "unfolding" of a code point, the code points that it gives, which are its "full decomposition", and its asks:
  -- "one ask for its decomposition and then, if it decomposes, the unfolding of each part in turn"
  pub data Unfolds (m : Mapping) : ℕ → List ℕ → ℕ → Type 0 where
    stays : {c : ℕ} → m.parts c ≡ [] → Unfolds m c (c ∷ []) 1
    decomposes : {c : ℕ} {codes : List ℕ} {asked : ℕ}
        → (m.parts c ≡ [] → ⊥) → UnfoldEach m (m.parts c) codes asked → Unfolds m c codes (suc asked)

  -- "the unfolding of each part in turn", their full decompositions "one after another"
  pub data UnfoldEach (m : Mapping) : List ℕ → List ℕ → ℕ → Type 0 where
    none_left : UnfoldEach m [] [] 0
    part : {p : ℕ} {ps codes rest : List ℕ} {asked later : ℕ}
        → Unfolds m p codes asked → UnfoldEach m ps rest later → UnfoldEach m (p ∷ ps) (codes ++ rest) (asked + later)

-- a code point leads to another: that is one of its parts, or one of its parts leads to that. "A code point in a cycle" leads
-- to itself.
pub data Leads (m : Mapping) : ℕ → ℕ → Type 0 where
  straight : {c p : ℕ} → In p (m.parts c) → Leads m c p
  through : {c p d : ℕ} → In p (m.parts c) → Leads m p d → Leads m c d

-- a level of at most n: "To unfold completely within 8 levels is to have a level of at most 8"
unfoldable pub within : Mapping → ℕ → ℕ → Bool
within m zero c = empty (m.parts c)
within m (suc n) c = all (λ p. within m n p) (m.parts c)

-- the paper's "full decomposition", of a code point with a level of at most n: "itself if it doesn't decompose, else its
-- parts' full decompositions one after another"
unfoldable pub full : Mapping → ℕ → ℕ → List ℕ
full m zero c = c ∷ []
full m (suc n) c = cond (empty (m.parts c)) (c ∷ []) (each (λ p. full m n p) (m.parts c))

-- the asks of the paper's "unfolding", of a code point with a level of at most n: "one ask for its decomposition and then, if
-- it decomposes, the unfolding of each part in turn"
unfoldable pub asks : Mapping → ℕ → ℕ → ℕ
asks m zero c = 1
asks m (suc n) c = suc (total (λ p. asks m n p) (m.parts c))
