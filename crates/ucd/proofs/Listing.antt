-- The parts of field 5: the code points of the pieces so far stand in the slice. And which case of `decomposition` holds.
-- Assumes nothing.
use mathlib.Core.Path.{◌≡◌, refl, sym, ap}
use Prim.Native.Nat.{ℕ, zero, suc, ◌+◌, ◌≤◌, ◌<◌}
use native.Mathlib.Omega.{arith}
use mathlib.Core.Bool.{Bool, true, false, cond, ◌&&◌, and-false}
use Rattle.std.specs.Prelude.{Option, None, Some, option_map, option_and_then}
use mathlib.Core.List.{List, [], ◌∷◌, ◌++◌}
use lib.Dec.{leb}
use lib.ListN.{length, take, drop, set, get_or}
use Rattle.std.proofs.lemmas.List.{take_all, take_more, take_more_set}
use borrow.Author.Tests.{le-leb, lt-leb}
use Rattle.terms.specs.Refusals.{parts_most}
use Rattle.ucd.specs.Fields.{cut, code_point, code_points, tag, untagged, some_parts, decomposition}
use Rattle.ucd.specs.Promises.{piece_end}
use Rattle.ucd.proofs.Options.{both-some, made-some}
use Rattle.ucd.proofs.Walks.{empty-yes, empty-no}
use Rattle.ucd.proofs.Cutting.{cut_step, cut-last, cut-more}

-- ---- the code points of pieces

-- a piece that writes none
code_points-fail : (ps : List (List ℕ)) (i : ℕ) → i < length ps → code_point (get_or ps i []) ≡ None → code_points ps ≡ None
unfolding code_points
code_points-fail [] i h e = absurd (omega arith)
code_points-fail (p ∷ ps) zero h e = rw e
code_points-fail (p ∷ ps) (suc i) h e = go (code_point p) (code_points-fail ps i (omega arith) e)
  where
    go : (o : Option ℕ) → code_points ps ≡ None → option_and_then (λ c. option_map (λ cs. c ∷ cs) (code_points ps)) o ≡ None
    go None rest = refl
    go (Some c) rest = rw rest

-- one piece more
code_points-snoc : (ps : List (List ℕ)) (p : List ℕ) (cs : List ℕ) (c : ℕ) → code_points ps ≡ Some cs → code_point p ≡ Some c
    → code_points (ps ++ (p ∷ [])) ≡ Some (cs ++ (c ∷ []))
unfolding code_points
code_points-snoc [] p cs c e f = let none : [] ≡ cs = cc in rw (f, ← none)
code_points-snoc (q ∷ qs) p cs c e f =
    let first = both-some (code_point q) _ e in
    let rest = made-some _ (code_points qs) first.2 in
    rw (first.1, code_points-snoc qs p rest.0 c rest.1 f) (ap (λ (l : List ℕ). Some (l ++ (c ∷ []))) rest.2)

-- the parts so far stand in the slice
pub record Lists (ps : List (List ℕ)) (parts : List ℕ) (count : ℕ) : Type 0 where
  pub within : count ≤ length ps
  pub listed : code_points (take count ps) ≡ Some (take count parts)

-- at first no part
pub lists-first : (ps : List (List ℕ)) (parts : List ℕ) → Lists ps parts 0
unfolding code_points
lists-first ps parts = record { within = omega arith; listed = refl }

module _ (ps : List (List ℕ)) where
  -- a piece that writes no code point
  pub lists-none : (count : ℕ) → count < length ps → code_point (get_or ps count []) ≡ None → some_parts ps ≡ None
  lists-none count h e = go (leb 1 (length ps) && leb (length ps) parts_most)
    where
      go : (b : Bool) → cond b (code_points ps) None ≡ None
      go true = code_points-fail ps count h e
      go false = refl

  -- more pieces than may be
  pub lists-many : parts_most < length ps → some_parts ps ≡ None
  lists-many h = simp (lt-leb (length ps) parts_most h, and-false)

  module _ {parts : List ℕ} {count : ℕ} (w : Lists ps parts count) where
    -- one part more
    pub lists-more : (c : ℕ) → count < length ps → code_point (get_or ps count []) ≡ Some c → count < length parts
        → Lists ps (set parts count c) (count + 1)
    lists-more c h e room = record {
      within = omega arith;
      listed =
          let pieces : take (count + 1) ps ≡ take count ps ++ (get_or ps count [] ∷ []) = take_more ps count [] h in
          let values : take (count + 1) (set parts count c) ≡ take count parts ++ (c ∷ []) =
          take_more_set parts count c room in
          rw (pieces, values) (code_points-snoc (take count ps) (get_or ps count []) (take count parts) c w.listed e);
    }

    -- the last piece
    pub lists-all : length ps ≤ count → 0 < count → count ≤ parts_most → Some (take count parts) ≡ some_parts ps
    lists-all h some most =
        let n : length ps ≡ count = omega arith in
        let listed : code_points ps ≡ Some (take count parts) = rw (take_all count ps h) at w.listed in
        simp (le-leb 1 (length ps) (omega arith), le-leb (length ps) parts_most (omega arith)) (sym listed)

-- ---- field 5

-- an empty field has no parts
pub decomposition-empty : (t : List ℕ) → length t ≡ 0 → Some [] ≡ decomposition t
unfolding decomposition
decomposition-empty t e = rw (empty-yes t e)

module _ (t : List ℕ) (ne : length t ≡ 0 → ⊥) where
  -- a field that begins with no tag
  pub decomposition-plain : tag (take (piece_end 0x20 t) t) ≡ false → decomposition t ≡ some_parts (cut 0x20 t)
  unfolding decomposition
  decomposition-plain e =
      let s : untagged (cut 0x20 t) ≡ cut 0x20 t = rw (cut_step 0x20 t) (rw e) in
      rw (empty-no t ne, s)

  -- a tag alone
  pub decomposition-alone : tag (take (piece_end 0x20 t) t) ≡ true → piece_end 0x20 t ≡ length t → None ≡ decomposition t
  unfolding decomposition
  decomposition-alone e h =
      let s : untagged (cut 0x20 t) ≡ [] = rw (cut-last 0x20 t h) (rw e) in
      rw (empty-no t ne, s)

  -- a tag, a space, and more
  pub decomposition-tagged : tag (take (piece_end 0x20 t) t) ≡ true
      → piece_end 0x20 t < length t
      → decomposition t ≡ some_parts (cut 0x20 (drop (piece_end 0x20 t + 1) t))
  unfolding decomposition
  decomposition-tagged e h =
      let s : untagged (cut 0x20 t) ≡ cut 0x20 (drop (piece_end 0x20 t + 1) t) = rw (cut-more 0x20 t h) (rw e) in
      rw (empty-no t ne, s)
