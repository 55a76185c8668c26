-- Laws of `cut` and `piece_end`: a list of pieces is its first piece and the pieces after the separator.
-- Assumes nothing.
use mathlib.Core.Path.{◌≡◌, refl, sym, ◌∙◌, ap}
use Prim.Native.Nat.{ℕ, suc, ◌+◌, ◌-◌, ◌≤◌, ◌<◌}
use native.Mathlib.Omega.{arith}
use native.Mathlib.Decide.{ℕ_discrete}
use mathlib.Core.Bool.{Bool, true, false, cond, not}
use mathlib.Core.List.{List, [], ◌∷◌}
use lib.Dec.{eqb, ltb}
use Rattle.std.specs.Prelude.{Option, None, Some, unwrap_or}
use lib.ListN.{length, take, drop, get_or, length-drop, drop_of_length-le}
use lib.Seq.{drop-length, get_or-drop, drop-drop}
use borrow.Author.Tests.{ltb-false, eq-eqb, ne_eqb}
use Rattle.std.specs.List.{position_or_len, slice_split, onto_first, count_by}
use Rattle.std.proofs.lemmas.List.Splits.{length-slice_split}
use Rattle.ucd.specs.Fields.{grow, cut, times, fields, field}
use Rattle.ucd.specs.Promises.{piece_end}
use Rattle.ucd.proofs.Walks.{drop-one}

-- ---- piece_end

-- it is the first place of a separator
pub piece_end-place : (sep : ℕ) (t : List ℕ) → piece_end sep t ≡ position_or_len (λ o. eqb o sep) t
unfolding piece_end
piece_end-place sep [] = refl
piece_end-place sep (o ∷ os) = go (eqb o sep) (piece_end-place sep os)
  where
    go : (b : Bool) → piece_end sep os ≡ position_or_len (λ o. eqb o sep) os
        → cond b 0 (suc (piece_end sep os)) ≡ cond (not b) (1 + position_or_len (λ o. eqb o sep) os) 0
    go true e = refl
    go false e = omega (arith, e)

-- nothing stands before the end
pub piece_end-end : (sep : ℕ) (t : List ℕ) (i : ℕ) → length t ≤ i → piece_end sep (drop i t) ≡ 0
unfolding piece_end
piece_end-end sep t i h = rw (drop_of_length-le t h)

-- nothing stands before a separator
pub piece_end-here : (sep : ℕ) (t : List ℕ) (i : ℕ) → i < length t → get_or t i 0 ≡ sep → piece_end sep (drop i t) ≡ 0
unfolding piece_end
piece_end-here sep t i h e = rw (drop-one t i h) (simp (eq-eqb (get_or t i 0) sep e))

-- another octet stands before what follows
pub piece_end-later : (sep : ℕ) (t : List ℕ) (i : ℕ)
    → i < length t
    → (get_or t i 0 ≡ sep → ⊥)
    → piece_end sep (drop i t) ≡ suc (piece_end sep (drop (i + 1) t))
unfolding piece_end
piece_end-later sep t i h e = rw (drop-one t i h) (simp (ne_eqb (get_or t i 0) sep e))

-- no more octets stand before the separator than there are
pub piece_end-most : (sep : ℕ) (t : List ℕ) → piece_end sep t ≤ length t
unfolding piece_end
piece_end-most sep [] = omega arith
piece_end-most sep (o ∷ os) = go (eqb o sep) (piece_end-most sep os)
  where
    go : (b : Bool) → piece_end sep os ≤ length os → cond b 0 (suc (piece_end sep os)) ≤ suc (length os)
    go true h = omega arith
    go false h = omega arith

-- what std's search for a separator answers is where the piece ends
pub piece_end-found : (sep : ℕ) (t : List ℕ) (r : Option ℕ)
    → r
    ≡ cond (ltb (position_or_len (λ o. eqb o sep) t) (length t)) (Some (position_or_len (λ o. eqb o sep) t)) None
    → unwrap_or r (length t) ≡ piece_end sep t
piece_end-found sep t r e =
    rw (e, ← piece_end-place sep t)
    (go (ltb (piece_end sep t) (length t)) refl)
  where
    go : (b : Bool) → ltb (piece_end sep t) (length t) ≡ b
        → unwrap_or (cond b (Some (piece_end sep t)) None) (length t) ≡ piece_end sep t
    go true f = refl
    go false f = omega (arith, piece_end-most sep t, ltb-false (piece_end sep t) (length t) f)

-- ---- cut

-- the pieces after a first piece: none at the end, and else those after the separator
abbrev pub after : ℕ → List ℕ → List (List ℕ)
after sep [] = []
after sep (o ∷ os) = cut sep os

-- a cut is its first piece and the pieces after it
pub cut_step : (sep : ℕ) (t : List ℕ) → cut sep t ≡ take (piece_end sep t) t ∷ after sep (drop (piece_end sep t) t)
unfolding cut piece_end
cut_step sep [] = refl
cut_step sep (o ∷ os) = go (eqb o sep) (cut_step sep os)
  where
    go : (b : Bool)
        → cut sep os ≡ take (piece_end sep os) os ∷ after sep (drop (piece_end sep os) os)
        → cond b ([] ∷ cut sep os) (grow o (cut sep os))
        ≡ take (cond b 0 (suc (piece_end sep os))) (o ∷ os)
        ∷ after sep (drop (cond b 0 (suc (piece_end sep os))) (o ∷ os))
    go true e = refl
    go false e = rw e

-- there is a piece
pub cut-some : (sep : ℕ) (t : List ℕ) → 0 < length (cut sep t)
cut-some sep t = rw (cut_step sep t) (omega arith)

-- with no separator a cut is one piece
pub cut-last : (sep : ℕ) (t : List ℕ) → piece_end sep t ≡ length t → cut sep t ≡ take (piece_end sep t) t ∷ []
cut-last sep t e =
    let d : drop (piece_end sep t) t ≡ [] = rw e (drop-length t) in
    cut_step sep t ∙ rw d

-- with a separator a cut is the piece before it and the cut of what follows
pub cut-more : (sep : ℕ) (t : List ℕ)
    → piece_end sep t < length t
    → cut sep t ≡ take (piece_end sep t) t ∷ cut sep (drop (piece_end sep t + 1) t)
cut-more sep t h = cut_step sep t ∙ rw (drop-one t (piece_end sep t) h)

-- the same from a place of a list on
pub cut-next : (sep : ℕ) (t : List ℕ) (at : ℕ)
    → at + piece_end sep (drop at t) < length t
    → cut sep (drop at t)
    ≡ take (piece_end sep (drop at t)) (drop at t) ∷ cut sep (drop (at + piece_end sep (drop at t) + 1) t)
cut-next sep t at h =
    let n = piece_end sep (drop at t) in
    let inside : n < length (drop at t) = omega (arith, length-drop at t) in
    let place : at + (n + 1) ≡ at + n + 1 = omega arith in
    cut-more sep (drop at t) inside
    ∙ ap (λ (l : List ℕ). take n (drop at t) ∷ cut sep l) (drop-drop (n + 1) at t ∙ ap (λ (m : ℕ). drop m t) place)

-- a cut of more pieces than one has a separator
pub cut-inside : (sep : ℕ) (t : List ℕ) → 1 < length (cut sep t) → piece_end sep t < length t
cut-inside sep t h = go (ℕ_discrete (piece_end sep t) (length t))
  where
    go : Dec (piece_end sep t ≡ length t) → piece_end sep t < length t
    go (yes e) = absurd (omega (arith, ap (λ (l : List (List ℕ)). length l) (cut-last sep t e)))
    go (no ne) = omega (arith, piece_end-most sep t)

-- what follows the first piece has the other pieces
pub cut-rest : (sep : ℕ) (t : List ℕ) → piece_end sep t < length t → cut sep (drop (piece_end sep t + 1) t) ≡ drop 1 (cut sep t)
cut-rest sep t h = rw (cut-more sep t h)

-- the first piece is up to there
pub cut-first : (sep : ℕ) (t : List ℕ) → take (piece_end sep t) t ≡ get_or (cut sep t) 0 []
cut-first sep t = rw (cut_step sep t)

-- it is std's parts between separators
grow-onto : (o : ℕ) (ps : List (List ℕ)) → grow o ps ≡ onto_first o ps
grow-onto o [] = refl
grow-onto o (p ∷ ps) = refl

pub cut-split : (sep : ℕ) (t : List ℕ) → cut sep t ≡ slice_split (λ o. eqb o sep) t
unfolding cut
cut-split sep [] = refl
cut-split sep (o ∷ os) = rw (grow-onto o (cut sep os), cut-split sep os)

-- ---- how many pieces

length-grow : (sep o : ℕ) (os : List ℕ) → length (grow o (cut sep os)) ≡ length (cut sep os)
length-grow sep o os = rw (cut_step sep os)

-- one piece more than there are separators
pub length_cut : (sep : ℕ) (t : List ℕ) → length (cut sep t) ≡ suc (times sep t)
unfolding cut times
length_cut sep [] = refl
length_cut sep (o ∷ os) = go (eqb o sep) (length_cut sep os)
  where
    go : (b : Bool) → length (cut sep os) ≡ suc (times sep os)
        → length (cond b ([] ∷ cut sep os) (grow o (cut sep os))) ≡ suc (cond b (suc (times sep os)) (times sep os))
    go true e = ap suc e
    go false e = length-grow sep o os ∙ e

-- and one more than std counts
pub length-cut-count : (sep : ℕ) (t : List ℕ) → length (cut sep t) ≡ count_by (λ o. eqb o sep) t + 1
length-cut-count sep t = rw (cut-split sep t) (length-slice_split (λ o. eqb o sep) t)

-- ---- walking from piece to piece

-- a walk stands at the start of piece i
pub record Stands (sep : ℕ) (t : List ℕ) (i at : ℕ) : Type 0 where
  pub within : at ≤ length t
  pub rest : drop i (cut sep t) ≡ cut sep (drop at t)

-- at first at piece 0
pub stands-first : (sep : ℕ) (t : List ℕ) → Stands sep t 0 0
stands-first sep t = record { within = omega arith; rest = refl }

-- the piece is within the list
pub stands-most : {sep : ℕ} {t : List ℕ} {i at : ℕ} → Stands sep t i at → at + piece_end sep (drop at t) ≤ length t
stands-most {sep} {t} {i} {at} s =
    let h : at ≤ length t = s.within in
    omega (arith, piece_end-most sep (drop at t), length-drop at t)

-- the next piece stands after the separator
pub stands-more : {sep : ℕ} {t : List ℕ} {i at : ℕ}
    → Stands sep t i at
    → at + piece_end sep (drop at t) < length t
    → Stands sep t (i + 1) (at + piece_end sep (drop at t) + 1)
stands-more {sep} {t} {i} {at} s h =
    let next : drop 1 (drop i (cut sep t)) ≡ cut sep (drop (at + piece_end sep (drop at t) + 1) t) =
    rw (s.rest, cut-next sep t at h) in
    record { within = omega arith; rest = sym (drop-drop 1 i (cut sep t)) ∙ next }

-- how many pieces are left
pub stands-count : {sep : ℕ} {t : List ℕ} {i at : ℕ} → Stands sep t i at → length (cut sep t) - i ≡ length (cut sep (drop at t))
stands-count {sep} {t} {i} {at} s = sym (length-drop i (cut sep t)) ∙ ap (λ (l : List (List ℕ)). length l) s.rest

-- at the end no piece follows
pub stands-end : {sep : ℕ} {t : List ℕ} {i at : ℕ}
    → Stands sep t i at
    → at + piece_end sep (drop at t) ≡ length t
    → cut sep (drop at t) ≡ take (piece_end sep (drop at t)) (drop at t) ∷ []
stands-end {sep} {t} {i} {at} s e = cut-last sep (drop at t) (omega (arith, length-drop at t, s.within))

-- where a piece follows, the separator is within the list
pub stands-inside : {sep : ℕ} {t : List ℕ} {i at : ℕ}
    → Stands sep t i at
    → i + 1 < length (cut sep t)
    → at + piece_end sep (drop at t) < length t
stands-inside {sep} {t} {i} {at} s h = go (ℕ_discrete (at + piece_end sep (drop at t)) (length t))
  where
    go : Dec (at + piece_end sep (drop at t) ≡ length t) → at + piece_end sep (drop at t) < length t
    go (yes e) =
        let one : length (cut sep (drop at t)) ≡ 1 = rw (stands-end s e) in
        absurd (omega (arith, stands-count s))
    go (no ne) = omega (arith, stands-most s)

-- ---- fields

-- a field of what is left of a line from field k on
pub field-left : (line rest : List ℕ) (k i : ℕ) → fields rest ≡ drop k (fields line) → field i rest ≡ field (k + i) line
field-left line rest k i e = ap (λ (l : List (List ℕ)). get_or l i []) e ∙ get_or-drop k (fields line) i []
