-- Laws of the run of digits that a text begins with, and of the zeros before it: the run is digits only, what follows it does
-- not matter, and past the zeros it has the same value and begins with no zero.
-- Assumes nothing.
use mathlib.Core.Path.{◌≡◌, refl, sym, ap, ◌∙◌}
use Prim.Native.Nat.{ℕ, zero, suc, ◌+◌, ◌≤◌, ◌<◌, compare}
use native.Mathlib.Numerals.{add-one}
use native.Mathlib.Omega.{arith}
use mathlib.Core.Bool.{Bool, true, false, not, cond}
use mathlib.Core.List.{List, [], ◌∷◌, ◌++◌, append_assoc, append-nil}
use lib.Dec.{eqb}
use lib.ListN.{length, take, drop, get_or, replicate, drop_of_length-le}
use lib.Seq.{drop-cons, take-suc, take-length}
use borrow.Author.Tests.{eqb-true, eq-eqb, ne_eqb}
use Rattle.terms.specs.Lists.{all, empty}
use Rattle.terms.proofs.Lists.{all_first, all_rest, all_cons}
use Rattle.numeric.specs.Numbers.{digit, run, value_from, value}
use Rattle.numeric.specs.Runs.{leading_zeros, shorter_first}
use Rattle.numeric.proofs.Values.{zero_first, values-ordered}

-- ---- run

-- a run is digits only
pub all-run : (t : List ℕ) → all digit (run t) ≡ true
unfolding run
all-run [] = refl
all-run (o ∷ os) = go (all-run os) (digit o) refl
  where
    go : all digit (run os) ≡ true → (b : Bool) → digit o ≡ b → all digit (cond b (o ∷ run os) []) ≡ true
    go rest true e = all_cons digit o (run os) e rest
    go rest false e = refl

-- digits, and then what begins with none
pub run-append : (ds rest : List ℕ) → all digit ds ≡ true → run rest ≡ [] → run (ds ++ rest) ≡ ds
unfolding run
run-append [] rest p e = e
run-append (d ∷ ds) rest p e =
    rw (all_first digit d ds p) (ap (λ (l : List ℕ). d ∷ l) (run-append ds rest (all_rest digit d ds p) e))

-- a text that has a digit at a place reaches past it
pub run-within : (t : List ℕ) (i : ℕ) → not (empty (run (drop i t))) ≡ true → i < length t
unfolding run
run-within [] zero e = let z : ◌≡◌ {A = ℕ} 0 1 = cc in omega arith
run-within [] (suc i) e = let z : ◌≡◌ {A = ℕ} 0 1 = cc in omega arith
run-within (o ∷ t) zero e = omega arith
run-within (o ∷ t) (suc i) e = let rest = run-within t i e in omega arith

-- and the octet there is one
pub run-digit : (t : List ℕ) (i : ℕ) → not (empty (run (drop i t))) ≡ true → digit (get_or t i 0) ≡ true
unfolding run
run-digit [] zero e = cc
run-digit [] (suc i) e = cc
run-digit (o ∷ t) zero e = go (digit o) e
  where
    go : (b : Bool) → not (empty (cond b (o ∷ run t) [])) ≡ true → b ≡ true
    go true h = refl
    go false h = h
run-digit (o ∷ t) (suc i) e = run-digit t i e

-- whether there is one, by the octet
pub run_at : (t : List ℕ) (i : ℕ) → i < length t → digit (get_or t i 0) ≡ not (empty (run (drop i t)))
unfolding run
run_at t i h = rw (drop-cons t i 0 h) (go (digit (get_or t i 0)))
  where
    go : (b : Bool) → b ≡ not (empty (cond b (get_or t i 0 ∷ run (drop (suc i) t)) []))
    go true = refl
    go false = refl

-- past the end there is none
pub run_past : (t : List ℕ) (i : ℕ) → length t ≤ i → false ≡ not (empty (run (drop i t)))
unfolding run
run_past t i h = rw (drop_of_length-le t h)

-- ---- counting the digits

module _ (t : List ℕ) (i : ℕ) (e : run t ≡ take i t ++ run (drop i t)) where
  -- the text ends
  pub run-end : length t ≤ i → i ≤ length t → t ≡ run t
  unfolding run
  run-end h l =
      let end : i ≡ length t = omega arith in
      sym (e ∙ rw (drop_of_length-le t h, end, take-length t) (append-nil t))

  -- another octet
  pub run-other : i < length t → digit (get_or t i 0) ≡ false → take i t ≡ run t
  unfolding run
  run-other h n = sym (e ∙ rw (drop-cons t i 0 h, n) (append-nil (take i t)))

  -- one digit more
  pub run-more : i < length t → digit (get_or t i 0) ≡ true → run t ≡ take (i + 1) t ++ run (drop (i + 1) t)
  unfolding run
  run-more h d =
      e ∙ rw (drop-cons t i 0 h, d, add-one i, take-suc t i 0 h)
      (sym (append_assoc (take i t) (get_or t i 0 ∷ []) (run (drop (suc i) t))))

-- ---- zeros in front

-- zeros in front of a text leave the value of its run
pub value-replicate : (n : ℕ) (t : List ℕ) → value (run (replicate n 0x30 ++ t)) ≡ value (run t)
unfolding run value_from
value-replicate zero t = refl
value-replicate (suc n) t = value-replicate n t

-- the zeros are within the text
pub leading_zeros-within : (t : List ℕ) → leading_zeros t ≤ length t
unfolding leading_zeros
leading_zeros-within [] = omega arith
leading_zeros-within (o ∷ t) = go (leading_zeros-within t) (eqb o 0x30)
  where
    go : leading_zeros t ≤ length t → (b : Bool) → cond b (suc (leading_zeros t)) 0 ≤ suc (length t)
    go rest true = omega arith
    go rest false = omega arith

-- past them the run has the same value
value-past : (t : List ℕ) → value (run (drop (leading_zeros t) t)) ≡ value (run t)
unfolding leading_zeros run value_from
value-past [] = refl
value-past (o ∷ t) = go (value-past t) (eqb o 0x30) refl
  where
    go : value (run (drop (leading_zeros t) t)) ≡ value (run t) → (b : Bool) → eqb o 0x30 ≡ b
        → value (run (drop (cond b (suc (leading_zeros t)) 0) (o ∷ t))) ≡ value (run (o ∷ t))
    go rest true e = rw (eqb-true o 0x30 e) rest
    go rest false e = refl

-- and begins with no zero
zero_first-past : (t : List ℕ) → zero_first (run (drop (leading_zeros t) t)) ≡ false
unfolding leading_zeros run
zero_first-past [] = refl
zero_first-past (o ∷ t) = go (zero_first-past t) (eqb o 0x30) refl
  where
    one : eqb o 0x30 ≡ false → (b : Bool) → zero_first (cond b (o ∷ run t) []) ≡ false
    one e true = e
    one e false = refl

    go : zero_first (run (drop (leading_zeros t) t)) ≡ false → (b : Bool) → eqb o 0x30 ≡ b
        → zero_first (run (drop (cond b (suc (leading_zeros t)) 0) (o ∷ t))) ≡ false
    go rest true e = rest
    go rest false e = one e (digit o)

-- so the values of two texts' runs are ordered as the runs past the zeros
pub values-past : (s t : List ℕ)
    → compare (value (run s)) (value (run t))
    ≡ shorter_first (run (drop (leading_zeros s) s)) (run (drop (leading_zeros t) t))
values-past s t =
    let past-s = drop (leading_zeros s) s in
    let past-t = drop (leading_zeros t) t in
    rw (← value-past s, ← value-past t)
    (values-ordered (run past-s) (run past-t) (all-run past-s) (all-run past-t) (zero_first-past s) (zero_first-past t))

-- ---- counting the zeros

module _ (t : List ℕ) (i : ℕ) (e : leading_zeros t ≡ i + leading_zeros (drop i t)) where
  -- the text ends
  pub zeros-end : length t ≤ i → i ≡ leading_zeros t
  unfolding leading_zeros
  zeros-end h = sym (e ∙ rw (drop_of_length-le t h) (omega arith))

  -- another octet
  pub zeros-other : i < length t → (get_or t i 0 ≡ 0x30 → ⊥) → i ≡ leading_zeros t
  unfolding leading_zeros
  zeros-other h n = sym (e ∙ rw (drop-cons t i 0 h, ne_eqb (get_or t i 0) 0x30 n) (omega arith))

  -- one zero more
  pub zeros-more : i < length t → get_or t i 0 ≡ 0x30 → leading_zeros t ≡ i + 1 + leading_zeros (drop (i + 1) t)
  unfolding leading_zeros
  zeros-more h z = e ∙ rw (add-one i, drop-cons t i 0 h, eq-eqb (get_or t i 0) 0x30 z) (omega arith)
