-- Raising a text's octets: what it has after the first i octets, with its laws, start, one more, done.
-- Assumes nothing.
use mathlib.Core.Path.{◌≡◌, refl, sym, ap, ◌∙◌}
use Prim.Native.Nat.{ℕ, ◌+◌, ◌≤◌, ◌<◌}
use native.Mathlib.Numerals.{add-one}
use native.Mathlib.Omega.{arith}
use mathlib.Core.List.{List, [], ◌∷◌, ◌++◌, map, map-append}
use lib.ListN.{length, get_or, take, set, length-map}
use lib.Seq.{take-suc, take_all, length-take-le}
use Rattle.terms.specs.Lists.{over}
use Rattle.terms.proofs.Parts.{length_over}
use Rattle.keys.specs.Keys.{upper}

-- one octet more at the end of what was written
pub set-over : (xs buffer : List ℕ) (a : ℕ) → length xs < length buffer
    → set (over xs buffer) (length xs) a ≡ over (xs ++ a ∷ []) buffer
set-over xs [] a h = absurd (omega arith)
set-over [] (y ∷ ys) a h = refl
set-over (x ∷ xs) (y ∷ ys) a h = ap (λ (l : List ℕ). x ∷ l) (set-over xs ys a (omega arith))

-- the first i octets of a text were raised and written
pub record Raising (text buffer : List ℕ) (i : ℕ) (after : List ℕ) : Type 0 where
  pub passed : i ≤ length text
  pub written : after ≡ over (map upper (take i text)) buffer

-- before the first octet
pub raising-start : (text buffer : List ℕ) → Raising text buffer 0 buffer
raising-start text buffer = record { passed = omega arith; written = refl }

module _ (text buffer : List ℕ) (i : ℕ) (after : List ℕ) (w : Raising text buffer i after) where
  -- as many octets were written
  octets-passed : length (map upper (take i text)) ≡ i
  octets-passed = length-map (take i text) upper ∙ length-take-le i text w.passed

  -- one octet more
  pub raising-more : (a : ℕ) → i < length text → length text ≤ length buffer → a ≡ upper (get_or text i 0)
      → Raising text buffer (i + 1) (set after i a)
  raising-more a h room e =
      let xs = map upper (take i text) in
      let next : map upper (take (i + 1) text) ≡ xs ++ a ∷ [] =
      rw (add-one i, take-suc text i 0 h, e) (map-append upper (take i text) (get_or text i 0 ∷ [])) in
      let stored : set (over xs buffer) i a ≡ over (xs ++ a ∷ []) buffer =
      ap (λ n. set (over xs buffer) n a) (sym octets-passed) ∙ set-over xs buffer a (omega (arith, octets-passed)) in
      record {
        passed = omega arith;
        written = ap (λ (l : List ℕ). set l i a) w.written ∙ stored ∙ ap (λ (l : List ℕ). over l buffer) (sym next);
      }

  -- every octet was raised
  pub raising-done : length text ≤ i → after ≡ over (map upper text) buffer
  raising-done h = rw (take_all i text h) at w.written

  -- the buffer keeps its length
  pub raising-length : length text ≤ length buffer → length after ≡ length buffer
  raising-length room =
      ap length w.written ∙ length_over (map upper (take i text)) buffer (omega (arith, octets-passed, w.passed))
