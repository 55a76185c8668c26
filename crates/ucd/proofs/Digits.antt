-- Laws of `digits`: the value of digits goes on digit by digit.
-- Assumes nothing.
use mathlib.Core.Path.{◌≡◌, refl}
use Prim.Native.Nat.{ℕ, ◌+◌, ◌*◌, ◌<◌, ◌≤◌}
use native.Mathlib.Omega.{arith}
use Rattle.std.specs.Prelude.{Option, None, Some, option_and_then}
use mathlib.Core.List.{List, [], ◌∷◌}
use lib.ListN.{length, drop, get_or}
use borrow.Author.Tests.{le-leb, lt-leb}
use Rattle.std.proofs.lemmas.List.{drop_all}
use Rattle.ucd.specs.Fields.{digit, digits, bounded}
use Rattle.ucd.proofs.Walks.{drop-one}

-- no digits leave the value as it is
pub digits-end : (n : ℕ) (t : List ℕ) (i : ℕ) → length t ≤ i → n ≤ 0x10FFFF → bounded (digits n (drop i t)) ≡ Some n
unfolding digits
digits-end n t i h most = rw (drop_all i t h) (simp (le-leb n 0x10FFFF most))

-- one digit more
pub digits_more : (n d : ℕ) (t : List ℕ) (i : ℕ)
    → i < length t
    → digit (get_or t i 0) ≡ Some d
    → digits n (drop i t) ≡ digits (n * 16 + d) (drop (i + 1) t)
unfolding digits
digits_more n d t i h e = rw (drop-one t i h) (simp e)

-- an octet that is no digit
pub digits-none : (n : ℕ) (t : List ℕ) (i : ℕ) → i < length t → digit (get_or t i 0) ≡ None → digits n (drop i t) ≡ None
unfolding digits
digits-none n t i h e = rw (drop-one t i h) (simp e)

-- a value above 10FFFF stays above
pub bounded-digits-above : (os : List ℕ) (n : ℕ) → 0x10FFFF < n → bounded (digits n os) ≡ None
unfolding digits
bounded-digits-above [] n h = simp (lt-leb n 0x10FFFF h)
bounded-digits-above (o ∷ os) n h = go (digit o) (λ v. bounded-digits-above os v)
  where
    go : (x : Option ℕ)
        → ((v : ℕ) → 0x10FFFF < v → bounded (digits v os) ≡ None)
        → bounded (option_and_then (λ d. digits (n * 16 + d) os) x) ≡ None
    go None rec = refl
    go (Some d) rec = rec (n * 16 + d) (omega arith)
