-- What is left of a search for a code point, `Candidates es c low size`: how a look at an entry makes less of it, and what it
-- says of `entry_of` at its end.
-- Assumes nothing.
use Prim.Native.Nat.{ℕ, ◌+◌, ◌≤◌, ◌<◌}
use native.Mathlib.Omega.{arith}
use native.Mathlib.Decide.{ℕ_discrete, dec_lt}
use mathlib.Core.Path.{◌≡◌}
use Rattle.std.specs.Prelude.{None}
use mathlib.Core.List.{List}
use Rattle.table.specs.Layout.{entry_count, code_at}
use Rattle.table.specs.Table.{entry_of}
use Rattle.table.specs.Promises.{Ascending, Candidates}
use Rattle.table.proofs.Form.{ascending-lt, entry_of-none}

-- from an entry above a code point on, all are above it
ascending-above : (es : List ℕ) → Ascending es → (c high : ℕ) → c < code_at es high
    → (k : ℕ) → high ≤ k → k < entry_count es → c < code_at es k
ascending-above es up c high e k l m = go (ℕ_discrete k high)
  where
    go : Dec (k ≡ high) → c < code_at es k
    go (yes q) = rw q e
    go (no q) = omega (arith, ascending-lt es up high k (omega arith) m)

-- there are none: the code point has no entry
pub candidates-none : {es : List ℕ} {c : ℕ} → Candidates es c 0 0 → entry_of es c ≡ None
candidates-none {es} {c} a = entry_of-none es c (λ k l e. omega (arith, a.above k (omega arith) l))

-- entry `middle` is at or below: those from it on are left
pub candidates-up : {es : List ℕ} {c low size : ℕ} → Candidates es c low size
    → {middle rest : ℕ} → middle + rest ≡ low + size → code_at es middle ≤ c → Candidates es c middle rest
candidates-up a q e = record {
  within = omega (arith, a.within);
  first = λ l. e;
  above = λ k m n. a.above k (omega arith) n;
}

module _ {es : List ℕ} (up : Ascending es) {c low size : ℕ} (a : Candidates es c low size) where
  -- entry `middle` is above: those before it are left, or any number more
  pub candidates-down : (middle : ℕ) {rest : ℕ} → middle ≤ low + rest → rest ≤ size → c < code_at es middle
      → Candidates es c low rest
  candidates-down middle l m e = record {
    within = omega (arith, a.within);
    first = λ n. a.first (omega arith);
    above = λ k n o. ascending-above es up c middle e k (omega arith) o;
  }

  -- one is left, and it is another's: the code point has no entry
  pub candidates-other : 0 < size → size ≤ 1 → (code_at es low ≡ c → ⊥) → entry_of es c ≡ None
  candidates-other h l ne = entry_of-none es c other
    where
      other : (k : ℕ) → k < entry_count es → code_at es k ≡ c → ⊥
      other k m e = go (dec_lt k low) (dec_lt low k)
        where
          go : Dec (k < low) → Dec (low < k) → ⊥
          go (yes b) d = omega (arith, ascending-lt es up k low b (omega (arith, a.within)), a.first h)
          go (no b) (yes d) = omega (arith, a.above k (omega arith) m)
          go (no b) (no d) = let same : low ≡ k = omega arith in ne (rw same e)
