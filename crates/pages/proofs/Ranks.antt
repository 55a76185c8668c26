-- The rank law: the entries below a code point are the first ones, and of ascending entries each stands where its rank says.
-- Assumes nothing.
use mathlib.Core.Path.{◌≡◌, refl, sym, ap, ◌∙◌}
use Prim.Native.Nat.{ℕ, zero, suc, ◌+◌, ◌*◌, ◌≤◌, ◌<◌}
use native.Mathlib.Omega.{arith}
use native.Mathlib.Decide.{ℕ_discrete, dec_lt}
use mathlib.Core.Bool.{Bool}
use Rattle.std.specs.Prelude.{None, Some}
use mathlib.Core.List.{List}
use lib.Dec.{ltb}
use borrow.Author.Tests.{lt-ltb, le-ltb}
use Rattle.terms.specs.Lists.{there, when}
use Rattle.table.specs.Layout.{entry_count, code_at}
use Rattle.table.specs.Table.{entry_of}
use Rattle.table.specs.Promises.{Ascending}
use Rattle.table.proofs.Form.{ascending-lt, entry_of-entry, entry_of-none}
use Rattle.pages.specs.Pages.{digit, counted, page_size, rank_of}
use Rattle.pages.specs.Promises.{Parted}
use Rattle.pages.proofs.Words.{counted-add, counted-first}

-- whether a code point has an entry
abbrev pub listed : List ℕ → ℕ → Bool
listed es c = there (entry_of es c)

-- none is below 0
pub parted-start : (es : List ℕ) → Parted es 0 0
parted-start es = record { within = omega arith; below = λ k l. absurd (omega arith); above = λ k l m. omega arith }

-- where the first i are below c, there are i of them
pub counted-parted : {es : List ℕ} {c i : ℕ} → Parted es c i → counted (λ k. ltb (code_at es k) c) (entry_count es) ≡ i
counted-parted {es} {c} {i} p =
    counted-first (λ k. ltb (code_at es k) c) (entry_count es) i p.within
    (λ k l. lt-ltb (code_at es k) c (p.below k l))
    (λ k l m. le-ltb (code_at es k) c (p.above k l m))

pub rank_of-parted : {es : List ℕ} (page : ℕ) {i : ℕ} → Parted es (page * page_size) i → rank_of es page ≡ i
unfolding rank_of
rank_of-parted page p = counted-parted p

-- where the first i are below a code point: its entry, if it has one, is entry i, and then one more is below the next code point
pub record Stepped (es : List ℕ) (c i : ℕ) : Type 0 where
  pub place : entry_of es c ≡ when (listed es c) i
  pub parted : Parted es (suc c) (digit (listed es c) + i)

module _ (es : List ℕ) (up : Ascending es) where
  pub parted-step : {c i : ℕ} → Parted es c i → Stepped es c i
  parted-step {c} {i} p = go (dec_lt i (entry_count es))
    where
      -- it is no entry's
      gone : ((k : ℕ) → i ≤ k → k < entry_count es → suc c ≤ code_at es k) → Stepped es c i
      gone later =
          let e : entry_of es c ≡ None = entry_of-none es c (λ k l q. other k l q (dec_lt k i)) in
          record {
            place = rw e refl;
            parted = rw e (record {
              within = omega (arith, p.within);
              below = λ k l. omega (arith, p.below k (omega arith));
              above = λ k l m. later k (omega arith) m;
            });
          }
        where
          other : (k : ℕ) → k < entry_count es → code_at es k ≡ c → Dec (k < i) → ⊥
          other k l q (yes b) = omega (arith, p.below k b)
          other k l q (no b) = omega (arith, later k (omega arith) l)

      -- it is entry i's
      found : i < entry_count es → code_at es i ≡ c → Stepped es c i
      found l q =
          let e : entry_of es c ≡ Some i = ap (entry_of es) (sym q) ∙ entry_of-entry es up i l in
          record {
            place = rw e refl;
            parted = rw e (record {
              within = omega arith;
              below = λ k m. below k m (ℕ_discrete k i);
              above = λ k m n. omega (arith, ascending-lt es up i k (omega arith) n);
            });
          }
        where
          below : (k : ℕ) → k < 1 + i → Dec (k ≡ i) → code_at es k < suc c
          below k m (yes same) = omega (arith, ap (code_at es) same)
          below k m (no ne) = omega (arith, p.below k (omega arith))

      from : i < entry_count es → Dec (code_at es i ≡ c) → Stepped es c i
      from l (yes q) = found l q
      from l (no ne) = gone (λ k m n. later k m n (ℕ_discrete k i))
        where
          later : (k : ℕ) → i ≤ k → k < entry_count es → Dec (k ≡ i) → suc c ≤ code_at es k
          later k m n (yes same) = omega (arith, ap (code_at es) same, p.above i (omega arith) l)
          later k m n (no other) = omega (arith, ascending-lt es up i k (omega arith) n, p.above i (omega arith) l)

      go : Dec (i < entry_count es) → Stepped es c i
      go (yes l) = from l (ℕ_discrete (code_at es i) c)
      go (no l) = gone (λ k m n. absurd (omega arith))

  -- so many entries are below a code point as code points below it have one
  pub parted-all : (c : ℕ) → Parted es c (counted (listed es) c)
  unfolding counted
  parted-all zero = parted-start es
  parted-all (suc c) = (parted-step (parted-all c)).parted

  -- a code point's entry, if it has one, stands after those of the pages before and of the page's code points below it
  pub entry_of-ranked : (page bit : ℕ)
      → entry_of es (page * page_size + bit)
      ≡ when (listed es (page * page_size + bit)) (rank_of es page + counted (λ x. listed es (page * page_size + x)) bit)
  entry_of-ranked page bit =
      let first = page * page_size in
      (parted-step (parted-all (first + bit))).place
      ∙ ap (when (listed es (first + bit)))
      (counted-add (listed es) first bit
      ∙ ap (λ (r : ℕ). r + counted (λ x. listed es (first + x)) bit) (sym (rank_of-parted page (parted-all first))))
