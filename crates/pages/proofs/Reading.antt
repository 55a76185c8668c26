-- A page read entry by entry, `Reading es page i word`: what holds at its start, after one entry more, and at its end.
-- Assumes nothing.
use mathlib.Core.Path.{◌≡◌, refl, sym, ap, ◌∙◌}
use Prim.Native.Nat.{ℕ, zero, suc, ◌+◌, ◌*◌, ◌/◌, ◌%◌, ◌^◌, ◌≤◌, ◌<◌}
use native.Mathlib.Omega.{arith}
use native.Mathlib.Decide.{ℕ_discrete}
use mathlib.Core.Bool.{Bool, true, false}
use Rattle.std.specs.Prelude.{Option, None, Some}
use mathlib.Core.List.{List}
use lib.Dec.{eqb}
use borrow.Author.Tests.{eq-eqb, ne_eqb}
use Rattle.terms.specs.Lists.{there, or_else, when, lowest}
use Rattle.terms.proofs.Lowest.{lowest-nowhere}
use Rattle.table.specs.Layout.{entry_count, code_at}
use Rattle.table.specs.Table.{entry_of}
use Rattle.table.specs.Promises.{Ascending}
use Rattle.table.proofs.Form.{ascending-lt}
use Rattle.pages.specs.Pages.{word_of, page_size, presence_word}
use Rattle.pages.specs.Promises.{Parted, PageRead}
use Rattle.pages.proofs.Masks.{one_shifted}
use Rattle.pages.proofs.Words.{word_lt, word_same, word_none, word_more}

-- whether one of the first n entries has a code point
abbrev among : List ℕ → ℕ → ℕ → Bool
among es n c = there (lowest (λ k. eqb (code_at es k) c) n)

-- the entries below i were read: the bits of those that are on the page
pub record Reading (es : List ℕ) (page i word : ℕ) : Type 0 where
  pub within : i ≤ entry_count es
  pub earlier : (k : ℕ) → k < i → code_at es k < suc page * page_size
  pub later : (k : ℕ) → i ≤ k → k < entry_count es → page * page_size ≤ code_at es k
  pub bits : word ≡ word_of (λ bit. among es i (page * page_size + bit)) page_size

-- none of the first n has a code point that differs from each of theirs
among_none : (es : List ℕ) (n c : ℕ) → ((k : ℕ) → k < n → code_at es k ≡ c → ⊥) → among es n c ≡ false
among_none es n c other =
    ap there (lowest-nowhere (λ k. eqb (code_at es k) c) n (λ k l. ne_eqb (code_at es k) c (other k l)))

-- one more has the code point, or says nothing of it
there-either : (o : Option ℕ) (n : ℕ) → there (or_else o (when true n)) ≡ true
there-either None n = refl
there-either (Some i) n = refl

there-neither : (o : Option ℕ) (n : ℕ) → there (or_else o (when false n)) ≡ there o
there-neither None n = refl
there-neither (Some i) n = refl

among_one : (es : List ℕ) (n c : ℕ) → code_at es n ≡ c → among es (suc n) c ≡ true
unfolding lowest
among_one es n c e = rw (eq-eqb (code_at es n) c e) (there-either (lowest (λ k. eqb (code_at es k) c) n) n)

among-other : (es : List ℕ) (n c : ℕ) → (code_at es n ≡ c → ⊥) → among es (suc n) c ≡ among es n c
unfolding lowest
among-other es n c ne = rw (ne_eqb (code_at es n) c ne) (there-neither (lowest (λ k. eqb (code_at es k) c) n) n)

-- entries of other code points change nothing
among-more : (es : List ℕ) (i n c : ℕ) → i ≤ n → ((k : ℕ) → i ≤ k → k < n → code_at es k ≡ c → ⊥)
    → among es n c ≡ among es i c
among-more es i zero c h other = ap (λ (k : ℕ). among es k c) (omega arith)
among-more es i (suc n) c h other = go (ℕ_discrete i (suc n)) (among-more es i n c)
  where
    go : Dec (i ≡ suc n)
        → (i ≤ n → ((k : ℕ) → i ≤ k → k < n → code_at es k ≡ c → ⊥) → among es n c ≡ among es i c)
        → among es (suc n) c ≡ among es i c
    go (yes e) rest = ap (λ (k : ℕ). among es k c) (sym e)
    go (no ne) rest =
        among-other es n c (other n (omega arith) (omega arith)) ∙ rest (omega arith) (λ k l m. other k l (omega arith))

-- before the first entry of the page
pub reading-start : {es : List ℕ} {page i : ℕ} → Parted es (page * page_size) i → Reading es page i 0
reading-start {es} {page} {i} p = record {
  within = p.within;
  earlier = λ k l. omega (arith, p.below k l);
  later = p.above;
  bits = sym (word_none _ page_size (λ bit l. among_none es i (page * page_size + bit)
      (λ k m e. omega (arith, p.below k m))));
}

module _ {es : List ℕ} {page i word : ℕ} (r : Reading es page i word) where
  -- an entry of the page is one bit more
  pub reading-more : Ascending es → i < entry_count es → code_at es i / page_size ≡ page
      → Reading es page (suc i) (word + 2 ^ (code_at es i % page_size))
  reading-more up h on =
      let c = code_at es i in
      let bit = c % page_size in
      let here : c ≡ page * page_size + bit = omega arith in
      record {
        within = omega arith;
        earlier = λ k l. earlier k l (ℕ_discrete k i);
        later = λ k l m. r.later k (omega arith) m;
        bits =
            ap (λ (w : ℕ). w + 2 ^ bit) r.bits
            ∙ sym (word_more (λ x. among es i (page * page_size + x)) (λ x. among es (suc i) (page * page_size + x)) bit
            (among_none es i (page * page_size + bit) (λ k l e. omega (arith, ascending-lt es up k i l h)))
            (among_one es i (page * page_size + bit) here)
            (λ x ne. sym (among-other es i (page * page_size + x) (λ e. ne (omega arith))))
            page_size (omega arith));
      }
    where
      earlier : (k : ℕ) → k < suc i → Dec (k ≡ i) → code_at es k < suc page * page_size
      earlier k l (yes e) = omega (arith, ap (code_at es) e)
      earlier k l (no ne) = r.earlier k (omega arith)

  -- as the function adds it: x is the code point that was read
  pub reading-next : Ascending es → i < entry_count es → (x : ℕ) → x ≡ code_at es i → x / page_size ≡ page
      → Reading es page (i + 1) (word + 1 * 2 ^ (x % page_size) % 2 ^ 64)
  reading-next up h x e on =
      let next : i + 1 ≡ suc i = omega arith in
      rw (next, one_shifted (x % page_size) (omega arith), e)
      (reading-more up h (sym (ap (λ (y : ℕ). y / page_size) e) ∙ on))

  -- a word of 64 bits
  pub reading-lt : word < 2 ^ 64
  reading-lt = omega (arith, r.bits, word_lt (λ bit. among es i (page * page_size + bit)) page_size)

  -- the entries that are left are after the page: it was read
  pub reading-done : ((k : ℕ) → i ≤ k → k < entry_count es → suc page * page_size ≤ code_at es k)
      → PageRead es page (record { word = word; next = i })
  unfolding presence_word entry_of
  reading-done after = record {
    word =
        r.bits
        ∙ word_same (λ bit. among es i (page * page_size + bit)) (λ bit. there (entry_of es (page * page_size + bit))) page_size
        (λ bit l. sym (among-more es i (entry_count es) (page * page_size + bit) r.within
        (λ k m n e. omega (arith, after k m n))));
    next = record { within = r.within; below = r.earlier; above = after };
  }

  -- so it was where there is no entry more
  pub reading-end : entry_count es ≤ i → PageRead es page (record { word = word; next = i })
  reading-end h = reading-done (λ k l m. absurd (omega arith))

  -- and where the next is on another page
  pub reading-past : Ascending es → i < entry_count es → (code_at es i / page_size ≡ page → ⊥)
      → PageRead es page (record { word = word; next = i })
  reading-past up h off =
      let here : suc page * page_size ≤ code_at es i = omega (arith, r.later i (omega arith) h) in
      reading-done (λ k l m. after k l m here (ℕ_discrete k i))
    where
      after : (k : ℕ) → i ≤ k → k < entry_count es → suc page * page_size ≤ code_at es i → Dec (k ≡ i)
          → suc page * page_size ≤ code_at es k
      after k l m here (yes e) = omega (arith, ap (code_at es) e)
      after k l m here (no ne) = omega (arith, ascending-lt es up i k (omega arith) m)
