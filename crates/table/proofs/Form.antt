-- What a table of the form has, `form_refusal t ≡ none`: its code points are scalar and ascend, each entry's parts are at most
-- 32, lie in the pool and are scalar; and where `entry_of` finds an entry.
-- Assumes nothing.
use Prim.Native.Nat.{ℕ, zero, suc, ◌+◌, ◌≤◌, ◌<◌}
use native.Mathlib.Omega.{arith}
use native.Mathlib.Decide.{ℕ_discrete}
use mathlib.Core.Path.{◌≡◌, refl, sym, ap, ◌∙◌}
use mathlib.Core.Bool.{Bool, true, false, cond, ◌||◌, not, true≢false}
use Rattle.std.specs.Prelude.{Option, None, Some}
use mathlib.Core.List.{List, [], ◌∷◌}
use lib.Dec.{eqb, ltb}
use lib.ListN.{length, get_or, take, drop, length-take, length-drop}
use lib.Seq.{get_or-take, get_or-drop}
use borrow.Author.Tests.{leb-false, ltb-false, eqb-true, eq-eqb, ne_eqb, not-false}
use Rattle.terms.specs.CodePoints.{scalar}
use Rattle.terms.specs.Lists.{all, lowest, or_else, when}
use Rattle.terms.specs.Refusals.{entries_most, parts_most, check, refusal}
use Rattle.terms.proofs.Checks.{or_left, or_right, or_else-neither, when-none}
use Rattle.terms.proofs.Lists.{all_cons}
use Rattle.terms.proofs.Lowest.{lowest-is, lowest-some, lowest-none, lowest-nowhere}
use Rattle.hangul.specs.Hangul.{syllable, syllable_parts}
use Rattle.hangul.proofs.Syllables.{parts-scalar}
use Rattle.table.specs.Layout.{entry_count, whole_entries, code_at, title_at, start_at, count_at}
use Rattle.table.specs.Table.{Table, faulty_size, not_above, faulty_code, faulty_entry, pool_left, faulty_number, refused_at}
use Rattle.table.specs.Table.{entry_fault, form_refusal, entry_of, title_in, title_of, parts_in, entry_parts, parts_of}
use Rattle.table.specs.Promises.{Ascending}

-- ---- none of the checks applies

-- no place is refused
pub refused_at-none : (n : ℕ) (o : Option ℕ) → refused_at n o ≡ None → o ≡ None
refused_at-none n None e = refl
refused_at-none n (Some i) e = cc

-- none of 3 to 6 applies, check by check
pub record Formed (t : Table) : Type 0 where
  pub size : faulty_size t ≡ false
  pub codes : (i : ℕ) → i < entry_count t.entries → faulty_code t.entries i ≡ false
  pub entries : (i : ℕ) → i < entry_count t.entries → faulty_entry t i ≡ false
  pub whole : pool_left t ≡ false
  pub numbers : (j : ℕ) → j < length t.pool → faulty_number t.pool j ≡ false

-- a table of the form passes each check
pub formed : (t : Table) → form_refusal t ≡ None → Formed t
unfolding form_refusal
formed t e =
    let count = entry_count t.entries in
    let o5 = entry_fault t in
    let o6 = lowest (faulty_number t.pool) (length t.pool) in
    let h3 = or_else-neither (check (faulty_size t) 3 0 0) _ e in
    let h4 = or_else-neither (refused_at 4 (lowest (faulty_code t.entries) count))
    (or_else (refused_at 5 o5) (or_else (refused_at 6 o6) None))
    h3.1 in
    let h5 = or_else-neither (refused_at 5 o5) (or_else (refused_at 6 o6) None) h4.1 in
    let h6 = or_else-neither (refused_at 6 o6) None h5.1 in
    let fault = or_else-neither (lowest (faulty_entry t) count) (when (pool_left t) count) (refused_at-none 5 o5 h5.0) in
    record {
      size = when-none (faulty_size t) (refusal 3 0 0) h3.0;
      codes = lowest-none (faulty_code t.entries) count (refused_at-none 4 _ h4.0);
      entries = lowest-none (faulty_entry t) count fault.0;
      whole = when-none (pool_left t) count fault.1;
      numbers = lowest-none (faulty_number t.pool) (length t.pool) (refused_at-none 6 o6 h6.0);
    }

-- and one that passes each has the form
pub form-formed : (t : Table) → Formed t → form_refusal t ≡ None
unfolding form_refusal
form-formed t f =
    rw (
      f.size,
      lowest-nowhere (faulty_code t.entries) (entry_count t.entries) f.codes,
      lowest-nowhere (faulty_entry t) (entry_count t.entries) f.entries,
      f.whole,
      lowest-nowhere (faulty_number t.pool) (length t.pool) f.numbers,
    )

-- ---- what a check that was passed says

-- a table of a size that is taken is whole entries
pub sound-whole : (t : Table) → faulty_size t ≡ false → whole_entries t.entries ≡ true
sound-whole t e = not-false _ (or_left _ _ (or_left _ _ e))

-- at most 16,384
pub sound-entries : (t : Table) → faulty_size t ≡ false → entry_count t.entries ≤ entries_most
sound-entries t e =
    ltb-false entries_most (entry_count t.entries) (or_right (not (whole_entries t.entries)) _ (or_left _ _ e))

-- an entry that 4 passes has a scalar titlecase
pub sound-title : (es : List ℕ) (i : ℕ) → faulty_code es i ≡ false → scalar (title_at es i) ≡ true
sound-title es i e = not-false _ (or_right (not (scalar (code_at es i))) _ (or_left _ _ (or_left _ _ e)))

-- and is no syllable's
pub sound-code : (es : List ℕ) (i : ℕ) → faulty_code es i ≡ false → syllable (code_at es i) ≡ false
sound-code es i e = or_right (not (scalar (code_at es i)) || not (scalar (title_at es i))) _ (or_left _ _ e)

-- an entry that 5 passes has a count of at most 32
pub sound-count : (t : Table) (i : ℕ) → faulty_entry t i ≡ false → count_at t.entries i ≤ parts_most
sound-count t i e = ltb-false parts_most (count_at t.entries i) (or_left _ _ (or_left _ _ (or_left _ _ e)))

-- and parts that lie in the pool
pub sound-fits : (t : Table) (i : ℕ) → faulty_entry t i ≡ false
    → start_at t.entries i + count_at t.entries i ≤ length t.pool
sound-fits t i e =
    ltb-false (length t.pool) (start_at t.entries i + count_at t.entries i)
    (or_right (ltb parts_most (count_at t.entries i) || _) _ (or_left _ _ e))

-- ---- a table of the form

module _ (t : Table) (form : form_refusal t ≡ None) where
  -- its code points ascend
  pub formed-ascending : Ascending t.entries
  unfolding not_above
  formed-ascending i l =
      leb-false (code_at t.entries (suc i)) (code_at t.entries i)
      (or_right
      (not (scalar (code_at t.entries (suc i)))
      || not (scalar (title_at t.entries (suc i)))
      || syllable (code_at t.entries (suc i)))
      _
      ((formed t form).codes (suc i) l))

  -- none is a syllable
  pub formed-code : (i : ℕ) → i < entry_count t.entries → syllable (code_at t.entries i) ≡ false
  formed-code i l = sound-code t.entries i ((formed t form).codes i l)

  -- the parts of an entry lie in the pool
  pub formed-fits : (i : ℕ) → i < entry_count t.entries
      → start_at t.entries i + count_at t.entries i ≤ length t.pool
  formed-fits i l = sound-fits t i ((formed t form).entries i l)

  -- the titlecase of an entry is scalar
  pub formed-title : (i : ℕ) → i < entry_count t.entries → scalar (title_at t.entries i) ≡ true
  formed-title i l = sound-title t.entries i ((formed t form).codes i l)

  -- and every number of the pool
  pub formed-number : (j : ℕ) → j < length t.pool → scalar (get_or t.pool j 0) ≡ true
  formed-number j l = not-false (scalar (get_or t.pool j 0)) ((formed t form).numbers j l)

-- ---- the entry of a code point

-- of two entries of a table in order, the later one has the larger code point
pub ascending-lt : (es : List ℕ) → Ascending es → (i j : ℕ) → i < j → j < entry_count es → code_at es i < code_at es j
ascending-lt es up i zero l m = absurd (omega arith)
ascending-lt es up i (suc j) l m = go (ℕ_discrete i j) (λ h. ascending-lt es up i j h (omega arith))
  where
    go : Dec (i ≡ j) → (i < j → code_at es i < code_at es j) → code_at es i < code_at es (suc j)
    go (yes e) below = rw e (up j m)
    go (no ne) below = omega (arith, below (omega arith), up j m)

-- an entry is at least as far from the first as its code point is from the first one's
pub ascending-from : (es : List ℕ) → Ascending es → (k : ℕ) → k < entry_count es → code_at es 0 + k ≤ code_at es k
ascending-from es up zero l = omega arith
ascending-from es up (suc k) l = omega (arith, ascending-from es up k (omega arith), up k l)

-- an entry is the one of its code point
pub entry_of-entry : (es : List ℕ) → Ascending es → (i : ℕ) → i < entry_count es → entry_of es (code_at es i) ≡ Some i
unfolding entry_of
entry_of-entry es up i l =
    lowest-is (λ k. eqb (code_at es k) (code_at es i)) (entry_count es) i l
    (eq-eqb (code_at es i) (code_at es i) refl)
    (λ k h. ne_eqb (code_at es k) (code_at es i) (λ e. omega (arith, ascending-lt es up k i h l)))

-- a code point that no entry has
pub entry_of-none : (es : List ℕ) (c : ℕ) → ((k : ℕ) → k < entry_count es → code_at es k ≡ c → ⊥) → entry_of es c ≡ None
unfolding entry_of
entry_of-none es c other =
    lowest-nowhere (λ k. eqb (code_at es k) c) (entry_count es) (λ k l. ne_eqb (code_at es k) c (other k l))

-- the entry of a code point is an entry, and has that code point
pub entry_of-some : (es : List ℕ) (c i : ℕ) → entry_of es c ≡ Some i → (i < entry_count es) × (code_at es i ≡ c)
unfolding entry_of
entry_of-some es c i e =
    let found = lowest-some (λ k. eqb (code_at es k) c) (entry_count es) i e in
    (found.below, eqb-true (code_at es i) c found.holds)

-- where a code point has none, no entry has it
pub entry_of-gone : (es : List ℕ) (c : ℕ) → entry_of es c ≡ None → (i : ℕ) → i < entry_count es → code_at es i ≡ c → ⊥
unfolding entry_of
entry_of-gone es c e i l same =
    true≢false (sym (eq-eqb (code_at es i) c same) ∙ lowest-none (λ k. eqb (code_at es k) c) (entry_count es) e i l)

-- ---- what a table means of a code point

-- one with no entry is its own titlecase
pub title_of-none : (es : List ℕ) (c : ℕ) → entry_of es c ≡ None → title_of es c ≡ c
title_of-none es c e = ap (title_in es c) e

-- and its entry says no parts
pub entry_parts-none : (t : Table) (c : ℕ) → entry_of t.entries c ≡ None → entry_parts t c ≡ []
entry_parts-none t c e = ap (parts_in t) e

-- one with an entry has the entry's titlecase
pub title_of-some : (es : List ℕ) (c i : ℕ) → entry_of es c ≡ Some i → title_of es c ≡ title_at es i
title_of-some es c i e = ap (title_in es c) e

-- and its parts
pub entry_parts-some : (t : Table) (c i : ℕ) → entry_of t.entries c ≡ Some i → entry_parts t c ≡ parts_in t (Some i)
entry_parts-some t c i e = ap (parts_in t) e

-- a syllable has its jamo
pub parts_of-syllable : (t : Table) (c : ℕ) → syllable c ≡ true → parts_of t c ≡ syllable_parts c
parts_of-syllable t c is = rw is

-- any other code point what its entry says
pub parts_of-other : (t : Table) (c : ℕ) → syllable c ≡ false → parts_of t c ≡ entry_parts t c
parts_of-other t c other = rw other

-- one with neither has no parts
pub parts_of-none : (t : Table) (c : ℕ) → syllable c ≡ false → entry_of t.entries c ≡ None → parts_of t c ≡ []
parts_of-none t c other e = parts_of-other t c other ∙ entry_parts-none t c e

-- ---- what a table of the form means

-- a test that holds at each index holds of the list
all_get_d : (f : ℕ → Bool) (xs : List ℕ) → ((j : ℕ) → j < length xs → f (get_or xs j 0) ≡ true) → all f xs ≡ true
all_get_d f [] h = refl
all_get_d f (x ∷ xs) h = all_cons f x xs (h zero (omega arith)) (all_get_d f xs (λ j l. h (suc j) (omega arith)))

-- a test that holds at each index of a list holds of each part of it
all-part : (f : ℕ → Bool) (xs : List ℕ) (n s : ℕ) → ((j : ℕ) → j < length xs → f (get_or xs j 0) ≡ true)
    → all f (take n (drop s xs)) ≡ true
all-part f xs n s h = all_get_d f (take n (drop s xs)) at
  where
    at : (j : ℕ) → j < length (take n (drop s xs)) → f (get_or (take n (drop s xs)) j 0) ≡ true
    at j l =
        let m = simp (length-take, length-drop) at l in
        rw (get_or-take n (drop s xs) j 0 (omega arith), get_or-drop s xs j 0) (h (s + j) (omega arith))

module _ (t : Table) (form : form_refusal t ≡ None) where
  -- the titlecase of a scalar code point is scalar
  pub formed-title-scalar : (c : ℕ) → scalar c ≡ true → scalar (title_of t.entries c) ≡ true
  formed-title-scalar c h = go (entry_of t.entries c) refl
    where
      go : (o : Option ℕ) → entry_of t.entries c ≡ o → scalar (title_in t.entries c o) ≡ true
      go None e = h
      go (Some i) e = formed-title t form i (entry_of-some t.entries c i e).0

  -- the parts that an entry says are scalar
  formed-entry-scalar : (o : Option ℕ) → all scalar (parts_in t o) ≡ true
  formed-entry-scalar None = refl
  formed-entry-scalar (Some i) =
      all-part scalar t.pool (count_at t.entries i) (start_at t.entries i) (formed-number t form)

  -- so are the parts of any code point
  pub formed-parts-scalar : (c : ℕ) → all scalar (parts_of t c) ≡ true
  formed-parts-scalar c = go (syllable c) refl
    where
      go : (b : Bool) → syllable c ≡ b → all scalar (cond b (syllable_parts c) (entry_parts t c)) ≡ true
      go true is = parts-scalar c is
      go false other = formed-entry-scalar (entry_of t.entries c)

  -- no syllable has an entry
  pub formed-unlisted : (c : ℕ) → syllable c ≡ true → entry_of t.entries c ≡ None
  formed-unlisted c is =
      entry_of-none t.entries c (λ k l e. true≢false (sym is ∙ ap syllable (sym e) ∙ formed-code t form k l))

  -- where the entries say parts, these are the code point's
  pub parts_of-entry : (c : ℕ) → (entry_parts t c ≡ [] → ⊥) → parts_of t c ≡ entry_parts t c
  parts_of-entry c said = go (syllable c) refl
    where
      go : (b : Bool) → syllable c ≡ b → cond b (syllable_parts c) (entry_parts t c) ≡ entry_parts t c
      go true is = absurd (said (entry_parts-none t c (formed-unlisted c is)))
      go false other = refl

  -- a syllable is its own titlecase
  pub formed-title-syllable : (c : ℕ) → syllable c ≡ true → title_of t.entries c ≡ c
  formed-title-syllable c is = title_of-none t.entries c (formed-unlisted c is)

  -- the parts of an entry are those of its code point
  pub formed-parts-at : (i : ℕ) → i < entry_count t.entries → parts_of t (code_at t.entries i) ≡ parts_in t (Some i)
  formed-parts-at i l =
      parts_of-other t (code_at t.entries i) (formed-code t form i l)
      ∙ entry_parts-some t (code_at t.entries i) i (entry_of-entry t.entries (formed-ascending t form) i l)
