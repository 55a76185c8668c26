-- The checks of a table render its faults: 3 to 7 in words.
-- Assumes nothing.
use mathlib.Core.Path.{◌≡◌, refl, sym, ap, ◌∙◌}
use Prim.Native.Nat.{ℕ, zero, suc, ◌≤◌, ◌<◌}
use native.Mathlib.Omega.{arith}
use mathlib.Core.Bool.{Bool, true, false, not, ◌&&◌}
use mathlib.Core.Logic.{inl, inr, ◌↔◌}
use Rattle.std.specs.Prelude.{Option, None, Some}
use mathlib.Core.List.{List}
use lib.Dec.{leb, ltb, eqb}
use lib.ListN.{length, get_or}
use borrow.Author.Tests.{leb-true, le-leb, not-false}
use Rattle.terms.specs.CodePoints.{scalar}
use Rattle.terms.specs.Lists.{lowest, or_else, when}
use Rattle.terms.proofs.Tests.{both, join, none-some}
use Rattle.hangul.specs.Hangul.{syllable}
use Rattle.hangul.proofs.Syllables.{syllable-bounds, syllable-within}
use Rattle.table.specs.Layout.{entry_count, whole_entries, code_at, title_at, start_at, count_at}
use Rattle.table.specs.Table.{Table, faulty_code, faulty_entry, faulty_number, not_above, counts_below, pool_left, entry_fault}
use Rattle.table.specs.Table.{form_checks}
use Rattle.table.proofs.Entries.{whole-exactly}
use Rattle.decompose.specs.TableCheck.{level_fault}
use Rattle.decompose.proofs.Demand3.{level_fault-exactly}
use Rattle.demands.specs.Demands.{table_checks}
use Rattle.demands.specs.Faults.{Surrogate, Scalar, Syllable, NotAbove, WrongCode, WrongEntry, WrongEntries, WrongNumber}
use Rattle.demands.specs.Faults.{form_faults, table_faults}
use Rattle.demands.proofs.Reflect.{leb-exactly, ltb-exactly, eqb-exactly, and-exactly, or3-exactly, or4-exactly}
use Rattle.demands.proofs.Reflect.{not-exactly, lowest-exactly, nowhere-exactly}
use Rattle.demands.proofs.FaultRows.{RendersEach, renders-plain, renders-at}

-- ---- code points

pub surrogate-exactly : (c : ℕ) → (leb 0xD800 c && leb c 0xDFFF ≡ true) ↔ Surrogate c
surrogate-exactly c = (
  λ e.
      (let held = both (leb 0xD800 c) (leb c 0xDFFF) e in
      (omega (arith, leb-true 0xD800 c held.0), omega (arith, leb-true c 0xDFFF held.1))),
  λ h. join (leb 0xD800 c) (leb c 0xDFFF) (le-leb 0xD800 c (omega (arith, h.0))) (le-leb c 0xDFFF (omega (arith, h.1))),
)

pub scalar-exactly : (c : ℕ) → (scalar c ≡ true) ↔ Scalar c
scalar-exactly c =
    and-exactly (leb c 0x10FFFF) (not (leb 0xD800 c && leb c 0xDFFF)) (leb-exactly c 0x10FFFF)
    (not-exactly (leb 0xD800 c && leb c 0xDFFF) (surrogate-exactly c))

pub syllable-exactly : (c : ℕ) → (syllable c ≡ true) ↔ Syllable c
syllable-exactly c = (
  λ e. (let h = syllable-bounds c e in (omega (arith, h.0), omega (arith, h.1))),
  λ h. syllable-within c (omega (arith, h.0)) (omega (arith, h.1)),
)

-- up to 10FFFF, what is not scalar is a surrogate
pub unscalar-exactly : (c : ℕ) → c ≤ 0x10FFFF → (scalar c ≡ false) ↔ Surrogate c
unscalar-exactly c low =
    rw (le-leb c 0x10FFFF low)
    (λ e. (surrogate-exactly c).0 (not-false _ e), λ h. ap not ((surrogate-exactly c).1 h))

-- ---- entries

above-exactly : (es : List ℕ) (i : ℕ) → (not_above es i ≡ true) ↔ NotAbove es i
unfolding not_above
above-exactly es zero =
    (λ e. absurd (none-some true (ap (λ (b : Bool). when (not b) true) (sym e))), λ h. absurd (omega (arith, h.1)))
above-exactly es (suc i) =
    let h = leb-exactly (code_at es (suc i)) (code_at es i) in (
      λ e. (i, refl, h.0 e),
      λ p. (let same : p.0 ≡ i = omega (arith, p.1) in h.1 (rw same at p.2)),
    )

code-exactly : (es : List ℕ) (i : ℕ) → (faulty_code es i ≡ true) ↔ WrongCode es i
code-exactly es i =
    or4-exactly (not (scalar (code_at es i))) (not (scalar (title_at es i))) (syllable (code_at es i)) (not_above es i)
    (not-exactly (scalar (code_at es i)) (scalar-exactly (code_at es i)))
    (not-exactly (scalar (title_at es i)) (scalar-exactly (title_at es i)))
    (syllable-exactly (code_at es i))
    (above-exactly es i)

entry-exactly : (t : Table) (i : ℕ) → (faulty_entry t i ≡ true) ↔ WrongEntry t i
entry-exactly t i =
    let es = t.entries in
    or4-exactly (ltb 32 (count_at es i)) (not (eqb (start_at es i) (counts_below es i))) _ _
    (ltb-exactly 32 (count_at es i))
    (not-exactly (eqb (start_at es i) (counts_below es i)) (eqb-exactly (start_at es i) (counts_below es i)))
    (ltb-exactly (length t.pool) _)
    (and-exactly (eqb (title_at es i) (code_at es i)) (eqb (count_at es i) 0) (eqb-exactly (title_at es i) (code_at es i))
    (eqb-exactly (count_at es i) 0))

number-exactly : (pool : List ℕ) (j : ℕ) → (faulty_number pool j ≡ true) ↔ WrongNumber pool j
number-exactly pool j = not-exactly (scalar (get_or pool j 0)) (scalar-exactly (get_or pool j 0))

-- where 5 finds its fault
entries-exactly : (t : Table) (i : ℕ) → (entry_fault t ≡ Some i) ↔ WrongEntries t i
entries-exactly t i = (found (lowest (faulty_entry t) n) refl, given)
  where
    n : ℕ
    n = entry_count t.entries

    pool : (pool_left t ≡ true) ↔ (counts_below t.entries (entry_count t.entries) < length t.pool)
    pool = ltb-exactly (counts_below t.entries (entry_count t.entries)) (length t.pool)

    last : (b : Bool) → pool_left t ≡ b → when b (entry_count t.entries) ≡ Some i
        → (i ≡ entry_count t.entries) × (pool_left t ≡ true)
    last true q e = (cc, q)
    last false q e = absurd (none-some i e)

    found : (o : Option ℕ) → lowest (faulty_entry t) (entry_count t.entries) ≡ o
        → or_else o (when (pool_left t) (entry_count t.entries)) ≡ Some i → WrongEntries t i
    found (Some j) q e =
        let is : j ≡ i = cc in
        inl ((lowest-exactly (faulty_entry t) (entry-exactly t) (entry_count t.entries) i).0 (q ∙ ap Some is))
    found None q e =
        let at-end = last (pool_left t) refl e in
        inr (at-end.0, (nowhere-exactly (faulty_entry t) (entry-exactly t) (entry_count t.entries)).0 q, pool.0 at-end.1)

    given : WrongEntries t i → entry_fault t ≡ Some i
    given (inl h) = rw ((lowest-exactly (faulty_entry t) (entry-exactly t) (entry_count t.entries) i).1 h)
    given (inr h) =
        rw ((nowhere-exactly (faulty_entry t) (entry-exactly t) (entry_count t.entries)).1 h.1, pool.1 h.2, h.0)

-- ---- the rows

-- 3 to 6
pub form-renders : (t : Table) → RendersEach (form_checks t) (form_faults t)
form-renders t =
    let es = t.entries in
    let n = entry_count es in
    let size =
    or3-exactly (not (whole_entries es)) (ltb 16384 n) (ltb 65536 (length t.pool))
    (not-exactly (whole_entries es) (whole-exactly es))
    (ltb-exactly 16384 n)
    (ltb-exactly 65536 (length t.pool)) in
    let codes = lowest-exactly (faulty_code es) (code-exactly es) n in
    let numbers = lowest-exactly (faulty_number t.pool) (number-exactly t.pool) (length t.pool) in (
      renders-plain _ 3 size,
      (renders-at 4 _ codes, (renders-at 5 (entry_fault t) (entries-exactly t), (renders-at 6 _ numbers, tt))),
    )

-- 3 to 7
pub table-renders : (t : Table) → RendersEach (table_checks t) (table_faults t)
table-renders t =
    let form = form-renders t in
    (form.0, (form.1.0, (form.1.1.0, (form.1.1.1.0, (renders-at 7 (level_fault t) (level_fault-exactly t), tt)))))
