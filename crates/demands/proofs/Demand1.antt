-- Demand 1, each sentence with the theorems that render it.
-- Theorems are about the public calls. One takes what a call's contract says, which `rt check` proves of the code and
-- Contracts.antt takes from the contract itself: of a call on texts `Prepares` or `Called` with the call's outcome and
-- values, which speak of one value c, the call; of `add_line` `Added`; of `check_table` the equation `check_outcome r ≡
-- table_answer t`. It says the sentence of the answer r and of the slices afterwards. The `_accepted` calls have the same
-- `ensures` under a `requires`, an accepted table: where that holds, so does the theorem. Where a theorem has `call (some k)
-- ..`, the call's number names the collation k.
-- Assumes nothing.
use Rattle.builder.specs.declared.RefusedLine.{RefusedLine}
use Rattle.std.specs.Prelude.{Result, Err, ⊤}
use mathlib.Core.Path.{◌≡◌, refl, sym, ap, ◌∙◌}
use Prim.Native.Nat.{ℕ, ◌≤◌, ◌<◌}
use mathlib.Core.Logic.Iff
use mathlib.Core.Logic.{◌↔◌, true-and}
use Rattle.std.specs.Prelude.{Option, None, Some}
use mathlib.Core.List.{List, [], ◌∷◌, ◌++◌, map}
use lib.ListN.{length}
use Rattle.terms.specs.Collations.{collation_of}
use Rattle.terms.specs.Refusals.{refusal, first, Outcome, refused, check_outcome}
use Rattle.terms.specs.declared.Collation.{Collation}
use Rattle.terms.specs.declared.Collation.TheVariants.{UnicodeCasemap}
use Rattle.terms.specs.declared.Refusal.{Refusal}
use Rattle.terms.proofs.Checks.{first-append, answer-refused}
use Rattle.terms.proofs.Injective.{check_outcome-inj}
use Rattle.table.specs.Layout.{entry_count}
use Rattle.table.specs.Mapping.{Mapping}
use Rattle.table.specs.Table.{Table, refused_at, form_checks, form_refusal, mapping_of}
use Rattle.decompose.specs.TableCheck.{level_fault, table_refusal, table_answer, UnfoldsWell}
use Rattle.decompose.specs.Levels.{Level, Leads}
use Rattle.decompose.proofs.Cycles.{cycle-no-level, into-cycle-no-level}
use Rattle.keys.specs.Keys.{prepared, room_for}
use Rattle.pages.specs.Pages.{Pages}
use Rattle.prepare.specs.Calls.{Lent, Call, call, lengths, texts_refusal, ready_refusal, call_refusal, Called}
use Rattle.prepare.proofs.Answering.{answered-refused}
use Rattle.ucd.specs.Fields.{field, code_point, decomposition}
use Rattle.builder.specs.Builder.{Built, built, line_refusal, line_outcome, Added}
use Rattle.builder.specs.declared.LineState.{LineState}
use Rattle.builder.proofs.Injective.{line_outcome-inj}
use Rattle.builder.proofs.Adding.{add_line-refused}
use Rattle.demands.specs.Demands.{FirstApplies, table_checks, call_checks, CollationNumber}
use Rattle.demands.specs.Faults.{Clear, FirstFault, LowestAt, WrongSize, WrongCode, WrongEntries, WrongNumber}
use Rattle.demands.specs.Faults.{Impossible, WrongSemicolons, MalformedField, SaysBarred, SaysEarlier}
use Rattle.demands.specs.Faults.{SaysTooMuch, Unsound, fault3, fault4, fault5, fault6, fault7, fault20, fault21, fault22}
use Rattle.demands.specs.Faults.{fault23, fault25, fault26, fault28, fault29, form_faults}
use Rattle.demands.specs.Faults.{table_faults, reading_faults, line_faults}
use Rattle.demands.proofs.FaultRows.{row-exactly, row-clear, number_at, plain_at}
use Rattle.demands.proofs.TableFaults.{form-renders, table-renders}
use Rattle.demands.proofs.LineFaults.{line_row, line_clear}
use Rattle.demands.proofs.Rows.{first-exactly, first-call_checks}
use Rattle.demands.proofs.Numbers.{one-exactly, two-first, two-second, eight-first, eight-second, table-exactly}

-- ---- "Every call ends with an answer on any octets, any table, any buffer sizes."

-- What `rt check` proves of a function is that it ends with an answer that meets its contract, wherever its `requires` hold.
-- That no public call has one is said by `check-table-asks-nothing` and the others of Contracts.antt and ContractsC.antt, of
-- all arguments.

-- ---- "Bad input gets its numbered refusal exactly when the documents say,"

-- the first that applies is given: a row of checks gives x exactly when one of them gives x and those before it give nothing
pub first-applies : (checks : List (Option Refusal)) (x : Refusal) → (first checks ≡ Some x) ↔ FirstApplies checks x
first-applies = first-exactly

-- a table's refusal is the first of 3, 4, 5, 6, 7 that applies
pub table-first : (t : Table) (x : Refusal) → (table_refusal t ≡ Some x) ↔ FirstApplies (table_checks t) x
unfolding table_refusal form_refusal
table-first t x =
    rw (sym (first-append (form_checks t) (refused_at 7 (level_fault t) ∷ []))) (first-applies (table_checks t) x)

-- that of a call on texts is the first of 1; 2 of each text; 3 to 7; 15; 8 of each key
pub call-first : (c : Call) (x : Refusal) → (call_refusal c ≡ Some x) ↔ FirstApplies (call_checks c) x
call-first c x = rw (sym (first-call_checks c)) (first-applies (call_checks c) x)

-- `check_table` refuses exactly as document 01 says
pub check-refused : (t : Table) {r : Result ⊤ Refusal} → check_outcome r ≡ table_answer t
    → (x : Refusal) → (r ≡ Err x) ↔ (table_refusal t ≡ Some x)
check-refused t {r} h x = (
  λ e. answer-refused (table_refusal t) [] x (ap check_outcome (sym e) ∙ h),
  λ e. check_outcome-inj r (Err x) (h ∙ rw e),
)

-- and so does a call on texts: `prepare`, `equal`, `order` and `substring`
pub call-refused : {R : Type 0} {outcome : R → Outcome} {values : Call → Option (List ℕ)} {c : Call} {r : R}
    {after : List (List ℕ)}
    → Called outcome values c r after
    → (x : Refusal) → (outcome r ≡ refused x) ↔ (call_refusal c ≡ Some x)
call-refused h x = (answered-refused h x, λ e. let told = rw e at h.answered in cc)

-- `add_line` does, and gives back the state that came in
pub line_refused : {b : Built} {line es pool : List ℕ} {r : Result LineState RefusedLine} → Added b line r es pool
    → (x : Refusal) → (r ≡ Err (record { refusal = x; state = b.state })) ↔ (line_refusal b line ≡ Some x)
line_refused {b} {line} {r} h x = (
  λ e. answer-refused (line_refusal b line) _ x (ap line_outcome (sym e) ∙ h.answered),
  λ e. line_outcome-inj r (Err (record { refusal = x; state = b.state })) (rw e at h.answered)
      (ap (λ (c : Built). c.state) (h.left ∙ add_line-refused b line x e)),
)

-- each number in words: `Clear` says that none of the faults before it applies

-- of a call on texts, one or two, each with its buffer: 1 exactly when the collation is not 1, 2, 3
pub number-1 : (k : ℕ) (t : Table) (pg : Pages) (ls : List Lent)
    → (call_refusal (call (collation_of k) t pg ls) ≡ Some (refusal 1 0 0)) ↔ (CollationNumber k → ⊥)
number-1 = one-exactly

module _ (k : Collation) (t : Table) (pg : Pages) where
  -- else 2 at place 1, with its length, exactly when the first text is over 4,096 octets
  pub number-2-first : (l : Lent) (ls : List Lent)
      → (call_refusal (call (Some k) t pg (l ∷ ls)) ≡ Some (refusal 2 1 (length l.text))) ↔ (4096 < length l.text)
  number-2-first = two-first k t pg

  -- else 2 at place 2 exactly when the second is
  pub number-2-second : (l n : Lent) → length l.text ≤ 4096
      → (call_refusal (call (Some k) t pg (l ∷ n ∷ [])) ≡ Some (refusal 2 2 (length n.text))) ↔ (4096 < length n.text)
  number-2-second = two-second k t pg

  -- where none of 1 to 7 and 15 applies, 8 at place 1 exactly when the first key belongs in its buffer and is longer, with that length
  pub number-8-first : (l : Lent) (ls : List Lent) → ready_refusal (call (Some k) t pg (l ∷ ls)) ≡ None
      → let n = room_for (prepared k (mapping_of t) l.text) in
      (call_refusal (call (Some k) t pg (l ∷ ls)) ≡ Some (refusal 8 1 n)) ↔ (length l.buffer < n)
  number-8-first = eight-first k t pg

  -- else 8 at place 2 exactly when the second does and is
  pub number-8-second : (l o : Lent) → ready_refusal (call (Some k) t pg (l ∷ o ∷ [])) ≡ None
      → room_for (prepared k (mapping_of t) l.text) ≤ length l.buffer
      → let n = room_for (prepared k (mapping_of t) o.text) in
      (call_refusal (call (Some k) t pg (l ∷ o ∷ [])) ≡ Some (refusal 8 2 n)) ↔ (length o.buffer < n)
  number-8-second = eight-second k t pg

-- 3 to 7 of a call under collation 3 are those of its table, where neither 1 nor 2 applies; under 1 and 2 the table is not read
pub number-3-to-7 : (t : Table) (pg : Pages) (ls : List Lent)
    → texts_refusal (Some UnicodeCasemap) (lengths (call (Some UnicodeCasemap) t pg ls)) ≡ None
    → (x : Refusal) → x.number ≤ 7 → (call_refusal (call (Some UnicodeCasemap) t pg ls) ≡ Some x) ↔ (table_refusal t ≡ Some x)
number-3-to-7 = table-exactly

module _ (t : Table) where
  -- a table is refused with number n and detail d exactly when that is the first fault of the row
  pub table-row : (n d : ℕ) → (table_refusal t ≡ Some (refusal n 0 d)) ↔ FirstFault (table_faults t) n d
  unfolding table_refusal form_refusal
  table-row n d =
      rw (sym (first-append (form_checks t) (refused_at 7 (level_fault t) ∷ [])))
      (row-exactly (table_checks t) (table_faults t) (table-renders t) n d)

  -- 3 exactly when a size is wrong
  pub number-3 : (table_refusal t ≡ Some (refusal 3 0 0)) ↔ WrongSize t
  number-3 = Iff.trans (table-row 3 0) (Iff.trans (plain_at (table_faults t) 0 3 (WrongSize t) refl refl refl) true-and)

  -- 4 exactly when not 3, and i is the lowest entry with a code point or titlecase that is wrong
  pub number-4 : (i : ℕ)
      → (table_refusal t ≡ Some (refusal 4 0 i))
      ↔ (Clear (fault3 t ∷ []) × LowestAt (WrongCode t.entries) (entry_count t.entries) i)
  number-4 i = Iff.trans (table-row 4 i) (number_at (table_faults t) 1 (fault4 t) refl refl refl i)

  -- 5 exactly when not 3 or 4, and i is the lowest wrong entry, or there is none, the pool is too long and i is how many
  -- entries there are
  pub number-5 : (i : ℕ) → (table_refusal t ≡ Some (refusal 5 0 i)) ↔ (Clear (fault3 t ∷ fault4 t ∷ []) × WrongEntries t i)
  number-5 i = Iff.trans (table-row 5 i) (number_at (table_faults t) 2 (fault5 t) refl refl refl i)

  -- 6 exactly when not 3 to 5, and i is the lowest index of a pool number that is not scalar
  pub number-6 : (i : ℕ)
      → (table_refusal t ≡ Some (refusal 6 0 i))
      ↔ (Clear (fault3 t ∷ fault4 t ∷ fault5 t ∷ []) × LowestAt (WrongNumber t.pool) (length t.pool) i)
  number-6 i = Iff.trans (table-row 6 i) (number_at (table_faults t) 3 (fault6 t) refl refl refl i)

  -- the form that demand 3 names: none of 3 to 6 applies
  pub form-exactly : (form_refusal t ≡ None) ↔ Clear (form_faults t)
  unfolding form_refusal
  form-exactly = row-clear (form_checks t) (form_faults t) (form-renders t)

  -- 7 exactly when the form holds, entry i does not unfold well and every lower one does; or every entry does, some syllable
  -- does not and i is how many entries there are
  pub number-7 : (i : ℕ) → (table_refusal t ≡ Some (refusal 7 0 i)) ↔ ((form_refusal t ≡ None) × Unsound t i)
  number-7 i =
      let row = Iff.trans (table-row 7 i) (number_at (table_faults t) 4 (fault7 t) refl refl refl i) in (
        λ e. (form-exactly.1 (row.0 e).0, (row.0 e).1),
        λ h. row.1 (form-exactly.0 h.0, h.1),
      )

-- "A code point in a cycle .. has no level": one that leads to itself by decomposing
pub cycle-level : (m : Mapping) {c l : ℕ} → Leads m c c → Level m c l → ⊥
cycle-level = cycle-no-level

-- ".. or leading into one": nor has one that leads to such a one
pub into-cycle-level : (m : Mapping) {c d l : ℕ} → Leads m c d → Leads m d d → Level m c l → ⊥
into-cycle-level = into-cycle-no-level

-- so the entry of either is refused: it does not unfold well
pub cycle-unsound : (m : Mapping) {c d : ℕ} → Leads m c d → Leads m d d → UnfoldsWell m c → ⊥
cycle-unsound m into cycle w = into-cycle-level m into cycle w.has

module _ (b : Built) (line : List ℕ) where
  -- a line is refused with number n exactly when that is the first fault of the row; place and detail are 0
  pub line_first : (n d : ℕ) → (line_refusal b line ≡ Some (refusal n 0 d)) ↔ FirstFault (line_faults b line) n d
  line_first = line_row b line

  -- and is not refused exactly when none of them applies
  pub line_taken : (line_refusal b line ≡ None) ↔ Clear (line_faults b line)
  line_taken = line_clear b line

  -- 28 exactly when the state is impossible
  pub number-28 : (line_refusal b line ≡ Some (refusal 28 0 0)) ↔ Impossible b
  number-28 = Iff.trans (line_first 28 0) (Iff.trans (plain_at (line_faults b line) 0 28 (Impossible b) refl refl refl) true-and)

  -- 20 exactly when not 28, and the line is over 512 octets
  pub number-20 : (line_refusal b line ≡ Some (refusal 20 0 0))
      ↔ (Clear (fault28 b ∷ []) × (512 < length line))
  number-20 = Iff.trans (line_first 20 0) (plain_at (line_faults b line) 1 20 (512 < length line) refl refl refl)

  -- 21 exactly when not 28 or 20, and there are not just 14 semicolons
  pub number-21 : (line_refusal b line ≡ Some (refusal 21 0 0))
      ↔ (Clear (fault28 b ∷ fault20 line ∷ []) × WrongSemicolons line)
  number-21 = Iff.trans (line_first 21 0) (plain_at (line_faults b line) 2 21 (WrongSemicolons line) refl refl refl)

  -- 22 exactly when none before it applies, and field 0 writes no code point
  pub number-22 : (line_refusal b line ≡ Some (refusal 22 0 0))
      ↔ (Clear (fault28 b ∷ fault20 line ∷ fault21 line ∷ []) × (code_point (field 0 line) ≡ None))
  number-22 = Iff.trans (line_first 22 0) (plain_at (line_faults b line) 3 22 (code_point (field 0 line) ≡ None) refl refl refl)

  -- 23: field 5 is no decomposition
  pub number-23 : (line_refusal b line ≡ Some (refusal 23 0 0))
      ↔ (Clear (fault28 b ∷ fault20 line ∷ fault21 line ∷ fault22 line ∷ []) × (decomposition (field 5 line) ≡ None))
  number-23 = Iff.trans (line_first 23 0) (plain_at (line_faults b line) 4 23 (decomposition (field 5 line) ≡ None) refl refl refl)

  -- 29: field 12 is neither empty nor a code point, whatever field 14 has
  pub number-29 : (line_refusal b line ≡ Some (refusal 29 0 0))
      ↔ (Clear (fault28 b ∷ fault20 line ∷ fault21 line ∷ fault22 line ∷ fault23 line ∷ []) × MalformedField 12 line)
  number-29 = Iff.trans (line_first 29 0) (plain_at (line_faults b line) 5 29 (MalformedField 12 line) refl refl refl)

  -- 24: field 14 is neither empty nor a code point
  pub number-24 : (line_refusal b line ≡ Some (refusal 24 0 0))
      ↔ (Clear (fault28 b ∷ fault20 line ∷ fault21 line ∷ fault22 line ∷ fault23 line ∷ fault29 line ∷ [])
      × MalformedField 14 line)
  number-24 = Iff.trans (line_first 24 0) (plain_at (line_faults b line) 6 24 (MalformedField 14 line) refl refl refl)

  -- 25: the line has a mapping, and one of the code points that it says is a surrogate, or the one that it maps is a syllable
  pub number-25 : (line_refusal b line ≡ Some (refusal 25 0 0)) ↔ (Clear (fault28 b ∷ reading_faults line) × SaysBarred line)
  number-25 = Iff.trans (line_first 25 0) (plain_at (line_faults b line) 7 25 (SaysBarred line) refl refl refl)

  -- 26: the code point that it says is not above the last
  pub number-26 : (line_refusal b line ≡ Some (refusal 26 0 0))
      ↔ (Clear (fault28 b ∷ reading_faults line ++ fault25 line ∷ []) × SaysEarlier b line)
  number-26 = Iff.trans (line_first 26 0) (plain_at (line_faults b line) 8 26 (SaysEarlier b line) refl refl refl)

  -- 27: it has a mapping, and there is no room or a limit is passed
  pub number-27 : (line_refusal b line ≡ Some (refusal 27 0 0))
      ↔ (Clear (fault28 b ∷ reading_faults line ++ fault25 line ∷ fault26 b line ∷ []) × SaysTooMuch b line)
  number-27 = Iff.trans (line_first 27 0) (plain_at (line_faults b line) 9 27 (SaysTooMuch b line) refl refl refl)

-- ---- "and then no lent buffer changes."

-- a refused call on texts leaves every key buffer. (`check_table` is lent nothing that it could change.)
pub call_kept : {R : Type 0} {outcome : R → Outcome} {values : Call → Option (List ℕ)} {c : Call} {r : R} {after : List (List ℕ)}
    → Called outcome values c r after
    → (x : Refusal) → outcome r ≡ refused x → after ≡ map (λ l. l.buffer) c.lents
call_kept h x e = rw ((call-refused h x).0 e) at h.left

-- a refused `add_line` leaves the state, the entries and the pool
pub line_kept : {b : Built} {line es pool : List ℕ} {r : Result LineState RefusedLine} → Added b line r es pool
    → (x : Refusal) (st : LineState) → r ≡ Err (record { refusal = x; state = st }) → built st es pool ≡ b
line_kept {b} {line} h x st e =
    let is : line_refusal b line ≡ Some x = answer-refused (line_refusal b line) _ x (ap line_outcome (sym e) ∙ h.answered) in
    rw e at h.left ∙ add_line-refused b line x is
