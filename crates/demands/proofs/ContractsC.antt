-- What the contracts of the C interface say, as Contracts.antt has it of the library's own calls: each row and every buffer.
-- A call of include/mundeziwa.h asks for nothing.
-- Assumes nothing.
use mathlib.Core.Path.{◌≡◌}
use Prim.Native.Nat.{ℕ}
use Rattle.std.specs.Prelude.{Option}
use mathlib.Core.List.{List, [], ◌∷◌}
use contract.Lifetimes.{Lfts}
use denote.Triple.Clauses.{AtExit}
use borrow.Fn.Kinds.{Dens, ended_of, res_t}
use Rattle.terms.specs.Collations.{collation_of}
use Rattle.terms.specs.Refusals.{row}
use Rattle.table.specs.Table.{table}
use Rattle.decompose.specs.TableCheck.{table_answer}
use Rattle.pages.specs.Pages.{pages}
use Rattle.prepare.specs.Calls.{Call, one_call, two_call}
use Rattle.prepare.specs.Preparing.{prepared_values}
use Rattle.compare.specs.Compare.{equality_values, order_values}
use Rattle.search.specs.Substring.{sought_values}
use Rattle.builder.specs.Builder.{built}
use Rattle.mz_tables.specs.Promises.{state_of, LineAdded}
use Rattle.mz_tables.proofs.mz_check_table.Kinds as mz-check-table-kinds
use Rattle.mz_tables.proofs.mz_check_table.Reads as mz-check-table
use Rattle.mz_tables.proofs.mz_add_line.Kinds as mz-add-line-kinds
use Rattle.mz_tables.proofs.mz_add_line.Reads as mz-add-line
use Rattle.records.specs.Items.{rules, of_text, of_key}
use Rattle.records.specs.Reading.{read_at, reading_outcome}
use Rattle.mz_records.specs.Promises.{fields_of, WritesRow}
use Rattle.mz_records.proofs.mz_read_record.Kinds as mz-read-record-kinds
use Rattle.mz_records.proofs.mz_read_record.Reads as mz-read-record
use Rattle.mz_records.proofs.mz_write_text.Kinds as mz-write-text-kinds
use Rattle.mz_records.proofs.mz_write_text.Reads as mz-write-text
use Rattle.mz_records.proofs.mz_write_key.Kinds as mz-write-key-kinds
use Rattle.mz_records.proofs.mz_write_key.Reads as mz-write-key
use Rattle.lists.specs.Lists.{lists_call}
use Rattle.mz_lists.specs.Promises.{SharesRow, SharesRowPaging}
use Rattle.mz_lists.proofs.mz_find_shared.Kinds as mz-find-shared-kinds
use Rattle.mz_lists.proofs.mz_find_shared.Reads as mz-find-shared
use Rattle.mz_lists.proofs.mz_find_shared_accepted.Kinds as mz-find-shared-accepted-kinds
use Rattle.mz_lists.proofs.mz_find_shared_accepted.Reads as mz-find-shared-accepted
use Rattle.mz_texts.specs.Promises.{RowAnswered, RowPaging}
use Rattle.mz_texts.proofs.one_text.mz_prepare.Kinds as mz-prepare-kinds
use Rattle.mz_texts.proofs.one_text.mz_prepare.Reads as mz-prepare
use Rattle.mz_texts.proofs.one_text.mz_prepare_accepted.Kinds as mz-prepare-accepted-kinds
use Rattle.mz_texts.proofs.one_text.mz_prepare_accepted.Reads as mz-prepare-accepted
use Rattle.mz_texts.proofs.two_texts.mz_equal.Kinds as mz-equal-kinds
use Rattle.mz_texts.proofs.two_texts.mz_equal.Reads as mz-equal
use Rattle.mz_texts.proofs.two_texts.mz_equal_accepted.Kinds as mz-equal-accepted-kinds
use Rattle.mz_texts.proofs.two_texts.mz_equal_accepted.Reads as mz-equal-accepted
use Rattle.mz_texts.proofs.two_texts.mz_order.Reads as mz-order
use Rattle.mz_texts.proofs.two_texts.mz_order_accepted.Reads as mz-order-accepted
use Rattle.mz_texts.proofs.two_texts.mz_substring.Reads as mz-substring
use Rattle.mz_texts.proofs.two_texts.mz_substring_accepted.Reads as mz-substring-accepted

-- ---- a table and a line

-- `mz_check_table(entries, pool, answer)`
module _ (κs : Lfts 3) (a : Dens κs mz-check-table-kinds.ps) where
  pub mz-check-table-asks-nothing : mz-check-table.Asked κs a
  mz-check-table-asks-nothing = tt

  pub mz-check-table-contract : (r : (res_t mz-check-table-kinds.r κs).Denot)
      (s : AtExit (ended_of 3 mz-check-table-kinds.ps mz-check-table-kinds.r) κs)
      → mz-check-table.Learnt κs a r s
      → s.1.1.0.now ≡ row 0 (table_answer (table a.0.now a.1.0.now))
  mz-check-table-contract r s h = h

-- `mz_add_line(entries_used, pool_used, next, line, entries, pool, answer)`
module _ (κs : Lfts 4) (a : Dens κs mz-add-line-kinds.ps) where
  pub mz-add-line-asks-nothing : mz-add-line.Asked κs a
  mz-add-line-asks-nothing = tt

  pub mz-add-line-contract : (r : (res_t mz-add-line-kinds.r κs).Denot)
      (s : AtExit (ended_of 4 mz-add-line-kinds.ps mz-add-line-kinds.r) κs)
      → mz-add-line.Learnt κs a r s
      → LineAdded (built (state_of a.0 a.1.0 a.1.1.0) a.1.1.1.1.0.now a.1.1.1.1.1.0.now)
      a.1.1.1.0.now s.1.1.1.1.1.1.0.now (table s.1.1.1.1.0.now s.1.1.1.1.1.0.now)
  mz-add-line-contract r s h = h

-- ---- one text: (collation, text, entries, pool, presence, ranks, key, answer)

module _ (κs : Lfts 7) (a : Dens κs mz-prepare-kinds.ps) where
  pub mz-prepare-asks-nothing : mz-prepare.Asked κs a
  mz-prepare-asks-nothing = tt

  pub mz-prepare-contract : (r : (res_t mz-prepare-kinds.r κs).Denot)
      (s : AtExit (ended_of 7 mz-prepare-kinds.ps mz-prepare-kinds.r) κs)
      → mz-prepare.Learnt κs a r s
      → RowPaging 4 prepared_values (one_call (collation_of a.0) a.1.0.now a.1.1.0.now a.1.1.1.0.now a.1.1.1.1.0.now
      a.1.1.1.1.1.0.now a.1.1.1.1.1.1.0.now)
      s.1.1.1.1.1.1.1.0.now (s.1.1.1.1.1.1.0.now ∷ []) (pages s.1.1.1.1.0.now s.1.1.1.1.1.0.now)
  mz-prepare-contract r s h = h

-- and its twin, which is lent the pages to read
module _ (κs : Lfts 7) (a : Dens κs mz-prepare-accepted-kinds.ps) where
  pub mz-prepare-accepted-contract : (r : (res_t mz-prepare-accepted-kinds.r κs).Denot)
      (s : AtExit (ended_of 7 mz-prepare-accepted-kinds.ps mz-prepare-accepted-kinds.r) κs)
      → mz-prepare-accepted.Learnt κs a r s
      → RowAnswered 4 prepared_values (one_call (collation_of a.0) a.1.0.now a.1.1.0.now a.1.1.1.0.now a.1.1.1.1.0.now
      a.1.1.1.1.1.0.now a.1.1.1.1.1.1.0.now)
      s.1.1.1.1.1.1.1.0.now (s.1.1.1.1.1.1.0.now ∷ [])
  mz-prepare-accepted-contract r s h = h

-- ---- two texts: (collation, first, second, entries, pool, presence, ranks, first_key, second_key, answer)

-- their parameters are of the same kinds
module _ (κs : Lfts 9) (a : Dens κs mz-equal-kinds.ps) where
  pub mz-equal-asks-nothing : mz-equal.Asked κs a
  mz-equal-asks-nothing = tt

  pub mz-order-asks-nothing : mz-order.Asked κs a
  mz-order-asks-nothing = tt

  pub mz-substring-asks-nothing : mz-substring.Asked κs a
  mz-substring-asks-nothing = tt

  module _ (r : (res_t mz-equal-kinds.r κs).Denot) (s : AtExit (ended_of 9 mz-equal-kinds.ps mz-equal-kinds.r) κs) where
    -- the row, of so many numbers after the refusal's, both buffers, and the pages
    abbrev paging : ℕ → (Call → Option (List ℕ)) → Type 0
    paging n values =
        RowPaging n values (two_call (collation_of a.0) a.1.0.now a.1.1.0.now a.1.1.1.0.now a.1.1.1.1.0.now
        a.1.1.1.1.1.0.now a.1.1.1.1.1.1.0.now a.1.1.1.1.1.1.1.0.now
        a.1.1.1.1.1.1.1.1.0.now) s.1.1.1.1.1.1.1.1.1.0.now
        (s.1.1.1.1.1.1.1.0.now ∷ s.1.1.1.1.1.1.1.1.0.now ∷ [])
        (pages s.1.1.1.1.1.0.now s.1.1.1.1.1.1.0.now)

    pub mz-equal-contract : mz-equal.Learnt κs a r s → paging 1 equality_values
    mz-equal-contract h = h

    pub mz-order-contract : mz-order.Learnt κs a r s → paging 1 order_values
    mz-order-contract h = h

    pub mz-substring-contract : mz-substring.Learnt κs a r s → paging 5 sought_values
    mz-substring-contract h = h

-- and their twins, which are lent the pages to read
module _ (κs : Lfts 9) (a : Dens κs mz-equal-accepted-kinds.ps) (r : (res_t mz-equal-accepted-kinds.r κs).Denot)
    (s : AtExit (ended_of 9 mz-equal-accepted-kinds.ps mz-equal-accepted-kinds.r) κs) where
  -- the row, of so many numbers after the refusal's, and both buffers
  abbrev answered : ℕ → (Call → Option (List ℕ)) → Type 0
  answered n values =
      RowAnswered n values (two_call (collation_of a.0) a.1.0.now a.1.1.0.now a.1.1.1.0.now a.1.1.1.1.0.now
      a.1.1.1.1.1.0.now a.1.1.1.1.1.1.0.now a.1.1.1.1.1.1.1.0.now
      a.1.1.1.1.1.1.1.1.0.now) s.1.1.1.1.1.1.1.1.1.0.now
      (s.1.1.1.1.1.1.1.0.now ∷ s.1.1.1.1.1.1.1.1.0.now ∷ [])

  pub mz-equal-accepted-contract : mz-equal-accepted.Learnt κs a r s → answered 1 equality_values
  mz-equal-accepted-contract h = h

  pub mz-order-accepted-contract : mz-order-accepted.Learnt κs a r s → answered 1 order_values
  mz-order-accepted-contract h = h

  pub mz-substring-accepted-contract : mz-substring-accepted.Learnt κs a r s → answered 5 sought_values
  mz-substring-accepted-contract h = h

-- ---- records

-- `mz_read_record(records, position, answer)`
module _ (κs : Lfts 2) (a : Dens κs mz-read-record-kinds.ps) where
  pub mz-read-record-asks-nothing : mz-read-record.Asked κs a
  mz-read-record-asks-nothing = tt

  pub mz-read-record-contract : (r : (res_t mz-read-record-kinds.r κs).Denot)
      (s : AtExit (ended_of 2 mz-read-record-kinds.ps mz-read-record-kinds.r) κs)
      → mz-read-record.Learnt κs a r s
      → s.1.1.0.now ≡ row 6 (reading_outcome (read_at rules a.0.now a.1.0))
  mz-read-record-contract r s h = h

-- `mz_write_text(text, records, position, answer)`
module _ (κs : Lfts 3) (a : Dens κs mz-write-text-kinds.ps) where
  pub mz-write-text-asks-nothing : mz-write-text.Asked κs a
  mz-write-text-asks-nothing = tt

  pub mz-write-text-contract : (r : (res_t mz-write-text-kinds.r κs).Denot)
      (s : AtExit (ended_of 3 mz-write-text-kinds.ps mz-write-text-kinds.r) κs)
      → mz-write-text.Learnt κs a r s
      → WritesRow (of_text a.0.now) a.1.1.0 a.1.0.now s.1.1.1.0.now s.1.0.now
  mz-write-text-contract r s h = h

-- `mz_write_key(collation, valid, text_length, key, records, position, answer)`
module _ (κs : Lfts 3) (a : Dens κs mz-write-key-kinds.ps) where
  pub mz-write-key-asks-nothing : mz-write-key.Asked κs a
  mz-write-key-asks-nothing = tt

  pub mz-write-key-contract : (r : (res_t mz-write-key-kinds.r κs).Denot)
      (s : AtExit (ended_of 3 mz-write-key-kinds.ps mz-write-key-kinds.r) κs)
      → mz-write-key.Learnt κs a r s
      → WritesRow (of_key (fields_of a.0 a.1.0 a.1.1.0) a.1.1.1.0.now) a.1.1.1.1.1.0
      a.1.1.1.1.0.now s.1.1.1.1.1.1.0.now s.1.1.1.1.0.now
  mz-write-key-contract r s h = h

-- ---- lists

-- `mz_find_shared(collation, first, second, entries, pool, presence, ranks, store, partners, positions, answer)`
module _ (κs : Lfts 10) (a : Dens κs mz-find-shared-kinds.ps) where
  pub mz-find-shared-asks-nothing : mz-find-shared.Asked κs a
  mz-find-shared-asks-nothing = tt

  pub mz-find-shared-contract : (r : (res_t mz-find-shared-kinds.r κs).Denot)
      (s : AtExit (ended_of 10 mz-find-shared-kinds.ps mz-find-shared-kinds.r) κs)
      → mz-find-shared.Learnt κs a r s
      → SharesRowPaging
      (lists_call (collation_of a.0) a.1.0.now a.1.1.0.now a.1.1.1.0.now a.1.1.1.1.0.now
      a.1.1.1.1.1.0.now a.1.1.1.1.1.1.0.now a.1.1.1.1.1.1.1.0.now
      a.1.1.1.1.1.1.1.1.0.now a.1.1.1.1.1.1.1.1.1.0.now) s.1.1.1.1.1.1.1.1.1.1.0.now
      (s.1.1.1.1.1.1.1.0.now ∷ s.1.1.1.1.1.1.1.1.0.now ∷ s.1.1.1.1.1.1.1.1.1.0.now ∷ [])
      (pages s.1.1.1.1.1.0.now s.1.1.1.1.1.1.0.now)
  mz-find-shared-contract r s h = h

-- and its twin, which is lent the pages to read
module _ (κs : Lfts 10) (a : Dens κs mz-find-shared-accepted-kinds.ps) where
  pub mz-find-shared-accepted-contract : (r : (res_t mz-find-shared-accepted-kinds.r κs).Denot)
      (s : AtExit (ended_of 10 mz-find-shared-accepted-kinds.ps mz-find-shared-accepted-kinds.r) κs)
      → mz-find-shared-accepted.Learnt κs a r s
      → SharesRow
      (lists_call (collation_of a.0) a.1.0.now a.1.1.0.now a.1.1.1.0.now a.1.1.1.1.0.now
      a.1.1.1.1.1.0.now a.1.1.1.1.1.1.0.now a.1.1.1.1.1.1.1.0.now
      a.1.1.1.1.1.1.1.1.0.now a.1.1.1.1.1.1.1.1.1.0.now) s.1.1.1.1.1.1.1.1.1.1.0.now
      (s.1.1.1.1.1.1.1.0.now ∷ s.1.1.1.1.1.1.1.1.0.now ∷ s.1.1.1.1.1.1.1.1.1.0.now ∷ [])
  mz-find-shared-accepted-contract r s h = h
