-- What the contracts of the public calls say is what the theorems of the demands take, and they ask for nothing. `Learnt` is
-- generated from the `ensures` of a function, and is what a caller learns of the arguments a, the result r and the slices s at
-- exit; `Asked` is generated from its `requires`. So a contract that is weakened, or that comes to ask for something, is
-- refused here. The values of a slice stand under `now`; κs are the lifetimes. ContractsC.antt has the calls of the C interface,
-- ContractsBulk.antt those on many texts and keys.
-- Assumes nothing.
use mathlib.Core.Path.{◌≡◌}
use mathlib.Core.List.{[], ◌∷◌}
use contract.Lifetimes.{Lfts}
use denote.Triple.Clauses.{AtExit}
use borrow.Fn.Kinds.{Dens, ended_of, res_t}
use Rattle.terms.specs.Collations.{collation_of}
use Rattle.terms.specs.Refusals.{check_outcome}
use Rattle.table.specs.Table.{table}
use Rattle.decompose.specs.TableCheck.{table_answer}
use Rattle.decompose.proofs.check_table.Kinds as check-table-kinds
use Rattle.decompose.proofs.check_table.Reads as check-table
use Rattle.pages.specs.Pages.{pages}
use Rattle.prepare.specs.Calls.{Call, one_call, two_call, Called, CalledPaging}
use Rattle.prepare.specs.Preparing.{shown_key, Prepares, PreparesPaging}
use Rattle.prepare.proofs.prepare.Kinds as prepare-kinds
use Rattle.prepare.proofs.prepare.Reads as prepare
use Rattle.prepare.proofs.prepare_accepted.Kinds as prepare-accepted-kinds
use Rattle.prepare.proofs.prepare_accepted.Reads as prepare-accepted
use Rattle.prepare.proofs.shown_key.Kinds as shown-key-kinds
use Rattle.prepare.proofs.shown_key.Reads as shown-key
use Rattle.compare.specs.Compare.{equality_outcome, equality_values, order_outcome, order_values}
use Rattle.compare.proofs.equal.Kinds as equal-kinds
use Rattle.compare.proofs.equal.Reads as equal
use Rattle.compare.proofs.equal_accepted.Kinds as equal-accepted-kinds
use Rattle.compare.proofs.equal_accepted.Reads as equal-accepted
use Rattle.compare.proofs.order.Kinds as order-kinds
use Rattle.compare.proofs.order.Reads as order
use Rattle.compare.proofs.order_accepted.Kinds as order-accepted-kinds
use Rattle.compare.proofs.order_accepted.Reads as order-accepted
use Rattle.search.specs.Substring.{substring_outcome, sought_values}
use Rattle.search.proofs.substring.Kinds as substring-kinds
use Rattle.search.proofs.substring.Reads as substring
use Rattle.search.proofs.substring_accepted.Kinds as substring-accepted-kinds
use Rattle.search.proofs.substring_accepted.Reads as substring-accepted
use Rattle.records.specs.Items.{of_text, of_key}
use Rattle.records.specs.Writing.{Writes}
use Rattle.records.proofs.read_record.Kinds as read-record-kinds
use Rattle.records.proofs.read_record.Reads as read-record
use Rattle.records.proofs.write_text.Kinds as write-text-kinds
use Rattle.records.proofs.write_text.Reads as write-text
use Rattle.records.proofs.write_key.Kinds as write-key-kinds
use Rattle.records.proofs.write_key.Reads as write-key
use Rattle.lists.specs.Lists.{lists_call, SharesPaging}
use Rattle.lists.proofs.find_shared.Kinds as find-shared-kinds
use Rattle.lists.proofs.find_shared.Reads as find-shared
use Rattle.lists.proofs.find_shared_accepted.Kinds as find-shared-accepted-kinds
use Rattle.lists.proofs.find_shared_accepted.Reads as find-shared-accepted
use Rattle.demands.specs.Records.{ReadCall}
use Rattle.demands.specs.Lists.{ShareCall}
use Rattle.builder.specs.Builder.{built, Added}
use Rattle.builder.proofs.add_line.Kinds as add-line-kinds
use Rattle.builder.proofs.add_line.Reads as add-line

-- ---- "Every call ends with an answer on any octets, any table, any buffer sizes": none has a `requires`

pub check-table-asks-nothing : (κs : Lfts 2) (a : Dens κs check-table-kinds.ps) → check-table.Asked κs a
check-table-asks-nothing κs a = tt

pub add-line-asks-nothing : (κs : Lfts 3) (a : Dens κs add-line-kinds.ps) → add-line.Asked κs a
add-line-asks-nothing κs a = tt

pub prepare-asks-nothing : (κs : Lfts 6) (a : Dens κs prepare-kinds.ps) → prepare.Asked κs a
prepare-asks-nothing κs a = tt

pub shown-key-asks-nothing : (κs : Lfts 1) (a : Dens κs shown-key-kinds.ps) → shown-key.Asked κs a
shown-key-asks-nothing κs a = tt

module _ (κs : Lfts 8) (a : Dens κs order-kinds.ps) where
  pub equal-asks-nothing : equal.Asked κs a
  equal-asks-nothing = tt

  pub order-asks-nothing : order.Asked κs a
  order-asks-nothing = tt

  pub substring-asks-nothing : substring.Asked κs a
  substring-asks-nothing = tt

-- ---- a table and a line

-- `check_table(entries, pool)`
pub check-table-contract : (κs : Lfts 2) (a : Dens κs check-table-kinds.ps) (r : (res_t check-table-kinds.r κs).Denot)
    (s : AtExit (ended_of 2 check-table-kinds.ps check-table-kinds.r) κs)
    → check-table.Learnt κs a r s
    → check_outcome r ≡ table_answer (table a.0.now a.1.0.now)
check-table-contract κs a r s h = h

-- `add_line(state, line, entries, pool)`
pub add-line-contract : (κs : Lfts 3) (a : Dens κs add-line-kinds.ps) (r : (res_t add-line-kinds.r κs).Denot)
    (s : AtExit (ended_of 3 add-line-kinds.ps add-line-kinds.r) κs)
    → add-line.Learnt κs a r s
    → Added (built a.0 a.1.1.0.now a.1.1.1.0.now) a.1.0.now r s.1.1.0.now s.1.1.1.0.now
add-line-contract κs a r s h = h

-- ---- one text

-- `prepare(collation, text, entries, pool, presence, ranks, key)`: the call, the answer, the key buffer, and the pages
pub prepare-contract : (κs : Lfts 6) (a : Dens κs prepare-kinds.ps) (r : (res_t prepare-kinds.r κs).Denot)
    (s : AtExit (ended_of 6 prepare-kinds.ps prepare-kinds.r) κs)
    → prepare.Learnt κs a r s
    → PreparesPaging (one_call (collation_of a.0) a.1.0.now a.1.1.0.now a.1.1.1.0.now a.1.1.1.1.0.now
    a.1.1.1.1.1.0.now a.1.1.1.1.1.1.0.now) r s.1.1.1.1.1.1.0.now (pages s.1.1.1.1.0.now s.1.1.1.1.1.0.now)
prepare-contract κs a r s h = h

-- and its twin, which is lent the pages to read
pub prepare-accepted-contract : (κs : Lfts 6) (a : Dens κs prepare-accepted-kinds.ps) (r : (res_t prepare-accepted-kinds.r κs).Denot)
    (s : AtExit (ended_of 6 prepare-accepted-kinds.ps prepare-accepted-kinds.r) κs)
    → prepare-accepted.Learnt κs a r s
    → Prepares (one_call (collation_of a.0) a.1.0.now a.1.1.0.now a.1.1.1.0.now a.1.1.1.1.0.now
    a.1.1.1.1.1.0.now a.1.1.1.1.1.1.0.now) r s.1.1.1.1.1.1.0.now
prepare-accepted-contract κs a r s h = h

-- `shown_key(text, key, preparation)`
pub shown-key-contract : (κs : Lfts 1) (a : Dens κs shown-key-kinds.ps) (r : (res_t shown-key-kinds.r κs).Denot)
    (s : AtExit (ended_of 1 shown-key-kinds.ps shown-key-kinds.r) κs)
    → shown-key.Learnt κs a r s
    → r.now ≡ shown_key a.1.1.0 a.0.now a.1.0.now
shown-key-contract κs a r s h = h

-- ---- two texts

-- a call (collation, first, second, entries, pool, presence, ranks, first_key, second_key), which `equal`, `order` and
-- `substring` have alike
abbrev two : (κs : Lfts 8) → Dens κs order-kinds.ps → Call
two κs a =
    two_call (collation_of a.0) a.1.0.now a.1.1.0.now a.1.1.1.0.now a.1.1.1.1.0.now
    a.1.1.1.1.1.0.now a.1.1.1.1.1.1.0.now a.1.1.1.1.1.1.1.0.now
    a.1.1.1.1.1.1.1.1.0.now

module _ (κs : Lfts 8) (a : Dens κs order-kinds.ps) where
  module _ (r : (res_t equal-kinds.r κs).Denot) (s : AtExit (ended_of 8 equal-kinds.ps equal-kinds.r) κs) where
    pub equal-contract : equal.Learnt κs a r s
        → CalledPaging equality_outcome equality_values (two κs a) r (s.1.1.1.1.1.1.1.0.now ∷ s.1.1.1.1.1.1.1.1.0.now ∷ [])
        (pages s.1.1.1.1.1.0.now s.1.1.1.1.1.1.0.now)
    equal-contract h = h

  module _ (r : (res_t order-kinds.r κs).Denot) (s : AtExit (ended_of 8 order-kinds.ps order-kinds.r) κs) where
    pub order-contract : order.Learnt κs a r s
        → CalledPaging order_outcome order_values (two κs a) r (s.1.1.1.1.1.1.1.0.now ∷ s.1.1.1.1.1.1.1.1.0.now ∷ [])
        (pages s.1.1.1.1.1.0.now s.1.1.1.1.1.1.0.now)
    order-contract h = h

  module _ (r : (res_t substring-kinds.r κs).Denot) (s : AtExit (ended_of 8 substring-kinds.ps substring-kinds.r) κs) where
    pub substring-contract : substring.Learnt κs a r s
        → CalledPaging substring_outcome sought_values (two κs a) r (s.1.1.1.1.1.1.1.0.now ∷ s.1.1.1.1.1.1.1.1.0.now ∷ [])
        (pages s.1.1.1.1.1.0.now s.1.1.1.1.1.1.0.now)
    substring-contract h = h

-- and their twins, which are lent the pages to read
abbrev two-accepted : (κs : Lfts 8) → Dens κs order-accepted-kinds.ps → Call
two-accepted κs a =
    two_call (collation_of a.0) a.1.0.now a.1.1.0.now a.1.1.1.0.now a.1.1.1.1.0.now
    a.1.1.1.1.1.0.now a.1.1.1.1.1.1.0.now a.1.1.1.1.1.1.1.0.now
    a.1.1.1.1.1.1.1.1.0.now

module _ (κs : Lfts 8) (a : Dens κs order-accepted-kinds.ps) where
  module _ (r : (res_t equal-accepted-kinds.r κs).Denot) (s : AtExit (ended_of 8 equal-accepted-kinds.ps equal-accepted-kinds.r) κs) where
    pub equal-accepted-contract : equal-accepted.Learnt κs a r s
        → Called equality_outcome equality_values (two-accepted κs a) r (s.1.1.1.1.1.1.1.0.now ∷ s.1.1.1.1.1.1.1.1.0.now ∷ [])
    equal-accepted-contract h = h

  module _ (r : (res_t order-accepted-kinds.r κs).Denot) (s : AtExit (ended_of 8 order-accepted-kinds.ps order-accepted-kinds.r) κs) where
    pub order-accepted-contract : order-accepted.Learnt κs a r s
        → Called order_outcome order_values (two-accepted κs a) r (s.1.1.1.1.1.1.1.0.now ∷ s.1.1.1.1.1.1.1.1.0.now ∷ [])
    order-accepted-contract h = h

  module _ (r : (res_t substring-accepted-kinds.r κs).Denot)
      (s : AtExit (ended_of 8 substring-accepted-kinds.ps substring-accepted-kinds.r) κs) where
    pub substring-accepted-contract : substring-accepted.Learnt κs a r s
        → Called substring_outcome sought_values (two-accepted κs a) r (s.1.1.1.1.1.1.1.0.now ∷ s.1.1.1.1.1.1.1.1.0.now ∷ [])
    substring-accepted-contract h = h

-- ---- records

-- `read_record(records, position)`
module _ (κs : Lfts 1) (a : Dens κs read-record-kinds.ps) where
  pub read-record-asks-nothing : read-record.Asked κs a
  read-record-asks-nothing = tt

  pub read-record-contract : (r : (res_t read-record-kinds.r κs).Denot)
      (s : AtExit (ended_of 1 read-record-kinds.ps read-record-kinds.r) κs)
      → read-record.Learnt κs a r s
      → ReadCall a.0.now a.1.0.0 r
  read-record-contract r s h = h

-- `write_text(text, records, position)`
module _ (κs : Lfts 2) (a : Dens κs write-text-kinds.ps) where
  pub write-text-asks-nothing : write-text.Asked κs a
  write-text-asks-nothing = tt

  pub write-text-contract : (r : (res_t write-text-kinds.r κs).Denot)
      (s : AtExit (ended_of 2 write-text-kinds.ps write-text-kinds.r) κs)
      → write-text.Learnt κs a r s
      → Writes (of_text a.0.now) a.1.1.0.0 a.1.0.now r s.1.0.now
  write-text-contract r s h = h

-- `write_key(fields, key, records, position)`
module _ (κs : Lfts 2) (a : Dens κs write-key-kinds.ps) where
  pub write-key-asks-nothing : write-key.Asked κs a
  write-key-asks-nothing = tt

  pub write-key-contract : (r : (res_t write-key-kinds.r κs).Denot)
      (s : AtExit (ended_of 2 write-key-kinds.ps write-key-kinds.r) κs)
      → write-key.Learnt κs a r s
      → Writes (of_key a.0 a.1.0.now) a.1.1.1.0.0 a.1.1.0.now r s.1.1.0.now
  write-key-contract r s h = h

-- ---- lists

-- `find_shared(collation, first, second, entries, pool, presence, ranks, store, partners, positions)`
module _ (κs : Lfts 9) (a : Dens κs find-shared-kinds.ps) where
  pub find-shared-asks-nothing : find-shared.Asked κs a
  find-shared-asks-nothing = tt

  pub find-shared-contract : (r : (res_t find-shared-kinds.r κs).Denot)
      (s : AtExit (ended_of 9 find-shared-kinds.ps find-shared-kinds.r) κs)
      → find-shared.Learnt κs a r s
      → SharesPaging
      (lists_call (collation_of a.0) a.1.0.now a.1.1.0.now a.1.1.1.0.now a.1.1.1.1.0.now
      a.1.1.1.1.1.0.now a.1.1.1.1.1.1.0.now a.1.1.1.1.1.1.1.0.now
      a.1.1.1.1.1.1.1.1.0.now a.1.1.1.1.1.1.1.1.1.0.now) r
      (s.1.1.1.1.1.1.1.0.now ∷ s.1.1.1.1.1.1.1.1.0.now ∷ s.1.1.1.1.1.1.1.1.1.0.now ∷ [])
      (pages s.1.1.1.1.1.0.now s.1.1.1.1.1.1.0.now)
  find-shared-contract r s h = h

-- and its twin, which is lent the pages to read
pub find-shared-accepted-contract : (κs : Lfts 9) (a : Dens κs find-shared-accepted-kinds.ps)
    (r : (res_t find-shared-accepted-kinds.r κs).Denot)
    (s : AtExit (ended_of 9 find-shared-accepted-kinds.ps find-shared-accepted-kinds.r) κs)
    → find-shared-accepted.Learnt κs a r s
    → ShareCall
    (lists_call (collation_of a.0) a.1.0.now a.1.1.0.now a.1.1.1.0.now a.1.1.1.1.0.now
    a.1.1.1.1.1.0.now a.1.1.1.1.1.1.0.now a.1.1.1.1.1.1.1.0.now
    a.1.1.1.1.1.1.1.1.0.now a.1.1.1.1.1.1.1.1.1.0.now) r
    (s.1.1.1.1.1.1.1.0.now ∷ s.1.1.1.1.1.1.1.1.0.now ∷ s.1.1.1.1.1.1.1.1.1.0.now ∷ [])
find-shared-accepted-contract κs a r s h = h
