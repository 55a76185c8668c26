-- The numbers of refusals in documents 01 and 02, and a refusal as clauses see it: by its number.
-- Assumes nothing.
use Rattle.std.specs.Prelude.{ℕ}
use Rattle.terms.specs.declared.Reason.{Reason}
use Rattle.terms.specs.declared.Reason.TheVariants.{Collation, TextLength, TableSize, CodePoint, Entry, PoolNumber, Level, Room, NoTab, RecordLength, RecordKind, RecordBody, Count, Pages, LineLength, FieldCount, Field0, Field5, Field14, Surrogate, Order, TableRoom, State, Field12, End, FirstCount}

-- the number of a reason
abbrev pub reason_number : Reason → ℕ
reason_number Collation = 1
reason_number TextLength = 2
reason_number TableSize = 3
reason_number CodePoint = 4
reason_number Entry = 5
reason_number PoolNumber = 6
reason_number Level = 7
reason_number Room = 8
reason_number NoTab = 9
reason_number RecordLength = 11
reason_number RecordKind = 12
reason_number RecordBody = 13
reason_number Count = 14
reason_number Pages = 15
reason_number LineLength = 20
reason_number FieldCount = 21
reason_number Field0 = 22
reason_number Field5 = 23
reason_number Field14 = 24
reason_number Surrogate = 25
reason_number Order = 26
reason_number TableRoom = 27
reason_number State = 28
reason_number Field12 = 29
reason_number End = 36
reason_number FirstCount = 37

-- a refusal: its number, its place and its detail
pub record Refused : Type 0 where
  pub number : ℕ
  pub place : ℕ
  pub detail : ℕ
