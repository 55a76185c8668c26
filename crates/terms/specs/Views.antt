-- What clauses see of a refusal, and the refusal that is seen so; the reason of a number.
-- Assumes nothing.
use Rattle.std.specs.Prelude.{◌≡◌, ℕ, cond, eqb, refl}
use Rattle.terms.specs.Reasons.{Refused, reason_number}
use Rattle.terms.specs.declared.Reason.{Reason}
use Rattle.terms.specs.declared.Reason.TheVariants.{Collation, TextLength, TableSize, CodePoint, Entry, PoolNumber, Level, Room, NoTab, RecordLength, RecordKind, RecordBody, Count, Pages, LineLength, FieldCount, Field0, Field5, Field14, Surrogate, Order, TableRoom, State, Field12, End, FirstCount}
use Rattle.terms.specs.declared.Refusal.TheInside.{Inside}

-- a refusal by its number
abbrev pub refused_by : Inside → Refused
refused_by r = record { number = r.number; place = r.place; detail = r.detail }

-- the reason of a number; of one that no reason has, any
abbrev pub reason_numbered : ℕ → Reason
reason_numbered n =
    cond (eqb n 1) Collation
    (cond (eqb n 2) TextLength
    (cond (eqb n 3) TableSize
    (cond (eqb n 4) CodePoint
    (cond (eqb n 5) Entry
    (cond (eqb n 6) PoolNumber
    (cond (eqb n 7) Level
    (cond (eqb n 8) Room
    (cond (eqb n 9) NoTab
    (cond (eqb n 11) RecordLength
    (cond (eqb n 12) RecordKind
    (cond (eqb n 13) RecordBody
    (cond (eqb n 14) Count
    (cond (eqb n 15) Pages
    (cond (eqb n 20) LineLength
    (cond (eqb n 21) FieldCount
    (cond (eqb n 22) Field0
    (cond (eqb n 23) Field5
    (cond (eqb n 24) Field14
    (cond (eqb n 25) Surrogate
    (cond (eqb n 26) Order
    (cond (eqb n 27) TableRoom
    (cond (eqb n 28) State
    (cond (eqb n 29) Field12
    (cond (eqb n 36) End
    (cond (eqb n 37) FirstCount Collation)))))))))))))))))))))))))

-- and the refusal that is seen so
abbrev pub refusing : Refused → Inside
refusing x = record { number = x.number; place = x.place; detail = x.detail }

-- reasons have different numbers
pub reason_numbered-back : (r : Reason) → reason_numbered (reason_number r) ≡ r
reason_numbered-back Collation = refl
reason_numbered-back TextLength = refl
reason_numbered-back TableSize = refl
reason_numbered-back CodePoint = refl
reason_numbered-back Entry = refl
reason_numbered-back PoolNumber = refl
reason_numbered-back Level = refl
reason_numbered-back Room = refl
reason_numbered-back NoTab = refl
reason_numbered-back RecordLength = refl
reason_numbered-back RecordKind = refl
reason_numbered-back RecordBody = refl
reason_numbered-back Count = refl
reason_numbered-back Pages = refl
reason_numbered-back LineLength = refl
reason_numbered-back FieldCount = refl
reason_numbered-back Field0 = refl
reason_numbered-back Field5 = refl
reason_numbered-back Field14 = refl
reason_numbered-back Surrogate = refl
reason_numbered-back Order = refl
reason_numbered-back TableRoom = refl
reason_numbered-back State = refl
reason_numbered-back Field12 = refl
reason_numbered-back End = refl
reason_numbered-back FirstCount = refl

pub refusing-refused_by : (a : Inside) → refusing (refused_by a) ≡ a
refusing-refused_by a = refl
