-- What the contracts of the inner functions cite.
-- Assumes nothing.
use Rattle.std.specs.Prelude.{ℕ, Bool, true, false, cond, List, length}
use Rattle.std.specs.Prelude.{Option, None, Some, Result}
use Rattle.terms.specs.Refusals.{first}
use Rattle.records.specs.Items.{Rules, rules, list_rules, framed}
use Rattle.records.specs.Reading.{short, said_length}
use Rattle.records.specs.Writing.{room_checks, PutsAt}
use Rattle.terms.specs.declared.Refusal.{Refusal}
use Rattle.terms.specs.declared.RecordPosition.{RecordPosition}

-- the rules of a reader, by whether it reads keys too
abbrev pub rules_for : Bool → Rules
rules_for true = rules
rules_for false = list_rules

-- the length that the octets from a position on begin with, unless 11 applies
abbrev pub whole_length : List ℕ → Option ℕ
whole_length rest = cond (short rest) None (Some (said_length rest))

-- a record of a kind and a body was written at a position, unless there is no room
abbrev pub WritesBody : ℕ → List ℕ → ℕ → List ℕ → Result RecordPosition Refusal → List ℕ → Type 0
WritesBody kind body p slice r after =
    PutsAt (first (room_checks (framed kind body) p (length slice))) (framed kind body) p slice r after
