-- Writing an item's record at a position of a slice (document 02, request 2).
-- Assumes nothing.
use Rattle.std.specs.Prelude.{◌≡◌, ℕ, ◌+◌, ◌-◌, not, List, [], ◌∷◌, ltb, length}
use Rattle.std.specs.Prelude.{Option, None, Some, Result}
use Rattle.terms.specs.Lists.{put_at}
use Rattle.terms.specs.Refusals.{check, first, answer, Outcome, outcome}
use Rattle.terms.specs.declared.Refusal.{Refusal}
use Rattle.records.specs.Items.{Rules, rules, Item, fits, record_of}
use Rattle.terms.specs.declared.RecordPosition.{RecordPosition}

-- "8 no room (detail the whole record)": octets in the slice from the position on, none where it is past the end
abbrev pub room_checks : List ℕ → ℕ → ℕ → List (Option Refusal)
room_checks octets p n = check (ltb (n - p) (length octets)) 8 0 (length octets) ∷ []

-- "writing 13, 8, all with place 0", in a slice of n octets
abbrev pub writing_checks : Rules → Item → ℕ → ℕ → List (Option Refusal)
writing_checks r i p n = check (not (fits r i)) 13 0 0 ∷ room_checks (record_of i) p n

-- the refusal of an item that is to be written at a position of a slice of n octets, if there is one
abbrev pub writing_refusal : Item → ℕ → ℕ → Option Refusal
writing_refusal i p n = first (writing_checks rules i p n)

-- octets put at a position, unless that is refused
abbrev pub put_unless : Option Refusal → List ℕ → ℕ → List ℕ → List ℕ
put_unless None octets p slice = put_at p octets slice
put_unless (Some x) octets p slice = slice

-- what writing answers: a refusal, or the position after the record
abbrev pub writing_answer : Item → ℕ → List ℕ → Outcome
writing_answer i p slice = answer (writing_refusal i p (length slice)) ((p + length (record_of i)) ∷ [])

-- what it leaves: the record at the position and all else as before, and on a refusal the slice
abbrev pub writing_leaves : Item → ℕ → List ℕ → List ℕ
writing_leaves i p slice = put_unless (writing_refusal i p (length slice)) (record_of i) p slice

-- the answer in the paper's numbers
abbrev pub written_outcome : Result RecordPosition Refusal → Outcome
written_outcome r = outcome (λ p. p.0 ∷ []) r

-- octets were put at a position unless x refuses it: the answer, and the whole slice
pub record PutsAt (x : Option Refusal) (octets : List ℕ) (p : ℕ) (slice : List ℕ) (r : Result RecordPosition Refusal) (after : List ℕ) : Type 0 where
  pub answered : written_outcome r ≡ answer x ((p + length octets) ∷ [])
  pub left : after ≡ put_unless x octets p slice

-- an item's record was written at a position, unless it is refused
abbrev pub Writes : Item → ℕ → List ℕ → Result RecordPosition Refusal → List ℕ → Type 0
Writes i p slice r after = PutsAt (writing_refusal i p (length slice)) (record_of i) p slice r after
