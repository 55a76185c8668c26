-- Octets put at a position, and items written, by cases: refused with 8 or 13, or put.
-- Assumes nothing.
use mathlib.Core.Path.{◌≡◌, ap, subst}
use Prim.Native.Nat.{ℕ, ◌+◌, ◌-◌, ◌≤◌, ◌<◌}
use mathlib.Core.Bool.{true, false}
use mathlib.Core.List.{List, ◌++◌}
use lib.ListN.{length, take, drop}
use borrow.Author.Tests.{lt-ltb, le-ltb}
use Rattle.terms.specs.Refusals.{refusal, first}
use Rattle.terms.proofs.Parts.{take-drop, put_back}
use Rattle.octets.specs.Put.{Puts}
use Rattle.records.specs.Items.{rules, Item, of_key, fits, key_fits, field_octets, record_of}
use Rattle.records.specs.Writing.{written_outcome, room_checks, PutsAt, Writes}
use Rattle.records.specs.Promises.{WritesBody}
use Rattle.records.specs.declared.KeyFields.{KeyFields}
use Rattle.std.specs.Prelude.{Result, Ok, Err}
use Rattle.terms.specs.declared.RecordPosition.{RecordPosition}
use Rattle.terms.specs.declared.Refusal.{Refusal}

module _ (octets : List ℕ) (p : ℕ) (slice : List ℕ) (r : Result RecordPosition Refusal) where
  -- there is no room
  pub puts-no-room : length slice - p < length octets → r ≡ Err (refusal 8 0 (length octets))
      → PutsAt (first (room_checks octets p (length slice))) octets p slice r slice
  puts-no-room h e = rw (lt-ltb (length slice - p) (length octets) h) (record { answered = ap written_outcome e; left = cc })

  -- there is: the octets were put into the part from the position on, which came back
  pub puts-room : (n : ℕ) (part : List ℕ) → length octets ≤ length slice - p
      → Puts octets (take (length slice - p) (drop p slice)) n part
      → r ≡ Ok (record { 0 = p + length octets })
      → PutsAt (first (room_checks octets p (length slice))) octets p slice r
      (take p slice ++ (part ++ drop (length slice - p) (drop p slice)))
  puts-room n part h q e =
      rw (le-ltb (length slice - p) (length octets) h, put_back p slice part) (record {
        answered = ap written_outcome e;
        left = ap (λ (l : List ℕ). take p slice ++ l) (rw (take-drop p slice) at q.left);
      })

module _ (i : Item) (p : ℕ) (slice : List ℕ) (r : Result RecordPosition Refusal) where
  -- an item that doesn't fit
  pub writes-unfit : fits rules i ≡ false → r ≡ Err (refusal 13 0 0) → Writes i p slice r slice
  writes-unfit e f = rw e (record { answered = ap written_outcome f; left = cc })

  -- one that does: its record is put where there is room
  pub writes-fit : (after : List ℕ) → fits rules i ≡ true
      → PutsAt (first (room_checks (record_of i) p (length slice))) (record_of i) p slice r after
      → Writes i p slice r after
  writes-fit after e q = rw e q

-- a key whose fields were put before it
pub writes_key : (f : KeyFields) (key : List ℕ) (p : ℕ) (slice : List ℕ) (r : Result RecordPosition Refusal) (after octets : List ℕ)
    → octets ≡ field_octets f
    → key_fits rules f (length key) ≡ true
    → WritesBody 2 (octets ++ key) p slice r after
    → Writes (of_key f key) p slice r after
writes_key f key p slice r after octets e fit w =
    writes-fit (of_key f key) p slice r after fit (subst (λ (xs : List ℕ). WritesBody 2 (xs ++ key) p slice r after) e w)
