-- What is left of a call that passed 1 to 7 and 15: a summary's numbers say which refusal 8 is, and keys that were written answer
-- the call.
-- Assumes nothing.
use Rattle.std.specs.Prelude.{None, Some, Ok, Err}
use mathlib.Core.Path.{◌≡◌, refl, sym, ap, ap₂, ◌∙◌}
use Prim.Native.Nat.{ℕ, zero-le, ◌≤◌}
use native.Mathlib.Omega.{arith}
use mathlib.Core.Bool.{Bool, true, false, cond}
use mathlib.Core.List.{List, [], ◌∷◌, ◌++◌}
use lib.ListN.{length}
use borrow.Author.Tests.{ltb-false, le-ltb}
use Rattle.terms.specs.Lists.{or_else, total}
use Rattle.terms.specs.Refusals.{gives}
use Rattle.terms.specs.declared.Collation.{Collation}
use Rattle.terms.specs.declared.Refusal.{Refusal}
use Rattle.terms.proofs.Checks.{or_else-none, when-none}
use Rattle.utf8.specs.Utf8.{characters}
use Rattle.table.specs.Table.{Table, mapping_of}
use Rattle.pages.specs.Pages.{Pages}
use Rattle.keys.specs.Keys.{PreparedText, prepared, room_for, keyed, unicode_prepared, table_under}
use Rattle.keys.specs.Summaries.{truth, place_number, summary_numbers, prepared_numbers, KeyFilled}
use Rattle.keys.specs.declared.KeyPlace.{KeyPlace}
use Rattle.keys.specs.declared.KeyPlace.TheVariants.{Text, Buffer}
use Rattle.keys.specs.declared.Summary.{Summary}
use Rattle.keys.proofs.Bounds.{prepared-count, key-most, Roomy}
use Rattle.keys.proofs.Collations.{table_under-unicode}
use Rattle.prepare.specs.Calls.{Lent, call, room_check, room_refusal, CalledReady}
use Rattle.prepare.specs.Preparing.{prepared_values, pair_outcome, PreparesReady}
use Rattle.prepare.specs.Promises.{needed_at, room_needed}

-- ---- the room that a summary asks for

-- what a key needs by its place and length is what it needs by the definition
needed : (place : KeyPlace) (buffered : Bool) (n len : ℕ) → place_number place ≡ truth buffered → n ≡ len
    → needed_at place n ≡ cond buffered len 0
needed Text true n len e h = cc
needed Text false n len e h = refl
needed Buffer true n len e h = h
needed Buffer false n len e h = cc

module _ (p : PreparedText) (s : Summary) (sized : summary_numbers s ≡ prepared_numbers p) where
  pub needed-room_for : needed_at s.place s.key_length ≡ room_for p
  needed-room_for = needed s.place p.buffered s.key_length (length p.key) (cc) (cc)

  -- 8 by a summary's numbers is 8
  pub room_needed-room_check : (place room : ℕ) → room_needed place room s ≡ room_check place room p
  room_needed-room_check place room = rw needed-room_for

  -- a key that passes 8 has room
  pub room-enough : (place room : ℕ) → room_needed place room s ≡ None → room_for p ≤ room
  room-enough place room e =
      ltb-false room (room_for p) (when-none _ _ (sym (room_needed-room_check place room) ∙ e))

  -- and one that has room passes it
  pub room-none : (place room : ℕ) → room_for p ≤ room → room_needed place room s ≡ None
  room-none place room l = room_needed-room_check place room ∙ rw (le-ltb room (room_for p) l)

  -- the lookup count is the definition's
  summary-count : s.lookups ≡ p.count
  summary-count = cc

-- ---- a key that was written

-- a text's key was written: its summary's numbers, that 8 does not apply, and its buffer
pub record Written (k : Collation) (t : Table) (place : ℕ) (l : Lent) (s : Summary) (after : List ℕ) : Type 0 where
  pub sized : summary_numbers s ≡ prepared_numbers (prepared k (mapping_of t) l.text)
  pub room : room_needed place (length l.buffer) s ≡ None
  pub left : after ≡ keyed (prepared k (mapping_of t) l.text) l.buffer

-- filling a roomy buffer writes the key
pub filled-written : {k : Collation} {t : Table} {place : ℕ} {l : Lent} {s : Summary} {after : List ℕ} → table_under k t ≡ None
    → Roomy k (length l.text) (length l.buffer)
    → KeyFilled (unicode_prepared (mapping_of t) l.text (characters l.text)) l.buffer s after
    → Written k t place l s after
filled-written {k} {t} {place} {l} {s} table r filled =
    let accepted = table_under-unicode k r.unicode t table in
    rw r.unicode (record {
      sized = filled.numbers;
      room =
          room-none (unicode_prepared (mapping_of t) l.text (characters l.text)) s filled.numbers place
          (length l.buffer)
          (omega (arith, key-most t l.text accepted, r.enough));
      left = filled.left;
    })

-- ---- one text

-- the refusal of one text for its key's room
room_refusal-one : (k : Collation) (t : Table) (p : Pages) (l : Lent) (s : Summary)
    → summary_numbers s ≡ prepared_numbers (prepared k (mapping_of t) l.text)
    → room_refusal (call (Some k) t p (l ∷ [])) ≡ room_needed 1 (length l.buffer) s
room_refusal-one k t p l s sized =
    let x = prepared k (mapping_of t) l.text in
    or_else-none (room_check 1 (length l.buffer) x) ∙ sym (room_needed-room_check x s sized 1 (length l.buffer))

module _ {k : Collation} {t : Table} {p : Pages} {l : Lent} where
  -- there was room, and the key was written
  pub one_written : {s : Summary} {after : List ℕ} → table_under k t ≡ None → Written k t 1 l s after
      → PreparesReady (call (Some k) t p (l ∷ [])) (Ok s) after
  unfolding total
  one_written {s} table w =
      let x = prepared k (mapping_of t) l.text in
      record {
        call = record {
          answered = rw (room_refusal-one k t p l s w.sized, w.room, w.sized);
          left = rw (room_refusal-one k t p l s w.sized, w.room) (ap (λ (b : List ℕ). b ∷ []) w.left);
        };
        most = omega (arith, summary-count x s w.sized, prepared-count k t l.text table);
      }

  -- there was too little
  pub one-refused : (s : Summary) (x : Refusal) → summary_numbers s ≡ prepared_numbers (prepared k (mapping_of t) l.text)
      → room_needed 1 (length l.buffer) s ≡ Some x
      → PreparesReady (call (Some k) t p (l ∷ [])) (Err x) l.buffer
  one-refused s x sized room = record {
    call = record { answered = rw (room_refusal-one k t p l s sized, room); left = rw (room_refusal-one k t p l s sized, room) };
    most = zero-le;
  }

-- ---- two texts

-- the refusal of two texts for their keys' room: the first key, then the second
room_refusal-two : (k : Collation) (t : Table) (p : Pages) (l m : Lent) (one two : Summary)
    → summary_numbers one ≡ prepared_numbers (prepared k (mapping_of t) l.text)
    → summary_numbers two ≡ prepared_numbers (prepared k (mapping_of t) m.text)
    → room_refusal (call (Some k) t p (l ∷ m ∷ []))
    ≡ or_else (room_needed 1 (length l.buffer) one) (room_needed 2 (length m.buffer) two)
room_refusal-two k t p l m one two sized sized2 =
    rw (
      or_else-none (room_check 2 (length m.buffer) (prepared k (mapping_of t) m.text)),
      room_needed-room_check (prepared k (mapping_of t) l.text) one sized 1 (length l.buffer),
      room_needed-room_check (prepared k (mapping_of t) m.text) two sized2 2 (length m.buffer),
    )

module _ {k : Collation} {t : Table} {p : Pages} {l m : Lent} where
  -- there was room for both, and both were written
  pub two-written : {one two : Summary} {sAfter tAfter : List ℕ} → Written k t 1 l one sAfter → Written k t 2 m two tAfter
      → CalledReady pair_outcome prepared_values (call (Some k) t p (l ∷ m ∷ [])) (Ok (one, two)) (sAfter ∷ tAfter ∷ [])
  two-written {one} {two} w v =
      let rooms = room_refusal-two k t p l m one two w.sized v.sized in
      record {
        answered = rw (rooms, w.room, v.room) (ap₂ (λ (a b : List ℕ). Some (gives (a ++ b ++ []))) w.sized v.sized);
        left = rw (rooms, w.room, v.room) (ap₂ (λ (a b : List ℕ). a ∷ b ∷ []) w.left v.left);
      }

  -- there was too little for one of them
  pub two-refused : (one two : Summary) (x : Refusal) → summary_numbers one ≡ prepared_numbers (prepared k (mapping_of t) l.text)
      → summary_numbers two ≡ prepared_numbers (prepared k (mapping_of t) m.text)
      → or_else (room_needed 1 (length l.buffer) one) (room_needed 2 (length m.buffer) two) ≡ Some x
      → CalledReady pair_outcome prepared_values (call (Some k) t p (l ∷ m ∷ [])) (Err x) (l.buffer ∷ m.buffer ∷ [])
  two-refused one two x sized sized2 room = record {
    answered = rw (room_refusal-two k t p l m one two sized sized2, room);
    left = rw (room_refusal-two k t p l m one two sized sized2, room);
  }
