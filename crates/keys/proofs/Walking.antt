-- The laws of a walk over a text in UTF-8 (`Walking`): start, the room for one more, one more, two walks joined, done.
-- Assumes nothing.
use mathlib.Core.Path.{◌≡◌, sym, ap, ◌∙◌}
use mathlib.Core.Bool.{true}
use mathlib.Core.List.{List, [], ◌∷◌, ◌++◌}
use mathlib.Core.Logic.{inl, inr}
use Rattle.std.specs.Prelude.{Some}
use Prim.Native.Nat.{ℕ, ◌+◌, ◌≤◌, ◌<◌}
use native.Mathlib.Omega.{arith}
use lib.ListN.{length, take, drop, set}
use Rattle.terms.specs.Lists.{there, over}
use Rattle.table.specs.Mapping.{Mapping}
use Rattle.utf8.specs.Utf8.{Character, character, decode, characters}
use Rattle.utf8.proofs.Characters.{utf8-decodes}
use Rattle.decompose.specs.Steps.{expanded, lookups}
use Rattle.decompose.specs.TableCheck.{unfolds}
use Rattle.decompose.specs.Promises.{ExpansionFilled}
use Rattle.decompose.specs.declared.Unfolded.{Unfolded}
use Rattle.decompose.proofs.Bounds.{expanded-most}
use Rattle.keys.specs.Keys.{unicode_prepared}
use Rattle.keys.specs.Summaries.{summary_numbers, KeyFilled}
use Rattle.keys.specs.Walks.{Walking, RoomTo}
use Rattle.keys.specs.declared.Summary.{Summary}
use Rattle.keys.proofs.Walks.{sizing-start, sizing-more, sizing-join, sizing-done, writing_start, writing_more}
use Rattle.keys.proofs.Raising.{set-over}
use Rattle.keys.proofs.Walks.{writing-next, writing-join, writing-done, writing-room}

-- before the first character
pub walking_start : (m : Mapping) (t buffer : List ℕ) → there (characters t) ≡ true → Walking m t buffer 0 0 0 buffer
walking_start m t buffer valid =
    record { sized = sizing-start decode m t; written = writing_start decode m t buffer valid }

module _ {m : Mapping} {t buffer : List ℕ} {at end k : ℕ} {after : List ℕ} (w : Walking m t buffer at end k after) where
  module _ (ok : (c : ℕ) → unfolds m c ≡ true) where
    -- before a place up to which there is room, there is room for the next character
    pub walking-room : {stop : ℕ} → there (characters t) ≡ true → RoomTo m t stop (length buffer) → at < stop
        → (ch : Character) → decode (drop at t) ≡ Some ch → end + length (expanded m ch.code) ≤ length buffer
    walking-room valid (inl each) before ch e = omega (arith, each, before, w.sized.octets, expanded-most m ok ch.code)
    walking-room valid (inr whole) before ch e = writing-room utf8-decodes w.written valid whole ch e

    -- one character more, written into what follows the octets so far
    pub walking-more : (ch : Character) (r : Unfolded) (last : List ℕ) → decode (drop at t) ≡ Some ch
        → ExpansionFilled m ch.code (drop end after) r last → end + r.octets ≤ length buffer
        → Walking m t buffer (at + ch.width) (end + r.octets) (k + r.asks) (take end after ++ last)
    walking-more ch r last e filled room = record {
      sized = sizing-more utf8-decodes w.sized ok ch r e filled.counted;
      written = writing_more utf8-decodes w.written ch r last e filled room;
    }

    -- one octet of ASCII more that becomes one octet
    pub walking-plain : (a o : ℕ) → decode (drop at t) ≡ Some (character a 1) → end < length buffer
        → expanded m a ≡ o ∷ [] → lookups m a ≡ 2
        → Walking m t buffer (at + 1) (end + 1) (k + 2) (set after end o)
    walking-plain a o e room single asked =
        let octets = w.written.octets in
        let one : 1 ≡ length (expanded m a) = sym (ap length single) in
        let stored : set after end o ≡ over (octets ++ expanded m a) buffer =
        rw (single, w.written.written, w.written.count) (set-over octets buffer o (omega (arith, room, w.written.count))) in
        record {
          sized = sizing-more utf8-decodes w.sized ok (character a 1) (record { octets = 1; asks = 2 }) e
              (record { octets = one; asked = sym asked });
          written = writing-next utf8-decodes w.written (character a 1) 1 (set after end o) e one (omega (arith, room)) stored;
        }

  -- where nothing was written, the buffer is as it was
  pub walking-still : end ≡ 0 → after ≡ buffer
  walking-still e = still w.written.octets (sym w.written.count ∙ e) w.written.written
    where
      still : (octets : List ℕ) → length octets ≡ 0 → after ≡ over octets buffer → after ≡ buffer
      still [] h s = s
      still (x ∷ xs) h s = absurd (omega (arith, h))

  -- a walk over what follows, into what follows the octets so far, joined to this one
  pub walking-join : {to more l : ℕ} {last : List ℕ} → Walking m (drop at t) (drop end after) to more l last
      → Walking m t buffer (at + to) (end + more) (k + l) (take end after ++ last)
  walking-join v = record {
    sized = sizing-join utf8-decodes w.sized w.written.valid v.sized;
    written = writing-join utf8-decodes w.written v.written;
  }

  -- at the end of a valid text: its key is written
  pub walking-done : there (characters t) ≡ true → length t ≤ at → (s : Summary) → summary_numbers s ≡ 1 ∷ k ∷ end ∷ 1 ∷ []
      → KeyFilled (unicode_prepared m t (characters t)) buffer s after
  walking-done valid h s e = record {
    numbers = e ∙ sym (sizing-done utf8-decodes w.sized h);
    left = writing-done utf8-decodes w.written valid h;
  }
