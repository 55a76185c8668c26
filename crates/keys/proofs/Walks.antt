-- The walks over a text's characters, by every decoder: the laws of what sizing (`Sizing`) and writing (`Writing`) have after its
-- first octets, start, one more, two walks joined, done.
-- Assumes nothing.
use mathlib.Core.Path.{◌≡◌, refl, sym, ap, ◌∙◌}
use Prim.Native.Nat.{ℕ, ◌+◌, ◌≤◌}
use native.Mathlib.Nat.{zero-add, add-zero, add_assoc}
use native.Mathlib.Omega.{arith}
use mathlib.Core.Bool.{true}
use Rattle.std.specs.Prelude.{Option, None, Some}
use mathlib.Core.List.{List, [], ◌∷◌, ◌++◌, append_assoc, append-nil}
use lib.ListN.{length, take, drop, length-append, length-drop}
use lib.Seq.{drop-drop}
use Rattle.terms.specs.Lists.{each, total, there, over}
use Rattle.terms.proofs.Parts.{length_over, over-append}
use Rattle.table.specs.Mapping.{Mapping}
use Rattle.utf8.specs.Characters.{Character, Decoder, Decodes, prepend, characters_by}
use Rattle.utf8.proofs.Decoders.{decode-drop-fits, characters-drop, there-drop, characters-end}
use Rattle.decompose.specs.Steps.{expanded, steps_key, steps_lookups}
use Rattle.decompose.specs.TableCheck.{unfolds}
use Rattle.decompose.specs.Promises.{ExpansionCounted, ExpansionFilled}
use Rattle.decompose.specs.declared.Unfolded.{Unfolded}
use Rattle.decompose.proofs.Bounds.{lookups-most, expanded-most}
use Rattle.keys.specs.Keys.{unicode_prepared, room_for, keyed}
use Rattle.keys.specs.Summaries.{prepared_numbers}
use Rattle.keys.specs.Walks.{values_from, key_for, Sizing, Writing}

-- ---- sizing

-- before the first character, one more before those that follow, and after the last
values_from-start : (m : Mapping) (t : List ℕ) (o : Option (List Character))
    → prepared_numbers (unicode_prepared m t o) ≡ values_from m t 0 0 o
values_from-start m t None = refl
values_from-start m t (Some chs) = rw (zero-add (steps_lookups m chs), zero-add (length (steps_key m chs)))

values_from-more : (m : Mapping) (t : List ℕ) (o k : ℕ) (ch : Character) (r : Unfolded) (f : Option (List Character))
    → ExpansionCounted m ch.code r
    → values_from m t o k (prepend ch f) ≡ values_from m t (o + r.octets) (k + r.asks) f
unfolding steps_key steps_lookups each total
values_from-more m t o k ch r None e = refl
values_from-more m t o k ch r (Some chs) e =
    let asked : k + steps_lookups m (ch ∷ chs) ≡ k + r.asks + steps_lookups m chs = omega (arith, e.asked) in
    let octets : o + length (steps_key m (ch ∷ chs)) ≡ o + r.octets + length (steps_key m chs) =
    omega (arith, e.octets, length-append (expanded m ch.code) (steps_key m chs)) in
    rw (asked, octets)

-- two walks, one after the other
values_join : (m : Mapping) (t rest : List ℕ) (o k p l : ℕ) (f g : Option (List Character)) → there f ≡ true
    → prepared_numbers (unicode_prepared m rest f) ≡ values_from m rest p l g
    → values_from m t o k f ≡ values_from m t (o + p) (k + l) g
values_join m t rest o k p l None g e v = cc
values_join m t rest o k p l (Some chs) None e v = cc
values_join m t rest o k p l (Some chs) (Some later) e v =
    let asked : steps_lookups m chs ≡ l + steps_lookups m later = cc in
    let octets : length (steps_key m chs) ≡ p + length (steps_key m later) = cc in
    rw (asked, octets, add_assoc k l (steps_lookups m later), add_assoc o p (length (steps_key m later)))

values_from-done : (m : Mapping) (t : List ℕ) (o k : ℕ) → values_from m t o k (Some []) ≡ 1 ∷ k ∷ o ∷ 1 ∷ []
unfolding steps_key steps_lookups each total
values_from-done m t o k = rw (add-zero k, add-zero o)

-- before the first character
pub sizing-start : (decode : Decoder) (m : Mapping) (t : List ℕ) → Sizing decode m t 0 0 0
sizing-start decode m t = record {
  passed = omega arith;
  values = values_from-start m t (characters_by decode t);
  octets = omega arith;
  asked = omega arith;
}

module _ {decode : Decoder} (d : Decodes decode) {m : Mapping} {t : List ℕ} {at o k : ℕ} (w : Sizing decode m t at o k) where
  -- one character more
  pub sizing-more : ((c : ℕ) → unfolds m c ≡ true) → (ch : Character) (r : Unfolded) → decode (drop at t) ≡ Some ch
      → ExpansionCounted m ch.code r
      → Sizing decode m t (at + ch.width) (o + r.octets) (k + r.asks)
  sizing-more ok ch r e counted =
      let fits = decode-drop-fits d t at ch w.passed e in
      record {
        passed = fits.1;
        values =
            w.values
            ∙ ap (values_from m t o k) (characters-drop d t at ch e)
            ∙ values_from-more m t o k ch r (characters_by decode (drop (at + ch.width) t)) counted;
        octets = omega (arith, w.octets, fits.0, counted.octets, expanded-most m ok ch.code);
        asked = omega (arith, w.asked, fits.0, counted.asked, lookups-most m ok ch.code);
      }

  -- every character was sized
  pub sizing-done : length t ≤ at → prepared_numbers (unicode_prepared m t (characters_by decode t)) ≡ 1 ∷ k ∷ o ∷ 1 ∷ []
  sizing-done h = w.values ∙ ap (values_from m t o k) (characters-end d t at h) ∙ values_from-done m t o k

  -- a walk over what follows, joined to this one
  pub sizing-join : {to p l : ℕ} → there (characters_by decode (drop at t)) ≡ true → Sizing decode m (drop at t) to p l
      → Sizing decode m t (at + to) (o + p) (k + l)
  sizing-join {to} {p} {l} valid v = record {
    passed = omega (arith, w.passed, v.passed, length-drop at t);
    values =
        w.values
        ∙ values_join m t (drop at t) o k p l (characters_by decode (drop at t)) (characters_by decode (drop to (drop at t))) valid v.values
        ∙ ap (λ (rest : List ℕ). values_from m t (o + p) (k + l) (characters_by decode rest)) (drop-drop to at t);
    octets = omega (arith, w.octets, v.octets);
    asked = omega (arith, w.asked, v.asked);
  }

-- ---- writing

-- the key of a valid text: the octets of its first character, and the key of what follows that
key-prepend : (m : Mapping) (t rest : List ℕ) (ch : Character) (o : Option (List Character)) → there (prepend ch o) ≡ true
    → (unicode_prepared m t (prepend ch o)).key ≡ expanded m ch.code ++ (unicode_prepared m rest o).key
unfolding steps_key each
key-prepend m t rest ch None e = cc
key-prepend m t rest ch (Some chs) e = refl

-- where nothing follows, nothing is left of the key
key-end : {decode : Decoder} (d : Decodes decode) (m : Mapping) (t : List ℕ) (at : ℕ) → length t ≤ at
    → key_for decode m (drop at t) ≡ []
unfolding steps_key each
key-end d m t at h = ap (λ (o : Option (List Character)). (unicode_prepared m (drop at t) o).key) (characters-end d t at h)

-- a valid text's key belongs in the buffer
keyed-there : (m : Mapping) (t buffer : List ℕ) (o : Option (List Character)) → there o ≡ true
    → keyed (unicode_prepared m t o) buffer ≡ over (unicode_prepared m t o).key buffer
keyed-there m t buffer None e = cc
keyed-there m t buffer (Some chs) e = refl

-- and needs room
room_for-there : (m : Mapping) (t : List ℕ) (o : Option (List Character)) → there o ≡ true
    → room_for (unicode_prepared m t o) ≡ length (unicode_prepared m t o).key
room_for-there m t None e = cc
room_for-there m t (Some chs) e = refl

-- before the first character
pub writing_start : (decode : Decoder) (m : Mapping) (t buffer : List ℕ) → there (characters_by decode t) ≡ true
    → Writing decode m t buffer 0 0 buffer
writing_start decode m t buffer e =
    record { passed = omega arith; valid = e; octets = []; count = refl; fits = omega arith; written = refl; whole = refl }

module _ {decode : Decoder} (d : Decodes decode) {m : Mapping} {t buffer : List ℕ} {at end : ℕ} {after : List ℕ}
    (w : Writing decode m t buffer at end after) where
  -- the buffer keeps its length
  pub writing-length : length after ≡ length buffer
  writing-length = ap length w.written ∙ length_over w.octets buffer (omega (arith, w.count, w.fits))

  -- and the octets so far are within it
  pub writing-end : end ≤ length after
  writing-end = omega (arith, w.fits, writing-length)

  -- the key of what follows: the octets of its first character, and the key of the rest
  rest_more : (ch : Character) → decode (drop at t) ≡ Some ch
      → key_for decode m (drop at t) ≡ expanded m ch.code ++ key_for decode m (drop (at + ch.width) t)
  rest_more ch e =
      let split = characters-drop d t at ch e in
      let rest = drop (at + ch.width) t in
      ap (λ (o : Option (List Character)). (unicode_prepared m (drop at t) o).key) split
      ∙ key-prepend m (drop at t) rest ch (characters_by decode rest) (ap there (sym split) ∙ w.valid)

  -- and the whole key
  whole-more : (ch : Character) → decode (drop at t) ≡ Some ch
      → key_for decode m t ≡ (w.octets ++ expanded m ch.code) ++ key_for decode m (drop (at + ch.width) t)
  whole-more ch e =
      w.whole
      ∙ ap (λ (l : List ℕ). w.octets ++ l) (rest_more ch e)
      ∙ sym (append_assoc w.octets (expanded m ch.code) (key_for decode m (drop (at + ch.width) t)))

  -- one character more, whose octets follow those so far
  pub writing-next : (ch : Character) (n : ℕ) (next : List ℕ) → decode (drop at t) ≡ Some ch
      → n ≡ length (expanded m ch.code) → end + n ≤ length buffer
      → next ≡ over (w.octets ++ expanded m ch.code) buffer
      → Writing decode m t buffer (at + ch.width) (end + n) next
  writing-next ch n next e counted room stored =
      record {
        passed = (decode-drop-fits d t at ch w.passed e).1;
        valid = sym (there-drop d t at ch e) ∙ w.valid;
        octets = w.octets ++ expanded m ch.code;
        count = omega (arith, w.count, counted, length-append w.octets (expanded m ch.code));
        fits = room;
        written = stored;
        whole = whole-more ch e;
      }

  -- they were written into what follows the octets so far
  pub writing_more : (ch : Character) (r : Unfolded) (last : List ℕ) → decode (drop at t) ≡ Some ch
      → ExpansionFilled m ch.code (drop end after) r last → end + r.octets ≤ length buffer
      → Writing decode m t buffer (at + ch.width) (end + r.octets) (take end after ++ last)
  writing_more ch r last e filled room =
      writing-next ch r.octets (take end after ++ last) e filled.counted.octets room
      (rw (filled.written, w.written, w.count) (over-append w.octets (expanded m ch.code) buffer))

  -- a walk over what follows, into what follows the octets so far, joined to this one
  pub writing-join : {to more : ℕ} {last : List ℕ} → Writing decode m (drop at t) (drop end after) to more last
      → Writing decode m t buffer (at + to) (end + more) (take end after ++ last)
  writing-join {to} {more} {last} v = record {
    passed = omega (arith, w.passed, v.passed, length-drop at t);
    valid = ap (λ (rest : List ℕ). there (characters_by decode rest)) (sym (drop-drop to at t)) ∙ v.valid;
    octets = w.octets ++ v.octets;
    count = omega (arith, w.count, v.count, length-append w.octets v.octets);
    fits = omega (arith, v.fits, length-drop end after, writing-length, w.fits);
    written = rw (v.written, w.written, w.count) (over-append w.octets v.octets buffer);
    whole =
        w.whole
        ∙ ap (λ (l : List ℕ). w.octets ++ l) (v.whole ∙ ap (λ (rest : List ℕ). v.octets ++ key_for decode m rest) (drop-drop to at t))
        ∙ sym (append_assoc w.octets v.octets (key_for decode m (drop (at + to) t)));
  }

  module _ (valid : there (characters_by decode t) ≡ true) where
    -- every character was written
    pub writing-done : length t ≤ at → after ≡ keyed (unicode_prepared m t (characters_by decode t)) buffer
    writing-done h =
        let all : key_for decode m t ≡ w.octets =
        w.whole ∙ ap (λ (l : List ℕ). w.octets ++ l) (key-end d m t at h) ∙ append-nil w.octets in
        w.written ∙ ap (λ (l : List ℕ). over l buffer) (sym all) ∙ sym (keyed-there m t buffer (characters_by decode t) valid)

    module _ (room : room_for (unicode_prepared m t (characters_by decode t)) ≤ length buffer) where
      -- room for the whole key
      whole_room : length (key_for decode m t) ≤ length buffer
      whole_room = rw (← room_for-there m t (characters_by decode t) valid) room

      -- is room for what is left of it
      pub writing-rest : room_for (unicode_prepared m (drop at t) (characters_by decode (drop at t))) ≤ length (drop end after)
      writing-rest =
          rw (room_for-there m (drop at t) (characters_by decode (drop at t)) w.valid)
          (omega (
            arith,
            whole_room,
            ap length w.whole,
            length-append w.octets (key_for decode m (drop at t)),
            w.count,
            writing-length,
            length-drop end after,
          ))

      -- and for the octets of the next character
      pub writing-room : (ch : Character) → decode (drop at t) ≡ Some ch → end + length (expanded m ch.code) ≤ length buffer
      writing-room ch e =
          let rest = key_for decode m (drop (at + ch.width) t) in
          omega (
            arith,
            whole_room,
            ap length (whole-more ch e),
            length-append (w.octets ++ expanded m ch.code) rest,
            length-append w.octets (expanded m ch.code),
            w.count,
          )
