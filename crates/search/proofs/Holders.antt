-- Which character holds an octet of a key: `holder`, `offset_of` and the key, one character at a time; and the walk over a text by
-- every decoder that finds it (`Walking`), on plain values, with its laws, start, one more, found.
-- Assumes nothing.
use mathlib.Core.Path.{◌≡◌, refl, sym, ap, ◌∙◌}
use Prim.Native.Nat.{ℕ, ◌+◌, ◌-◌, ◌≤◌, ◌<◌}
use native.Mathlib.Omega.{arith}
use mathlib.Core.Bool.{true}
use Rattle.std.specs.Prelude.{Option, None, Some}
use mathlib.Core.List.{List, ◌∷◌}
use lib.ListN.{length, drop, length-append}
use borrow.Author.Tests.{lt-ltb, le-ltb}
use Rattle.terms.specs.Lists.{there, each}
use Rattle.table.specs.Mapping.{Mapping}
use Rattle.utf8.specs.Characters.{Character, Decoder, Decodes, prepend, characters_by}
use Rattle.utf8.proofs.Decoders.{characters-drop, there-drop, characters-end}
use Rattle.decompose.specs.Steps.{expanded, steps_key}
use Rattle.search.specs.Covering.{span, holder}
use Rattle.search.specs.Promises.{listed, offset_of, HasOctet, holding, HolderFound}

-- ---- one character

-- the octets that a character becomes
abbrev pub size : Mapping → Character → ℕ
size m ch = length (expanded m ch.code)

module _ (m : Mapping) (ch : Character) (chs : List Character) where
  -- the key of characters: the first one's octets, and the others' key
  pub length-key : length (steps_key m (ch ∷ chs)) ≡ size m ch + length (steps_key m chs)
  unfolding steps_key each
  length-key = length-append (expanded m ch.code) (steps_key m chs)

  -- an octet of the first character
  pub holder-here : (at k : ℕ) → k < size m ch → holder m at k (ch ∷ chs) ≡ Some (span at (at + ch.width))
  unfolding holder
  holder-here at k h = rw (lt-ltb k (size m ch) h)

  -- an octet of a later one
  pub holder-later : (at k : ℕ) → size m ch ≤ k → holder m at k (ch ∷ chs) ≡ holder m (at + ch.width) (k - size m ch) chs
  unfolding holder
  holder-later at k h = rw (le-ltb k (size m ch) h)

  -- which octet of its character's it is: of the first
  pub offset-here : (k : ℕ) → k < size m ch → offset_of m k (ch ∷ chs) ≡ k
  unfolding offset_of
  offset-here k h = rw (lt-ltb k (size m ch) h)

  -- or of a later one
  pub offset-later : (k : ℕ) → size m ch ≤ k → offset_of m k (ch ∷ chs) ≡ offset_of m (k - size m ch) chs
  unfolding offset_of
  offset-later k h = rw (le-ltb k (size m ch) h)

-- ---- the walk

-- the characters of a text from a place on, where they are there
abbrev characters_from : Decoder → List ℕ → ℕ → List Character
characters_from decode t at = listed (characters_by decode (drop at t))

listed-prepend : (ch : Character) (o : Option (List Character)) → there o ≡ true → listed (prepend ch o) ≡ ch ∷ listed o
listed-prepend ch None e = let z : ◌≡◌ {A = ℕ} 0 1 = cc in absurd (omega arith)
listed-prepend ch (Some chs) e = refl

-- octet k from one place on is octet `left` from a later one on, where characters are that have more octets
pub record Walking (decode : Decoder) (m : Mapping) (t : List ℕ) (from k at left : ℕ) : Type 0 where
  pub has-octet : HasOctet m (characters_by decode (drop at t)) left
  pub place : holder m at left (characters_from decode t at) ≡ holder m from k (characters_from decode t from)
  pub offset : offset_of m left (characters_from decode t at) ≡ offset_of m k (characters_from decode t from)

-- before the first character
pub walking_start : (decode : Decoder) (m : Mapping) (t : List ℕ) (from k : ℕ) → HasOctet m (characters_by decode (drop from t)) k
    → Walking decode m t from k from k
walking_start decode m t from k h = record { has-octet = h; place = refl; offset = refl }

module _ {decode : Decoder} (d : Decodes decode) {m : Mapping} {t : List ℕ} {from k at left : ℕ}
    (w : Walking decode m t from k at left) where
  module _ (ch : Character) (e : decode (drop at t) ≡ Some ch) where
    abbrev rest : List Character
    rest = characters_from decode t (at + ch.width)

    -- the characters after this one are there, and they and it are those from here on
    valid : there (characters_by decode (drop (at + ch.width) t)) ≡ true
    valid = sym (there-drop d t at ch e) ∙ w.has-octet.valid

    split : characters_from decode t at ≡ ch ∷ rest
    split = ap listed (characters-drop d t at ch e) ∙ listed-prepend ch (characters_by decode (drop (at + ch.width) t)) valid

    -- the octet is a later character's
    pub walking-more : (n : ℕ) → n ≡ size m ch → n ≤ left → Walking decode m t from k (at + ch.width) (left - n)
    walking-more n is h =
        let later : size m ch ≤ left = omega (arith, is) in
        let key = ap (λ (l : List Character). length (steps_key m l)) split in
        record {
          has-octet = record { valid = valid; below = omega (arith, is, w.has-octet.below, key, length-key m ch rest) };
          place = rw is (sym (holder-later m ch rest at left later)) ∙ ap (holder m at left) (sym split) ∙ w.place;
          offset = rw is (sym (offset-later m ch rest left later)) ∙ ap (offset_of m left) (sym split) ∙ w.offset;
        }

    -- the octet is this character's
    pub walking-found : left < size m ch
        → HolderFound m (characters_by decode (drop from t)) from k (holding at (at + ch.width) left)
    walking-found h = record {
      place = sym (holder-here m ch rest at left h) ∙ ap (holder m at left) (sym split) ∙ w.place;
      offset = sym (offset-here m ch rest left h) ∙ ap (offset_of m left) (sym split) ∙ w.offset;
    }

  -- the octet comes before the end
  pub walking-done : length t ≤ at → ⊥
  unfolding steps_key each
  walking-done h =
      let none_left = ap (λ (o : Option (List Character)). length (steps_key m (listed o))) (characters-end d t at h) in
      omega (arith, w.has-octet.below, none_left)
