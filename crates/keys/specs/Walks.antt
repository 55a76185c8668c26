-- The walk over a text's characters, by every decoder: what sizing (`Sizing`) and writing (`Writing`) have after its first octets,
-- the room that a part of the walk needs, and what the functions that walk promise with these.
-- Assumes nothing.
use Rattle.std.specs.Prelude.{◌≡◌, ℕ, ◌+◌, ◌*◌, ◌≤◌, true, ◌⊎◌, List, [], ◌∷◌, ◌++◌, length, drop}
use Rattle.std.specs.Prelude.{Option, None, Some}
use Rattle.terms.specs.Lists.{there, over}
use Rattle.terms.specs.Refusals.{expansion_most}
use Rattle.table.specs.Mapping.{Mapping}
use Rattle.utf8.specs.Characters.{Character, Decoder, characters_by}
use Rattle.utf8.specs.Utf8.{decode}
use Rattle.decompose.specs.Steps.{steps_key, steps_lookups}
use Rattle.decompose.specs.Plain.{PlainRow}
use Rattle.decompose.specs.TableCheck.{unfolds}
use Rattle.keys.specs.Keys.{unicode_prepared, room_for}
use Rattle.keys.specs.Summaries.{prepared_numbers}
use Rattle.keys.specs.declared.writing.Progress.{Progress}

-- ---- after the first octets of a text

-- a text's numbers, where its first characters came to o octets and k lookups and these characters follow
abbrev pub values_from : Mapping → List ℕ → ℕ → ℕ → Option (List Character) → List ℕ
values_from m t o k None = 0 ∷ 0 ∷ length t ∷ 0 ∷ []
values_from m t o k (Some chs) = 1 ∷ (k + steps_lookups m chs) ∷ (o + length (steps_key m chs)) ∷ 1 ∷ []

-- a text's key under collation 3
abbrev pub key_for : Decoder → Mapping → List ℕ → List ℕ
key_for decode m t = (unicode_prepared m t (characters_by decode t)).key

-- the characters up to a place came to o octets and k lookups: the text's numbers go by these and by the characters that follow
pub record Sizing (decode : Decoder) (m : Mapping) (t : List ℕ) (at o k : ℕ) : Type 0 where
  pub passed : at ≤ length t
  pub values : prepared_numbers (unicode_prepared m t (characters_by decode t)) ≡ values_from m t o k
      (characters_by decode (drop at t))
  pub octets : o ≤ 128 * at
  pub asked : k ≤ 258 * at

-- the characters up to a place were written: the key is their octets, and the key of what follows, which is valid
pub record Writing (decode : Decoder) (m : Mapping) (t buffer : List ℕ) (at end : ℕ) (after : List ℕ) : Type 0 where
  pub passed : at ≤ length t
  pub valid : there (characters_by decode (drop at t)) ≡ true
  pub octets : List ℕ
  pub count : end ≡ length octets
  pub fits : end ≤ length buffer
  pub written : after ≡ over octets buffer
  pub whole : key_for decode m t ≡ octets ++ key_for decode m (drop at t)

-- both: how far a walk is
pub record Walking (m : Mapping) (t buffer : List ℕ) (at end k : ℕ) (after : List ℕ) : Type 0 where
  pub sized : Sizing decode m t at end k
  pub written : Writing decode m t buffer at end after

-- ---- what the functions promise

-- the room for the characters that begin before a place: 128 octets for each octet up to there, or room for the whole key
abbrev pub RoomTo : Mapping → List ℕ → ℕ → ℕ → Type 0
RoomTo m t stop room =
    (expansion_most * stop ≤ room) ⊎ (room_for (unicode_prepared m t (characters_by decode t)) ≤ room)

-- a walk from the start of a text came as far as this
abbrev pub Walked : Mapping → List ℕ → List ℕ → Progress → List ℕ → Type 0
Walked m t buffer r after = Walking m t buffer r.at.0 r.end.0 r.lookups after

-- and at least to a place
pub record WalkedTo (m : Mapping) (t : List ℕ) (stop : ℕ) (buffer : List ℕ) (r : Progress) (after : List ℕ) : Type 0 where
  pub walked : Walked m t buffer r after
  pub reached : stop ≤ r.at.0

-- n octets that a text begins with were written by the row of what octets become: over every table of which the row tells, and in
-- which every code point unfolds, the walk came as far as this, for two lookups each
pub record PlainWalked (row t buffer : List ℕ) (n : ℕ) (after : List ℕ) : Type 0 where
  pub walked : (m : Mapping) → PlainRow m row → ((c : ℕ) → unfolds m c ≡ true) → there (characters_by decode t) ≡ true
      → Walking m t buffer n n (2 * n) after
