-- What the contracts of the crate say with the definitions of the other files.
-- Assumes nothing.
use Rattle.std.specs.Prelude.{◌≡◌, ℕ, ◌-◌, ◌≤◌, ◌<◌, Bool, true, cond, List, [], ◌∷◌, ltb, length}
use Rattle.std.specs.Prelude.{Option, None, Some}
use Rattle.terms.specs.Lists.{there}
use Rattle.table.specs.Mapping.{Mapping}
use Rattle.utf8.specs.Characters.{Character}
use Rattle.decompose.specs.Steps.{expanded, steps_key}
use Rattle.terms.specs.declared.Collation.{Collation}
use Rattle.keys.specs.Keys.{prepared, key_of}
use Rattle.keys.specs.Summaries.{shown_at}
use Rattle.keys.specs.declared.Summary.{Summary}
use Rattle.search.specs.Covering.{Span, span, holder}
use Rattle.search.specs.declared.covering.Run.{Run}
use Rattle.search.specs.declared.covering.Holder.{Holder}

-- ---- the covering run

-- the characters that are there, none where the text is not valid
abbrev pub listed : Option (List Character) → List Character
listed None = []
listed (Some chs) = chs

-- which octet of its character's expansion octet k of a key is
unfoldable pub offset_of : Mapping → ℕ → List Character → ℕ
offset_of m k [] = k
offset_of m k (ch ∷ chs) =
    cond (ltb k (length (expanded m ch.code)))
    k
    (offset_of m (k - length (expanded m ch.code)) chs)

-- characters are there, and their key has more than k octets
pub record HasOctet (m : Mapping) (chs : Option (List Character)) (k : ℕ) : Type 0 where
  pub valid : there chs ≡ true
  pub below : k < length (steps_key m (listed chs))

-- a holder by its three numbers
abbrev pub holding : ℕ → ℕ → ℕ → Holder
holding s e o = record { start = record { 0 = s }; end = record { 0 = e }; offset = o }

-- of characters from a place on, the one that holds octet k of their key was found: its place, and which octet it is
pub record HolderFound (m : Mapping) (chs : Option (List Character)) (from k : ℕ) (r : Holder) : Type 0 where
  pub place : Some (span r.start.0 r.end.0) ≡ holder m from k (listed chs)
  pub offset : r.offset ≡ offset_of m k (listed chs)

-- characters are there, and their key has a part from s up to e that is not empty
pub record Within (m : Mapping) (chs : Option (List Character)) (s e : ℕ) : Type 0 where
  pub valid : there chs ≡ true
  pub some : s < e
  pub most : e ≤ length (steps_key m (listed chs))

-- a run by its two ends
abbrev pub run_span : Run → Span
run_span r = span r.start.0 r.end.0

-- ---- seeking

-- the key of a text has a part from s up to e that is not empty, and it is told whether the text is valid
pub record Hits (k : Collation) (m : Mapping) (t : List ℕ) (valid : Bool) (s e : ℕ) : Type 0 where
  pub told : valid ≡ (prepared k m t).valid
  pub some : s < e
  pub most : e ≤ length (key_of k m t)

-- a needle that is not empty, the key of a text, and whether the text is valid
pub record Seekable (k : Collation) (m : Mapping) (needle hay t : List ℕ) (valid : Bool) : Type 0 where
  pub some : 0 < length needle
  pub key : hay ≡ key_of k m t
  pub told : valid ≡ (prepared k m t).valid

-- two texts that were prepared show their keys, and the second is valid where its summary says so
pub record Shows (k : Collation) (m : Mapping) (s sKey : List ℕ) (one : Summary) (t tKey : List ℕ) (two : Summary) : Type 0 where
  pub first : shown_at one.place one.key_length s sKey ≡ key_of k m s
  pub second : shown_at two.place two.key_length t tKey ≡ key_of k m t
  pub told : two.valid ≡ (prepared k m t).valid
