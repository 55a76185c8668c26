-- The covering run: which whole characters of a text hold a part of its key. Over characters and a mapping alone.
-- "from the start of the character whose expansion holds the first matched octet to the end of the one that holds the last"
-- Assumes nothing.
use Rattle.std.specs.Prelude.{◌≡◌, ℕ, ◌+◌, ◌-◌, pred, ◌≤◌, ◌<◌, cond, List, [], ◌∷◌, ltb, length, take}
use Rattle.std.specs.Prelude.{Option, None, Some}
use Rattle.terms.specs.Lists.{total}
use Rattle.table.specs.Mapping.{Mapping}
use Rattle.utf8.specs.Utf8.{Character}
use Rattle.decompose.specs.Steps.{expanded, steps_key}

-- where a part of a key or a text begins and ends
pub record Span : Type 0 where
  pub start : ℕ
  pub end : ℕ

-- a span by its two ends
abbrev pub span : ℕ → ℕ → Span
span s e = record { start = s; end = e }

-- the place in the text, counted on from `at`, of the character whose expansion holds octet k of the key
unfoldable pub holder : Mapping → ℕ → ℕ → List Character → Option Span
holder m at k [] = None
holder m at k (ch ∷ chs) =
    cond (ltb k (length (expanded m ch.code)))
    (Some (span at (at + ch.width)))
    (holder m (at + ch.width) (k - length (expanded m ch.code)) chs)

-- from the start of one character's place to the end of another's; 0 to 0 where a character is missing
-- (for a hit none is: `covering-covers` and `hit-covers` of proofs/Cover.antt name both)
abbrev pub from_to : Option Span → Option Span → Span
from_to None b = span 0 0
from_to (Some a) None = span 0 0
from_to (Some a) (Some b) = span a.start b.end

-- the run of whole characters that covers the part of the key from s up to e, where s is below e
unfoldable pub covering : Mapping → List Character → Span → Span
covering m chs s = from_to (holder m 0 s.start chs) (holder m 0 (pred s.end) chs)

-- ---- the same in demand 2's words: "the smallest run of whole characters of the text that covers it"

-- where character j begins in the text: the width of the characters before it
abbrev pub text_at : List Character → ℕ → ℕ
text_at chs j = total (λ (ch : Character). ch.width) (take j chs)

-- where its expansion begins in the key: the octets of the characters before it
abbrev pub key_at : Mapping → List Character → ℕ → ℕ
key_at m chs j = length (steps_key m (take j chs))

-- a run of whole characters, at least one, that covers the part of the key from s up to e: it goes from the start of one
-- character up to that of another or the text's end, where those before the first have at most s octets of the key and those
-- before the last at least e
pub record Covers (m : Mapping) (chs : List Character) (s e : ℕ) (run : Span) : Type 0 where
  pub first : ℕ
  pub last : ℕ
  pub some : first < last
  pub most : last ≤ length chs
  pub whole : run ≡ span (text_at chs first) (text_at chs last)
  pub starts : key_at m chs first ≤ s
  pub ends : e ≤ key_at m chs last
