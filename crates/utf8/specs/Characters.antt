-- The characters of a text, over a decoder: the rule of a character set, by which octets begin with a character or with none.
-- Key, count and covering run speak of characters alone, so a character set is its decoder, with what `Decodes` asks of it, and
-- nothing else. UTF-8 is specs/Utf8.antt.
-- Assumes nothing.
use Rattle.std.specs.Prelude.{◌≡◌, true, ℕ, zero, suc, ◌≤◌, ◌<◌, length, drop}
use Rattle.std.proofs.Math.Path.{refl, ap}
use Rattle.std.proofs.Common.{◌∙◌, arith}
use Rattle.std.specs.Prelude.{Option, None, Some}
use mathlib.Core.List.{List, [], ◌∷◌, map}
use Rattle.terms.specs.CodePoints.{scalar}

-- a character of a text: its code point, and how many octets of the text it took
pub record Character : Type 0 where
  pub code : ℕ
  pub width : ℕ

-- a character by its two numbers
abbrev pub character : ℕ → ℕ → Character
character c w = record { code = c; width = w }

-- the code points of characters
abbrev pub codes_of : List Character → List ℕ
codes_of chs = map (λ (ch : Character). ch.code) chs

-- the character at the front of octets, or none
abbrev pub Decoder : Type 0
Decoder = List ℕ → Option Character

-- what every decoder must have: a character takes an octet or more and no more than there are (so there is none in no
-- octets), and its code point is scalar
pub record Decodes (decode : Decoder) : Type 0 where
  pub fits : (t : List ℕ) (ch : Character) → decode t ≡ Some ch → (1 ≤ ch.width) × (ch.width ≤ length t)
  pub scalars : (t : List ℕ) (ch : Character) → decode t ≡ Some ch → scalar ch.code ≡ true

-- a character before others, where these are there
abbrev pub prepend : Character → Option (List Character) → Option (List Character)
prepend ch None = None
prepend ch (Some chs) = Some (ch ∷ chs)

-- a character, and those that begin so many octets after its first one; none where it is none, or takes no octet
abbrev pub before : Option Character → (ℕ → Option (List Character)) → Option (List Character)
before None rest = None
before (Some ch) rest = prepend ch (after ch.width)
  where
    after : ℕ → Option (List Character)
    after zero = None
    after (suc k) = rest k

-- the characters of octets of which the first k still belong to the character before; none where that one is cut off
unfoldable pub characters_after : Decoder → ℕ → List ℕ → Option (List Character)
characters_after decode zero [] = Some []
characters_after decode (suc k) [] = None
characters_after decode zero (a ∷ t) = before (decode (a ∷ t)) (λ k. characters_after decode k t)
characters_after decode (suc k) (a ∷ t) = characters_after decode k t

-- the characters of a text in a character set, or none: it is valid where it has them
unfoldable pub characters_by : Decoder → List ℕ → Option (List Character)
characters_by decode t = characters_after decode 0 t

-- ---- characters_by

-- octets that still belong to the character before are passed over
characters_after-drop : (decode : Decoder) (k : ℕ) (t : List ℕ) → k ≤ length t
    → characters_after decode k t ≡ characters_by decode (drop k t)
unfolding characters_after characters_by
characters_after-drop decode zero t h = refl
characters_after-drop decode (suc k) [] h = absurd (omega arith)
characters_after-drop decode (suc k) (a ∷ t) h = characters_after-drop decode k t (omega arith)

before-some : (decode : Decoder) (c w a : ℕ) (t : List ℕ) → 1 ≤ w → w ≤ length (a ∷ t)
    → before (Some (character c w)) (λ k. characters_after decode k t) ≡ prepend (character c w)
    (characters_by decode (drop w (a ∷ t)))
before-some decode c zero a t l h = absurd (omega arith)
before-some decode c (suc k) a t l h = ap (prepend (character c (suc k))) (characters_after-drop decode k t (omega arith))

module _ {decode : Decoder} (d : Decodes decode) where
  -- no octets are no characters
  pub characters-nil : characters_by decode [] ≡ Some []
  unfolding characters_after characters_by
  characters-nil = refl

  -- a text whose first character is there: it, and the characters of what follows it
  pub characters-more : (t : List ℕ) (ch : Character) → decode t ≡ Some ch
      → characters_by decode t ≡ prepend ch (characters_by decode (drop ch.width t))
  unfolding characters_after characters_by
  characters-more [] ch e = absurd (omega (arith, d.fits [] ch e))
  characters-more (a ∷ t) ch e =
      let fits = d.fits (a ∷ t) ch e in
      ap (λ (o : Option Character). before o (λ k. characters_after decode k t)) e
      ∙ before-some decode ch.code ch.width a t fits.0 fits.1

  -- a text with no first character has none
  pub characters-none : (t : List ℕ) → decode t ≡ None → 0 < length t → characters_by decode t ≡ None
  unfolding characters_after characters_by
  characters-none [] e h = absurd (omega arith)
  characters-none (a ∷ t) e h = rw e
