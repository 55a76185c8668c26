-- UTF-8 (RFC 3629): the length that a first octet announces, the octets of a code point, the character at the front of a text, the
-- characters of a text.
-- `proofs/Characters.antt` shows that a text has characters exactly when it is the encoding of scalar code points, one after
-- another; so no overlong form, no surrogate, nothing above U+10FFFF and nothing cut off is a character.
-- Assumes nothing.
use Rattle.std.specs.Prelude.{◌≡◌, ℕ, zero, suc, ◌+◌, ◌-◌, ◌*◌, ◌/◌, ◌%◌, ◌^◌, Bool, true, cond, ◌&&◌, List, [], ◌∷◌, map, eqb, leb, ltb, length}
use Rattle.std.specs.Prelude.{Option, None, Some}
use Rattle.terms.specs.Lists.{all, each, when}
use Rattle.utf8.specs.Characters.{codes_of, characters_by}
pub use Rattle.terms.specs.CodePoints.{scalar}
pub use Rattle.utf8.specs.Characters.{Character, character}

-- how many of a number's k bits are ones, from the highest on, before the first that is 0; all k of a number that needs more bits
unfoldable pub leading_ones : ℕ → ℕ → ℕ
leading_ones zero o = 0
leading_ones (suc k) o = cond (leb (2 ^ k) o) (suc (leading_ones k (o - 2 ^ k))) 0

-- "no such bit gives 1, two to four give that many, any other count begins no sequence"
abbrev pub length_by : ℕ → Option ℕ
length_by ones = cond (eqb ones 0) (Some 1) (when (leb 2 ones && leb ones 4) ones)

-- the length that an octet announces, by its leading ones (RFC 3629, section 3, the first octets of the table)
unfoldable pub announced : ℕ → Option ℕ
announced o = length_by (leading_ones 8 o)

-- the octets of a code point (RFC 3629, section 3, the table of octet sequences)
unfoldable pub encode : ℕ → List ℕ
encode c =
    cond (ltb c 0x80) (c ∷ [])
    (cond (ltb c 0x800) ((0xC0 + c / 64) ∷ (0x80 + c % 64) ∷ [])
    (cond (ltb c 0x10000) ((0xE0 + c / 4096) ∷ (0x80 + c / 64 % 64) ∷ (0x80 + c % 64) ∷ [])
    ((0xF0 + c / 262144) ∷ (0x80 + c / 4096 % 64) ∷ (0x80 + c / 64 % 64) ∷ (0x80 + c % 64) ∷ [])))

-- the octets of code points, one after another
abbrev pub encodes : List ℕ → List ℕ
encodes cs = each encode cs

-- UTF8-tail of RFC 3629, section 4: an octet 80 to BF
abbrev pub trails : ℕ → Bool
trails b = leb 0x80 b && ltb b 0xC0

-- the number of the bits x and of the low six bits of each of n octets more, which must be there and trail
unfoldable pub trailed : ℕ → ℕ → List ℕ → Option ℕ
trailed zero x t = Some x
trailed (suc n) x [] = None
trailed (suc n) x (b ∷ t) = cond (trails b) (trailed n (x * 64 + (b - 0x80)) t) None

-- a code point read from w octets is taken if it needs that many (least is the lowest that does) and is scalar
abbrev pub taken : ℕ → ℕ → Option ℕ → Option Character
taken w least None = None
taken w least (Some c) = when (leb least c && scalar c) (character c w)

-- the character that the octet a begins and t goes on, by the length that a announces (RFC 3629, section 3, the rows of the table)
abbrev pub sequence : Option ℕ → ℕ → List ℕ → Option Character
sequence None a t = None
sequence (Some n) a t =
    cond (eqb n 1) (Some (character a 1))
    (cond (eqb n 2) (taken 2 0x80 (trailed 1 (a - 0xC0) t))
    (cond (eqb n 3) (taken 3 0x800 (trailed 2 (a - 0xE0) t))
    (cond (eqb n 4) (taken 4 0x10000 (trailed 3 (a - 0xF0) t)) None)))

-- the character at the front of a text, by its first octet, or none
unfoldable pub decode : List ℕ → Option Character
decode [] = None
decode (a ∷ t) = sequence (announced a) a t

-- the characters of a text, or none: "A text is valid if it is UTF-8 by RFC 3629"
abbrev pub characters : List ℕ → Option (List Character)
characters t = characters_by decode t

-- ---- the same by ranges

-- the length by the range in which an octet stands: of every octet the one that it announces (`announced-range` of
-- proofs/Lengths.antt)
abbrev pub by_range : ℕ → Option ℕ
by_range a =
    cond (ltb a 0x80) (Some 1)
    (cond (ltb a 0xC0) None
    (cond (ltb a 0xE0) (Some 2)
    (cond (ltb a 0xF0) (Some 3)
    (cond (ltb a 0xF8) (Some 4) None))))

-- ---- the same by encoding

-- code points as characters, each as wide as its octets
abbrev pub as_characters : List ℕ → List Character
as_characters cs = map (λ (c : ℕ). character c (length (encode c))) cs

-- a text is the encoding of scalar code points, and these are its characters: of exactly such texts `characters` gives them
-- (`characters-exactly` of proofs/Characters.antt)
pub record Encodes (t : List ℕ) (chs : List Character) : Type 0 where
  pub scalars : all scalar (codes_of chs) ≡ true
  pub octets : t ≡ encodes (codes_of chs)
  pub widths : chs ≡ as_characters (codes_of chs)
