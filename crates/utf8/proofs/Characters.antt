-- UTF-8 is a decoder (`utf8-decodes`), and a text has characters exactly when it is the encoding of scalar code points, one after
-- another (`characters-exactly`); so encodings of different code points differ (`encodes-injective`).
-- Assumes nothing.
use mathlib.Core.Path.{◌≡◌, refl, sym, ◌∙◌, ap, ap₂}
use mathlib.Core.Bool.{true}
use Rattle.std.specs.Prelude.{Some}
use mathlib.Core.Logic.{◌↔◌}
use mathlib.Core.List.{List, [], ◌∷◌, ◌++◌}
use Prim.Native.Nat.{ℕ, ◌≤◌}
use native.Mathlib.Omega.{arith}
use lib.ListN.{length, drop, length-append}
use lib.Seq.{drop-append_seam}
use Rattle.terms.specs.Lists.{all, each}
use Rattle.terms.proofs.Lists.{all_first, all_rest}
use Rattle.utf8.specs.Characters.{codes_of, Decodes, characters-nil, characters-more}
use Rattle.utf8.specs.Utf8.{scalar, encode, encodes, Character, character, decode, characters, as_characters, Encodes}
use Rattle.utf8.proofs.Encode.{encode-width}
use Rattle.utf8.proofs.Decode.{decode-encode, decode-sound}
use Rattle.utf8.proofs.Decoders.{characters-cons, characters-empty, characters-scalars}

-- what UTF-8 reads takes an octet or more and no more than there are, and is scalar
pub utf8-decodes : Decodes decode
utf8-decodes = record { fits = fits; scalars = λ t ch e. (decode-sound t ch e).is_scalar }
  where
    fits : (t : List ℕ) (ch : Character) → decode t ≡ Some ch → (1 ≤ ch.width) × (ch.width ≤ length t)
    fits t ch e =
        let s = decode-sound t ch e in
        let most = length-append (encode ch.code) (drop ch.width t) in
        omega (arith, s.wide, (encode-width ch.code).0, ap length s.octets, most)

-- the encoding of scalar code points has just these for its characters
pub characters-encodes : (cs : List ℕ) → all scalar cs ≡ true → characters (encodes cs) ≡ Some (as_characters cs)
unfolding each
characters-encodes [] e = characters-nil utf8-decodes
characters-encodes (c ∷ cs) e =
    let first = decode-encode c (encodes cs) (all_first scalar c cs e) in
    characters-more utf8-decodes (encode c ++ encodes cs) (character c (length (encode c))) first
    ∙ rw (drop-append_seam (encode c) (encodes cs), characters-encodes cs (all_rest scalar c cs e))

sound : (t : List ℕ) (chs : List Character) → characters t ≡ Some chs → Encodes t chs
unfolding each
sound t [] e = record { scalars = refl; octets = characters-empty utf8-decodes t e; widths = refl }
sound t (ch ∷ chs) e =
    let first = characters-cons utf8-decodes t ch chs e in
    let one = decode-sound t ch first.0 in
    let rest = sound (drop ch.width t) chs first.1 in
    record {
      scalars = characters-scalars utf8-decodes t (ch ∷ chs) e;
      octets = one.octets ∙ ap (λ (l : List ℕ). encode ch.code ++ l) rest.octets;
      widths = ap₂ (λ (x : Character) (l : List Character). x ∷ l) (ap (character ch.code) one.wide) rest.widths;
    }

-- a text has these characters exactly when it is the encoding of their scalar code points
pub characters-exactly : (t : List ℕ) (chs : List Character) → (characters t ≡ Some chs) ↔ Encodes t chs
characters-exactly t chs = (sound t chs, is-there)
  where
    is-there : Encodes t chs → characters t ≡ Some chs
    is-there s =
        ap (λ (l : List ℕ). characters l) s.octets ∙ characters-encodes (codes_of chs) s.scalars ∙ ap Some (sym s.widths)

codes : (cs : List ℕ) → codes_of (as_characters cs) ≡ cs
codes [] = refl
codes (c ∷ cs) = ap (λ (l : List ℕ). c ∷ l) (codes cs)

-- scalar code points with the same octets one after another are the same
pub encodes-injective : (cs ds : List ℕ) → all scalar cs ≡ true → all scalar ds ≡ true → encodes cs ≡ encodes ds → cs ≡ ds
encodes-injective cs ds p q e =
    let same : as_characters cs ≡ as_characters ds = cc (characters-encodes cs p, characters-encodes ds q) in
    sym (codes cs) ∙ ap codes_of same ∙ codes ds
